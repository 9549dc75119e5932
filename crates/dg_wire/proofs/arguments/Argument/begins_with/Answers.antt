use Rattle.std.proofs.Common.{◌≡◌, length, ap, inl, inr, arith}
use Rattle.std.proofs.lemmas.Bool.Decides.{nat_tests}
use Rattle.dg_wire.proofs.NumberCuts.{number_argument, empty_argument, whole_argument}
use Rattle.dg_wire.proofs.arguments.Argument.begins_with.Goals as goal

pub returns-then-is_empty : goal.returns-then-is_empty
returns-then-is_empty c =
    let none : length c.args.word.now ≡ 0 = grind (arith, nat_tests, c.if-is_empty.ensures) in
    (λ _. empty_argument c.args.self c.args.word.now none, λ _. c.if-is_empty.true)

pub returns-else-is_empty : goal.returns-else-is_empty
returns-else-is_empty c = (
  λ h. whole_argument c.args.self c.args.word.now (c.accepts.ensures.0 h),
  λ begins. elim (number_argument c.args.self c.args.word.now c.in_default.not-Name begins) [ inl e ↦ absurd (let none : length c.args.word.now ≡ 0 = ap length e in grind (arith, nat_tests, c.if-is_empty.ensures)) | inr h ↦ c.accepts.ensures.1 h ],
)
