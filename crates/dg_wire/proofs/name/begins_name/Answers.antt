use Rattle.std.proofs.Common.{◌≡◌, ◌≤◌, [], length, ap, sym, subst, ◌∙◌, inl, inr, arith}
use Rattle.std.proofs.lemmas.Bool.Decides.{nat_tests}
use Rattle.std.proofs.lemmas.List.{append-nil}
use Rattle.dg_wire.specs.Frames.{IsName}
use Rattle.dg_wire.specs.Cuts.{Begins}
use Rattle.dg_wire.proofs.NameCuts.{name_front, name_before_dot, dot_begins, empty_begins}
use Rattle.dg_wire.proofs.name.begins_name.Goals as goal

pub returns-then-name-le-MAX_NAME : goal.returns-then-name-le-MAX_NAME
returns-then-name-le-MAX_NAME c =
    let is = c.in-Some.ensures in
    (λ h. subst (Begins IsName) (sym is) (dot_begins c.in-Some.name.now (omega arith) (sym c.is_name.ensures ∙ h)), λ begins. c.is_name.ensures ∙ (name_before_dot c.in-Some.name.now (subst (Begins IsName) is begins)).1)

pub returns-else-name-le-MAX_NAME : goal.returns-else-name-le-MAX_NAME
returns-else-name-le-MAX_NAME c =
    let is = c.in-Some.ensures in
    (λ h. absurd (grind (arith, nat_tests)), λ begins. let room : length c.in-Some.name.now ≤ 62 = (name_before_dot c.in-Some.name.now (subst (Begins IsName) is begins)).0 in absurd (omega arith))

pub returns-then-is_empty : goal.returns-then-is_empty
returns-then-is_empty c =
    let none : length c.args.bytes.now ≡ 0 = grind (arith, nat_tests, c.if-is_empty.ensures) in
    (λ _. empty_begins c.args.bytes.now none, λ _. c.if-is_empty.true)

pub returns-else-is_empty : goal.returns-else-is_empty
returns-else-is_empty c = (
  λ h. ([], subst IsName (sym (append-nil c.args.bytes.now)) (sym c.is_name-else-is_empty.ensures ∙ h)),
  λ begins. elim (name_front c.args.bytes.now c.in-None.ensures begins) [ inl e ↦ absurd (let none : length c.args.bytes.now ≡ 0 = ap length e in grind (arith, nat_tests, c.if-is_empty.ensures)) | inr h ↦ c.is_name-else-is_empty.ensures ∙ h ],
)
