use Rattle.std.proofs.Common.{rules, ◌<◌, ◌∙◌, sym, length}
use Rattle.std.specs.Prelude.{string_bytes, map}
use Rattle.dg_node.proofs.WordLemmas.{first_is, no_front, no_equals}
use Rattle.dg_node.proofs.words.value_at.Goals as goal

pub returns-in_err-left-clause-none : goal.returns-in_err-left-clause-none
returns-in_err-left-clause-none c = rw c.from_residual-in_err-left.ensures (λ value rest.
    no_front c.args.option.now value (string_bytes c.in_ok-first.first.now) (map (λ w. string_bytes w) c.args.words.now) (map (λ w. string_bytes w) c.in_ok-first.rest.now) rest (first_is (λ w. string_bytes w) c.args.words.now c.in_ok-first.rest.now c.in_ok-first.first.now c.in_ok-first.ensures.cases.0)
    (λ left e. c.in_err-left.ensures left (c.as_str.ensures.value ∙ e)))

pub returns-in_err-value-clause-none : goal.returns-in_err-value-clause-none
returns-in_err-value-clause-none c =
    let some : 0 < length c.in_ok-left.left.now = search rules in
    rw c.from_residual-in_err-value.ensures (λ value rest.
    no_equals c.args.option.now value (string_bytes c.in_ok-first.first.now) c.in_ok-left.left.now (map (λ w. string_bytes w) c.args.words.now) (map (λ w. string_bytes w) c.in_ok-first.rest.now) rest (first_is (λ w. string_bytes w) c.args.words.now c.in_ok-first.rest.now c.in_ok-first.first.now c.in_ok-first.ensures.cases.0)
    (sym c.as_str.ensures.value ∙ c.in_ok-left.ensures) some (λ value. c.in_err-value.ensures value))
