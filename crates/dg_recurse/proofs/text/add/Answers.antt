use Rattle.std.proofs.Common.{◌≡◌, ℕ, List, [], ◌++◌, ap, ◌∙◌, rules}
use Rattle.dg_recurse.specs.Rows.{comma_behind}
use Rattle.dg_recurse.proofs.RowLaws.{before_passes, text_passes}
use Rattle.dg_recurse.proofs.text.add.Goals as goal

pub returns-in_err-push-2-clause-too_large : goal.returns-in_err-push-2-clause-too_large
returns-in_err-push-2-clause-too_large c = λ e.
    let one : c.push.new.out ≡ c.args.out.now ++ comma_behind c.args.out.now = c.in_ok-push.ensures.ok ∙ ap (λ (comma : List ℕ). c.args.out.now ++ comma) c.comma_behind-comma.ensures in
    let some : c.args.text.now ≡ [] → ⊥ = search rules in
    before_passes c.args.out.now c.args.before.now c.args.text.now c.args.behind.now some c.args.limit c.push.new.out one (c.push-2.ensures.too_large (search rules))

pub returns-in_err-push-3-clause-too_large : goal.returns-in_err-push-3-clause-too_large
returns-in_err-push-3-clause-too_large c = λ e.
    let one : c.push.new.out ≡ c.args.out.now ++ comma_behind c.args.out.now = c.in_ok-push.ensures.ok ∙ ap (λ (comma : List ℕ). c.args.out.now ++ comma) c.comma_behind-comma.ensures in
    let some : c.args.text.now ≡ [] → ⊥ = search rules in
    text_passes c.args.out.now c.args.before.now c.args.text.now c.args.behind.now some c.args.limit c.push.new.out one c.push-2.new.out c.in_ok-push-2.ensures.ok (c.push-3.ensures.too_large (search rules))
