use Rattle.std.proofs.Common.{ℕ, ◌<◌, List, length, rules, refl, ◌∙◌, subst}
use Rattle.std.proofs.lemmas.Result.{on_ok_weaker}
use Rattle.dg_level.specs.Aggregates.{aggregates_shown}
use Rattle.dg_level.proofs.AggregatePlans.{bracket_passes, array_written, objects_pass}
use Rattle.dg_level.proofs.aggregates.push_aggregates.Goals as goal

pub returns-in_err-mark-clause-too_large : goal.returns-in_err-mark-clause-too_large
returns-in_err-mark-clause-too_large c = λ schema ds are e.
    let objects = aggregates_shown ds c.args.folds.now c.args.fields.now in
    bracket_passes c.args.out.now objects 16777216 (c.mark.ensures.too_large (search rules))

pub returns-in_err-push_objects-clause-too_large : goal.returns-in_err-push_objects-clause-too_large
returns-in_err-push_objects-clause-too_large c = λ schema ds are e.
    let objects = aggregates_shown ds c.args.folds.now c.args.fields.now in
    objects_pass c.args.out.now objects c.mark.new.self _ c.in_ok-mark.ensures.ok refl 16777216 (c.push_objects.ensures.too_large schema ds are (search rules))

pub returns-clause-ok : goal.returns-clause-ok
returns-clause-ok c = λ schema ds are.
    let objects = aggregates_shown ds c.args.folds.now c.args.fields.now in
    on_ok_weaker c.mark-2.result (λ e. e ∙ array_written c.args.out.now objects c.mark.new.self c.push_objects.new.out c.in_ok-mark.ensures.ok (c.in_ok-push_objects.ensures.ok schema ds are)) c.mark-2.ensures.ok

pub returns-clause-too_large : goal.returns-clause-too_large
returns-clause-too_large c = λ schema ds are e.
    let objects = aggregates_shown ds c.args.folds.now c.args.fields.now in
    subst (λ (w : List ℕ). 16777216 < length w) (array_written c.args.out.now objects c.mark.new.self c.push_objects.new.out c.in_ok-mark.ensures.ok (c.in_ok-push_objects.ensures.ok schema ds are)) (c.mark-2.ensures.too_large e)
