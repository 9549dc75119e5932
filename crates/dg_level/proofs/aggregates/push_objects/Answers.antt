use Rattle.std.proofs.Common.{◌≡◌, ℕ, ◌<◌, List, ◌++◌, map, length, rules, arith, ap, ◌∙◌, subst}
use Rattle.dg_parse.specs.declared.query.QItem.TheViews.{out-QItem}
use Rattle.dg_check.specs.declared.parts.Item.TheViews.{out-Item}
use Rattle.dg_level.specs.PlannedAggregates.{aggregate_kept, objects_by}
use Rattle.dg_check.specs.Parts.{IsItemOf}
use Rattle.dg_parse.specs.Keys.{key_of}
use Rattle.dg_tree.specs.Texts.{tree_text}
use Rattle.dg_level.specs.Aggregates.{objects_of_field}
use Rattle.dg_level.specs.Parts.{parts_text, has_parts}
use Rattle.dg_level.proofs.AggregatePlans.{as_many, item_at, objects_alike}
use Rattle.dg_level.proofs.RunLaws.{one_written, one_there, one_passes}
use Rattle.dg_level.proofs.aggregates.push_objects.Goals as goal

pub returns-then-place-kept-clause-ok : goal.returns-then-place-kept-clause-ok
returns-then-place-kept-clause-ok c = λ schema ds are. absurd (omega (arith, c.loop-place-test.true, c.if-place-kept.true, as_many schema ds c.args.fields.now c.args.kept.now are))

pub returns-in_err-wrote-clause-too_large : goal.returns-in_err-wrote-clause-too_large
returns-in_err-wrote-clause-too_large c = λ schema ds are e.
    let vars = c.args.folds.now in
    let fields = c.args.fields.now in
    let l = c.loop-place in
    let field = c.index-fields-place.result in
    let part = c.index-kept-place.result in
    let lt : l.place < length fields = omega (arith, c.loop-place-test.true) in
    let is : IsItemOf schema ds field.item part.item = item_at schema ds fields c.args.kept.now are l.place field part lt c.index-fields-place.is c.index-kept-place.is in
    let texts : map tree_text (objects_by vars (key_of field) (aggregate_kept (out-QItem field.item) (out-Item part.item))) ≡ map tree_text (objects_of_field ds vars field) = ap (map tree_text) (objects_alike schema ds vars (key_of field) field.item part.item is) in
    let so_far = l.invariant schema ds are in
    let above = c.push_field.ensures.too_large (search rules) in
    one_passes (objects_of_field ds vars) tree_text fields l.place field lt c.index-fields-place.is c.args.out.now l.out l.wrote so_far.0 so_far.1 16777216 (subst (λ (ts : List (List ℕ)). 16777216 < length (l.out ++ parts_text l.wrote ts)) texts above)

pub loop-place-preserved : goal.loop-place-preserved
loop-place-preserved c = λ schema ds are.
    let vars = c.args.folds.now in
    let fields = c.args.fields.now in
    let l = c.loop-place in
    let field = c.index-fields-place.result in
    let part = c.index-kept-place.result in
    let lt : l.place < length fields = omega (arith, c.loop-place-test.true) in
    let is : IsItemOf schema ds field.item part.item = item_at schema ds fields c.args.kept.now are l.place field part lt c.index-fields-place.is c.index-kept-place.is in
    let texts : map tree_text (objects_by vars (key_of field) (aggregate_kept (out-QItem field.item) (out-Item part.item))) ≡ map tree_text (objects_of_field ds vars field) = ap (map tree_text) (objects_alike schema ds vars (key_of field) field.item part.item is) in
    let so_far = l.invariant schema ds are in (
      one_written (objects_of_field ds vars) tree_text fields l.place field lt c.index-fields-place.is c.args.out.now l.out l.wrote so_far.0 so_far.1 c.push_field.new.out (c.in_ok-wrote.ensures.ok ∙ ap (λ ts. l.out ++ parts_text l.wrote ts) texts),
      one_there (objects_of_field ds vars) tree_text fields l.place field lt c.index-fields-place.is c.args.out.now l.out l.wrote so_far.0 so_far.1 c.in_ok-wrote.wrote (c.in_ok-wrote.ensures.wrote ∙ ap (has_parts l.wrote) texts),
    )
