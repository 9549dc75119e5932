use Rattle.std.proofs.Common.{◌≡◌, ◌<◌, length, arith, sym, ap, ◌∙◌}
use Rattle.std.specs.Prelude.{option_copied}
use Rattle.dg_level.specs.Aggregates.{beyond_of_field}
use Rattle.dg_level.specs.Meaning.{first_name}
use Rattle.dg_level.proofs.AggregatePlans.{as_many, item_at, beyond_alike, none_more, first_found, some_mapped}
use Rattle.dg_level.proofs.aggregates.beyond_in_fields.Goals as goal

pub returns-then-place-kept : goal.returns-then-place-kept
returns-then-place-kept c = λ schema ds are. absurd (omega (arith, c.loop-place-test.true, c.if-place-kept.true, as_many schema ds c.args.fields.now c.args.kept.now are))

pub returns-then-is_some : goal.returns-then-is_some
returns-then-is_some c = λ schema ds are.
    let vars = c.args.folds.now in
    let fields = c.args.fields.now in
    let i = c.loop-place.place in
    let field = c.index-fields-place.result in
    let part = c.index-kept-place.result in
    let lt : i < length fields = omega (arith, c.loop-place-test.true) in
    let is = item_at schema ds fields c.args.kept.now are i field part lt c.index-fields-place.is c.index-kept-place.is in
    let found : option_copied c.beyond_in_field-found.result ≡ first_name (beyond_of_field ds vars field) = c.beyond_in_field-found.ensures ∙ ap first_name (beyond_alike schema ds vars field.item part.item is) in
    first_found (beyond_of_field ds vars) fields i field lt c.index-fields-place.is (c.loop-place.invariant schema ds are) _ found (some_mapped _ c.beyond_in_field-found.result ∙ sym c.is_some.ensures ∙ c.if-is_some.true)

pub loop-place-preserved : goal.loop-place-preserved
loop-place-preserved c = λ schema ds are.
    let vars = c.args.folds.now in
    let fields = c.args.fields.now in
    let i = c.loop-place.place in
    let field = c.index-fields-place.result in
    let part = c.index-kept-place.result in
    let lt : i < length fields = omega (arith, c.loop-place-test.true) in
    let is = item_at schema ds fields c.args.kept.now are i field part lt c.index-fields-place.is c.index-kept-place.is in
    let found : option_copied c.beyond_in_field-found.result ≡ first_name (beyond_of_field ds vars field) = c.beyond_in_field-found.ensures ∙ ap first_name (beyond_alike schema ds vars field.item part.item is) in
    none_more (beyond_of_field ds vars) fields i field lt c.index-fields-place.is (c.loop-place.invariant schema ds are) _ found (some_mapped _ c.beyond_in_field-found.result ∙ sym c.is_some.ensures ∙ c.if-is_some.false)
