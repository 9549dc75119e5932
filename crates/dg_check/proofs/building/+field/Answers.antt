use Rattle.std.proofs.Common.{rules, ◌≡◌, ◌<◌, length, List, [], ◌∷◌, ◌++◌, refl, sym, subst}
use Rattle.std.specs.Prelude.{Some, None}
use Rattle.dg_parse.specs.declared.query.QItem.TheVariants as items
use Rattle.dg_check.specs.declared.parts.Field.{Field}
use Rattle.dg_check.specs.declared.parts.Item.TheVariants as shown
use Rattle.dg_check.specs.Parts.{IsItemOf, IsFieldOf, AreFieldsOf, no_field, asked_of_field}
use Rattle.dg_check.proofs.PartLaws.{turn, field_added}
use Rattle.dg_check.proofs.BuildLaws.{field_made, nothing_made, value_made, edge_made, bare_made, dirs_at, fields_at}
use Rattle.dg_check.proofs.building.+field.Goals as goal

pub fields_of-loop-field-preserved : goal.fields_of-loop-field-preserved
fields_of-loop-field-preserved t c =
    let i = c.loop-field.field-index in
    let all = c.args.fields.now in
    let within : i < length all = search rules in
    let pushed : c.push.new.self.items ≡ c.loop-field.out.items ++ c.in_ok-next.next ∷ [] = search rules in
    λ schema ds. turn schema ds asked_of_field (IsFieldOf schema ds) (AreFieldsOf schema ds) (λ (f : Field). f ∷ []) (λ qs fs q f are is_. field_added schema ds qs fs q f are is_)
    all i c.field-item.result c.in_ok-next.next c.field_of.result c.loop-field.out.items c.push.new.self.items c.args.reads.now.items c.loop-field.reads.items c.field_of.new.reads.items
    within c.field-item.is c.in_ok-next.was (λ after. c.field_of.ensures schema ds after) pushed (c.loop-field.invariant schema ds)

pub fields_of-loop-field-init : goal.fields_of-loop-field-init
fields_of-loop-field-init t c = λ schema ds after u. (subst (λ (l : List Field). AreFieldsOf schema ds [] l) (sym c.new-out.ensures.items) no_field, u)

pub item_of-returns-in-None : goal.item_of-returns-in-None
item_of-returns-in-None t c =
    let e = c.in-Edge.edge in
    let args = c.in-Edge.args in
    let dirs = c.in-Edge.dirs in
    let is_ : c.args.item.now ≡ items.Edge e args dirs None = search rules in
    λ schema ds after u.
    subst (λ (l : List Field). IsItemOf schema ds c.args.item.now (shown.Edge c.next_orders-orders.result c.in_ok-filters-in-Edge.filters l) × (c.filters_in.new.reads.items ≡ after)) (sym c.new-fields.ensures)
    (bare_made schema ds args dirs c.next_orders-orders.result c.in_ok-filters-in-Edge.filters c.args.reads.now.items c.next_orders-orders.new.reads.items c.filters_in.new.reads.items c.filters_in.result
    c.next_orders-orders.ensures.first c.next_orders-orders.ensures.rest c.in_ok-filters-in-Edge.was
    (dirs_at schema ds c.as_slice.result.now dirs c.filters_in.result c.next_orders-orders.new.reads.items c.filters_in.new.reads.items c.as_slice.ensures (λ after. c.filters_in.ensures schema ds after))
    c.args.item.now e is_ after u)

pub item_of-returns-in_ok-fields-in-Some : goal.item_of-returns-in_ok-fields-in-Some
item_of-returns-in_ok-fields-in-Some t c =
    let e = c.in-Edge.edge in
    let args = c.in-Edge.args in
    let dirs = c.in-Edge.dirs in
    let is_ : c.args.item.now ≡ items.Edge e args dirs (Some c.in-Some.braces) = search rules in
    λ schema ds.
    edge_made schema ds args dirs c.next_orders-orders.result c.in_ok-filters-in-Edge.filters c.args.reads.now.items c.next_orders-orders.new.reads.items c.filters_in.new.reads.items c.filters_in.result
    c.next_orders-orders.ensures.first c.next_orders-orders.ensures.rest c.in_ok-filters-in-Edge.was
    (dirs_at schema ds c.as_slice.result.now dirs c.filters_in.result c.next_orders-orders.new.reads.items c.filters_in.new.reads.items c.as_slice.ensures (λ after. c.filters_in.ensures schema ds after))
    c.in-Some.braces c.in_ok-fields-in-Some.fields c.fields_of.new.reads.items c.fields_of.result c.in_ok-fields-in-Some.was
    (fields_at schema ds c.as_slice-in-Some.result.now c.in-Some.braces c.fields_of.result c.filters_in.new.reads.items c.fields_of.new.reads.items c.as_slice-in-Some.ensures (λ after. c.fields_of.ensures schema ds after))
    c.args.item.now e is_

pub item_of-returns-in-Val : goal.item_of-returns-in-Val
item_of-returns-in-Val t c = λ schema ds. value_made schema ds c.args.item.now c.next_val.result c.args.reads.now.items c.next_val.new.reads.items c.in-Val.is c.next_val.ensures.first c.next_val.ensures.rest

pub item_of-returns-in-Uid : goal.item_of-returns-in-Uid
item_of-returns-in-Uid t c = λ schema ds. nothing_made schema ds c.args.item.now c.args.reads.now.items c.in-Uid.is

pub field_of-returns : goal.field_of-returns
field_of-returns t c =
    λ schema ds. field_made schema ds c.args.field.now _ c.item_of.result c.in_ok-item.item c.args.reads.now.items c.var_of-var.new.reads.items c.item_of.new.reads.items c.in_ok-item.was refl
    (λ after. c.var_of-var.ensures schema ds after) (λ after. c.item_of.ensures schema ds after)
