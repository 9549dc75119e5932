use Rattle.std.proofs.Common.{◌≡◌, ◌<◌, ◌≤◌, false, length, get_or, ap, sym, subst, ◌∙◌, rules, arith}
use Rattle.std.specs.Prelude.{◌||◌, is_some}
use Rattle.std.specs.List.{list_any}
use Rattle.std.proofs.lemmas.List.Folds.{list_any_more}
use Rattle.dg_level.specs.Defining.{field_defines, item_defines, FieldsGiveNothing}
use Rattle.dg_level.proofs.DefiningLaws.{edge_defines, field_nothing, plain_nothing, edge_nothing, from_nothing, all_nothing, unset}
use Rattle.dg_level.proofs.defining.+defining.Goals as goal

pub field_defines-returns-clause-nothing : goal.field_defines-returns-clause-nothing
field_defines-returns-clause-nothing t c =
    let none : is_some c.args.field.now.var ≡ false = search rules in
    λ no. field_nothing c.args.field.now (unset c.args.field.now.var none) (c.item_defines.ensures.nothing no)

pub item_defines-returns-in-Edge-clause-exact : goal.item_defines-returns-in-Edge-clause-exact
item_defines-returns-in-Edge-clause-exact t c =
    let e = c.in-Edge in
    c.any_defines.ensures.exact ∙ (ap (list_any field_defines) c.as_slice.ensures ∙ (sym (edge_defines e.orders e.filters e.fields) ∙ ap item_defines (sym e.is)))

pub item_defines-returns-in-Edge-clause-nothing : goal.item_defines-returns-in-Edge-clause-nothing
item_defines-returns-in-Edge-clause-nothing t c =
    let e = c.in-Edge in
    λ no. edge_nothing c.args.item.now e.orders e.filters e.fields e.is (subst FieldsGiveNothing c.as_slice.ensures (c.any_defines.ensures.nothing no))

pub item_defines-returns-in-Plain-clause-nothing : goal.item_defines-returns-in-Plain-clause-nothing
item_defines-returns-in-Plain-clause-nothing t c = λ no. plain_nothing c.args.item.now c.in-Plain.is

pub item_defines-returns-in-Plain-2-clause-nothing : goal.item_defines-returns-in-Plain-2-clause-nothing
item_defines-returns-in-Plain-2-clause-nothing t c = λ no. plain_nothing c.args.item.now c.in-Plain.is

pub any_defines-loop-field-preserved : goal.any_defines-loop-field-preserved
any_defines-loop-field-preserved t c =
    let fields = c.args.fields.now in
    let i = c.loop-field.field-index in
    let field = c.field-item.result in
    let lt : i < length fields = omega (arith, c.loop-field-test.true) in
    let no : field_defines (get_or fields i field) ≡ false = ap field_defines (sym c.field-item.is) ∙ (sym c.field_defines.ensures.exact ∙ c.if-field_defines.false) in
    record {
      none = list_any_more field_defines fields i field lt ∙ (λ j. c.loop-field.invariant.none j || no j);
      rest = λ rest. c.loop-field.invariant.rest (from_nothing fields i field lt c.field-item.is (c.field_defines.ensures.nothing c.if-field_defines.false) rest);
    }

pub any_defines-returns-clause-nothing : goal.any_defines-returns-clause-nothing
any_defines-returns-clause-nothing t c =
    let past : length c.args.fields.now ≤ c.loop-field.field-index = omega (arith, c.loop-field-test.false) in
    λ no. c.loop-field.invariant.rest (all_nothing c.args.fields.now c.loop-field.field-index past)
