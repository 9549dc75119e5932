use Rattle.std.proofs.Common.{◌≡◌, ◌<◌, true, false, length, set, sym, ap, ◌∙◌, rules, arith}
use Rattle.std.specs.Prelude.{bytes_eq, Option, Some, None, if◌then◌else◌}
use Rattle.std.proofs.lemmas.List.{get_or_default}
use Rattle.dg_tree.specs.declared.tree.Tree.{Tree}
use Rattle.dg_tree.specs.declared.tree.Field.{Field}
use Rattle.dg_parse.specs.Keys.{key_of}
use Rattle.dg_shape.specs.Asked.{asked_by, asked_by_item}
use Rattle.dg_shape.specs.Strip.{shown_fields, node_shown, something, shown_below, to_show}
use Rattle.dg_shape.proofs.AskedLaws.{asked_key, asked_left}
use Rattle.dg_shape.proofs.Turns.{one_more}
use Rattle.dg_shape.proofs.ShownTurns.{past_end, other_first, passed_first}
use Rattle.dg_shape.proofs.stripping.+strip.Goals as goal

pub show_all-loop-i-preserved : goal.show_all-loop-i-preserved
show_all-loop-i-preserved t c =
    let f : Tree → Option Tree = λ tree. something (node_shown (shown_fields (to_show c.args.fields.now)) tree) in
    let long = c.loop-i.invariant.2 in
    let within : c.loop-i.i < length c.args.items.now = omega (arith, long) in
    let same = c.loop-i.invariant.3 c.loop-i.i c.index-items-i.result (omega arith) in
    one_more f c.args.items.now c.loop-i.items c.loop-i.i c.loop-i.kept c.index-items-i.result c.replace-item.new.dest c.loop-i.invariant within
    c.left_of.result (ap f (sym same ∙ sym c.replace-item.ensures.value) ∙ (ap something (sym c.in_ok-item.ensures) ∙ sym c.left_of.ensures)) c.keep-kept.result c.keep-kept.new.items c.keep-kept.ensures.count c.keep-kept.ensures.items

pub show_field-returns-then-places-parts-clause-shown : goal.show_field-returns-then-places-parts-clause-shown
show_field-returns-then-places-parts-clause-shown t c more =
    past_end c.args.parts.now c.args.places.kept c.args.places.at (asked_by shown_below c.args.field.now) more c.if-places-parts.true

pub show_field-returns-then-not-is_key_of-clause-shown : goal.show_field-returns-then-not-is_key_of-clause-shown
show_field-returns-then-not-is_key_of-clause-shown t c more =
    let f = c.index-parts-places.result in
    let within : c.args.places.at < length c.args.parts.now = omega arith in
    let told : bytes_eq c.index-parts-places.result.key (key_of c.args.field.now) ≡ false = search rules in
    other_first c.args.parts.now c.args.places.kept c.args.places.at (asked_by shown_below c.args.field.now) more f within c.index-parts-places.is
    ((λ i. bytes_eq f.key (asked_key shown_below c.args.field.now i)) ∙ told)

pub show_field-returns-clause-shown : goal.show_field-returns-clause-shown
show_field-returns-clause-shown t c more =
    let f = c.index-parts-places-2.result in
    let first = c.index-parts-places.result in
    let within : c.args.places.at < length c.args.parts.now = omega arith in
    let same : first ≡ f = c.index-parts-places.is ∙ (get_or_default c.args.parts.now c.args.places.at first f within ∙ sym c.index-parts-places-2.is) in
    let told : bytes_eq c.index-parts-places.result.key (key_of c.args.field.now) ≡ true = search rules in
    let left : (asked_by_item shown_below c.args.field.now.item).left f.tree ≡ (if c.in_ok-stays.stays then Some c.show_under.new.tree else None) = (λ i. ((asked_by_item shown_below c.args.field.now.item).left (c.index-parts-places-2.is i).tree)) ∙ c.in_ok-stays.ensures in
    let part : Field → Field = λ g. record { key = g.key; tree = c.show_under.new.tree } in
    passed_first c.args.parts.now c.args.places.kept c.args.places.at (asked_by shown_below c.args.field.now) more f c.requires within c.index-parts-places-2.is
    ((λ i. bytes_eq (sym same i).key (asked_key shown_below c.args.field.now i)) ∙ told)
    c.show_under.new.tree c.in_ok-stays.stays (asked_left shown_below c.args.field.now f.tree ∙ left)
    _ (ap (λ g. set c.args.parts.now c.args.places.at (part g)) (sym c.index-parts-places-2.is)) c.pass.new.parts c.pass.result.kept c.pass.result.at c.pass.ensures.next c.pass.ensures.shown c.pass.ensures.rest
