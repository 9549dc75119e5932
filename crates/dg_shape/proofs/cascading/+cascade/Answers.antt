use Rattle.std.proofs.Common.{◌<◌, length, sym, ap, ◌∙◌, rules, arith}
use Rattle.dg_shape.specs.Cascade.{remaining, node_cut, cut_below, to_remain}
use Rattle.dg_shape.proofs.AskedLaws.{edge_leaves}
use Rattle.dg_shape.proofs.Turns.{one_more}
use Rattle.dg_shape.proofs.cascading.+cascade.Goals as goal

pub cut_all-loop-i-preserved : goal.cut_all-loop-i-preserved
cut_all-loop-i-preserved t c =
    let f = node_cut (remaining (to_remain c.args.fields.now)) in
    let long = c.loop-i.invariant.2 in
    let within : c.loop-i.i < length c.args.items.now = omega (arith, long) in
    let same = c.loop-i.invariant.3 c.loop-i.i c.index-items-i.result (omega arith) in
    one_more f c.args.items.now c.loop-i.items c.loop-i.i c.loop-i.kept c.index-items-i.result c.replace-item.new.dest c.loop-i.invariant within
    c.cut_one.result (ap f (sym same ∙ sym c.replace-item.ensures.value) ∙ sym c.cut_one.ensures) c.keep-kept.result c.keep-kept.new.items c.keep-kept.ensures.count c.keep-kept.ensures.items

pub cut_item-returns-in-Some : goal.cut_item-returns-in-Some
cut_item-returns-in-Some t c =
    c.cut.ensures ∙ (ap (λ fs. cut_below (to_remain fs) c.args.tree) c.as_slice.ensures ∙ sym (edge_leaves cut_below c.args.item.now c.in-Edge.edge c.in-Edge.args c.in-Edge.dirs c.in-Some.fields c.args.tree (search rules)))
