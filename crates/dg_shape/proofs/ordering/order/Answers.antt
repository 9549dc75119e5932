use Rattle.std.proofs.Common.{◌-◌, length, drop, sym, ◌∙◌}
use Rattle.std.specs.Prelude.{map}
use Rattle.dg_shape.specs.Orders.{meant, ordered}
use Rattle.dg_shape.proofs.KeyTurns.{no_key_yet, one_key_more}
use Rattle.dg_shape.proofs.ordering.order.Goals as goal

pub loop-i-init : goal.loop-i-init
loop-i-init c = c.in_ok-list.ensures.items ∙ (c.as_slice.ensures.items ∙ sym (no_key_yet c.args.by.now c.args.nodes.now c.as_slice.ensures.ascend))

pub loop-i-preserved : goal.loop-i-preserved
loop-i-preserved c =
    c.in_ok-list-2.ensures (map meant (drop (length c.args.by.now - c.loop-i.i) c.args.by.now)) c.args.nodes.now c.loop-i.invariant
    ∙ λ j. ordered (one_key_more c.args.by.now c.loop-i.i c.index-by-by.result c.loop-i-test.true c.index-by-by.is j) c.args.nodes.now
