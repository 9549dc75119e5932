use Rattle.std.proofs.Common.{◌≡◌, ◌-◌, length, drop}
use Rattle.std.specs.Prelude.{map}
use Rattle.dg_shape.specs.Orders.{meant, ordered}
use Rattle.dg_shape.proofs.ordering.order.Given as goal

abbrev pub invariant-loop-i : goal.invariant-loop-i
invariant-loop-i l = l.list.items ≡ ordered (map meant (drop (length l.by - l.i) l.by)) l.nodes
