use Rattle.std.proofs.Common.{◌≡◌, map, take}
use Rattle.dg_shape.specs.Orders.{meant}
use Rattle.dg_level.specs.OrderKeys.{keyed}
use Rattle.dg_level.proofs.order_keys.keys_over.Given as goal

abbrev pub invariant-loop-place : goal.invariant-loop-place
invariant-loop-place l = map meant l.by.items ≡ keyed (take l.place l.orders) l.values
