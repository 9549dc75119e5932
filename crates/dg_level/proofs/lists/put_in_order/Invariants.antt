use Rattle.std.proofs.Common.{◌≡◌, map, take}
use Rattle.dg_shape.specs.Orders.{ordered, page, meant}
use Rattle.dg_level.specs.Planned.{cut_to}
use Rattle.dg_level.proofs.lists.put_in_order.Given as goal

abbrev pub invariant-loop-list : goal.invariant-loop-list
invariant-loop-list l = l.made.items ≡ map (λ list. cut_to l.single (page l.args (ordered (map meant l.by) list))) (take l.list-index l.lists)
