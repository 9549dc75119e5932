use Rattle.std.proofs.Common.{◌≡◌, map, take, flat_map}
use Rattle.dg_check.specs.RunOrder.{blocks_under}
use Rattle.dg_check.proofs.needs.needs_of.Given as goal

abbrev pub invariant-loop-name : goal.invariant-loop-name
invariant-loop-name l = l.needs.items ≡ flat_map (blocks_under l.under) (map (λ name. name.now) (take l.name-index l.used))
