use Rattle.std.proofs.Common.{◌≡◌, flat_map, take}
use Rattle.dg_level.proofs.lists.union.Given as goal

abbrev pub invariant-loop-list : goal.invariant-loop-list
invariant-loop-list l = l.found.items ≡ flat_map (λ list. list) (take l.list-index l.lists)
