use Rattle.std.proofs.Common.{◌≡◌, map, take}
use Rattle.dg_uids.specs.Sets.{common}
use Rattle.dg_level.proofs.lists.narrowed.Given as goal

abbrev pub invariant-loop-list : goal.invariant-loop-list
invariant-loop-list l = l.made.items ≡ map (λ list. common list l.pass) (take l.list-index l.lists)
