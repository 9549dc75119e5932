use Rattle.std.proofs.Common.{◌≡◌, [], map, take}
use Rattle.dg_edges.specs.Filing.{nodes_under}
use Rattle.dg_edges.proofs.gathering.none_at.Given as goal

abbrev pub invariant-loop-key : goal.invariant-loop-key
invariant-loop-key l = l.lists.items ≡ map (nodes_under []) (take l._key-index l.keys)
