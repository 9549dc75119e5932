use Rattle.std.proofs.Common.{◌≡◌, map, take}
use Rattle.dg_edges.specs.Filing.{nodes_under}
use Rattle.dg_edges.proofs.gathering.gathered.Given as goal

abbrev pub invariant-loop-one : goal.invariant-loop-one
invariant-loop-one l = l.lists.items ≡ map (nodes_under (take l.one-index l.filed)) l.keys
