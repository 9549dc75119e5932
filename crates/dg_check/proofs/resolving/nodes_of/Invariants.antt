use Rattle.std.proofs.Common.{◌≡◌, map, take}
use Rattle.dg_check.specs.Plans.{node_of}
use Rattle.dg_check.proofs.resolving.nodes_of.Given as goal

abbrev pub invariant-loop-uid : goal.invariant-loop-uid
invariant-loop-uid l = l.nodes.items ≡ map (node_of l.variables) (take l.uid-index l.uids)
