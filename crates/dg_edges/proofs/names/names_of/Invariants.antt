use Rattle.std.proofs.Common.{◌≡◌, [], fold, flat_map, take}
use Rattle.dg_edges.specs.Expanding.{nodes_of, name_of, with_name}
use Rattle.dg_edges.proofs.names.names_of.Given as goal

abbrev pub invariant-loop-edge : goal.invariant-loop-edge
invariant-loop-edge l = l.names ≡ fold with_name [] (flat_map name_of (nodes_of (take l.edge-index l.edges)))
