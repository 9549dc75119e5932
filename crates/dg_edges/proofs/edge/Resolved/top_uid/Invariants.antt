use Rattle.std.proofs.Common.{◌≡◌, fold, flat_map, take}
use Rattle.std.specs.Prelude.{max}
use Rattle.dg_edges.specs.Expanding.{nodes_of, uid_of}
use Rattle.dg_edges.proofs.edge.Resolved.top_uid.Given as goal

abbrev pub invariant-loop-edge : goal.invariant-loop-edge
invariant-loop-edge l = l.top ≡ fold max 0 (flat_map uid_of (nodes_of (take l.edge-index l.edges)))
