use Rattle.std.proofs.Common.{◌≡◌, ◌+◌, flat_map, take}
use Rattle.dg_edges.specs.Expanding.{new_names, number_of, changes_in, lists_read}
use Rattle.dg_edges.proofs.expanding.expand.Given as goal

abbrev pub invariant-loop-edge : goal.invariant-loop-edge
invariant-loop-edge g l = record {
  changes : l.changes.items ≡ flat_map (changes_in (g.S.Snapshot.graph l.snap) (number_of (new_names l.edges) l.first)) (take l.edge-index l.edges);
  reads : l.reads ≡ l.fn.reads + lists_read (take l.edge-index l.edges);
}
