use Rattle.std.proofs.Common.{◌≡◌, map, take}
use Rattle.dg_graph.specs.Graphs.{after_changes}
use Rattle.dg_zero.specs.Listings.{keys_of_changes}
use Rattle.dg_edges.specs.Lists.{objects_at}
use Rattle.dg_edges.proofs.conflicts.keys_in_turn.Given as goal

abbrev pub invariant-loop-change : goal.invariant-loop-change
invariant-loop-change g l = record {
  lists : l.lists.items ≡ map (objects_at (after_changes (g.S.Snapshot.declared l.snap) (g.S.Snapshot.graph l.snap) (take l.change-index l.changes))) l.keys;
  found : l.found.items ≡ keys_of_changes (g.S.Snapshot.declared l.snap) (g.S.Snapshot.graph l.snap) (take l.change-index l.changes);
}
