use Rattle.std.proofs.Common.{◌≡◌, map, take}
use Rattle.dg_edges.specs.Lists.{lists_after}
use Rattle.dg_edges.proofs.lists.lists_of.Given as goal

abbrev pub invariant-loop-change : goal.invariant-loop-change
invariant-loop-change g l = l.lists.items ≡ map (lists_after (g.S.Snapshot.declared l.snap) (g.S.Snapshot.graph l.snap) (take l.change-index l.changes)) l.keys
