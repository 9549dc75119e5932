use Rattle.std.proofs.Common.{◌≡◌, take}
use Rattle.dg_edges.specs.Altering.{altered_keys}
use Rattle.dg_edges.proofs.rereading.altered_keys.Given as goal

abbrev pub invariant-loop-definition : goal.invariant-loop-definition
invariant-loop-definition g l = l.keys.items ≡ altered_keys (g.S.Snapshot.declared l.snap) (g.S.Snapshot.graph l.snap) (take l.definition-index l.newer)
