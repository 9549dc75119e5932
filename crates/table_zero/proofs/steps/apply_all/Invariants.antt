use Rattle.std.proofs.Common.{◌≡◌, take}
use Rattle.dg_graph.specs.Graphs.{after_changes}
use Rattle.table_zero.proofs.steps.apply_all.Given as goal

abbrev pub invariant-loop-change : goal.invariant-loop-change
invariant-loop-change l = l.graph ≡ after_changes l.schema l.initial.graph (take l.change-index l.changes)
