use Rattle.dg_graph.specs.Graphs.{IsLawful}
use Rattle.table_zero.proofs.lawful.made.Given as goal

abbrev pub invariant-loop-change : goal.invariant-loop-change
invariant-loop-change l = IsLawful l.schema l.graph
