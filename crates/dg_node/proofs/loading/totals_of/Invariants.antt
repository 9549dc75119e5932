use Rattle.std.proofs.Common.{ℕ, length}
use Rattle.dg_wire.specs.Generator.{generated}
use Rattle.dg_node.specs.Loading.{IsSound}
use Rattle.dg_node.specs.Machine.{Machine, empty}
use Rattle.dg_node.specs.State.{StandsFor}
use Rattle.dg_node.proofs.Counting.{Counting}
use Rattle.dg_node.proofs.loading.totals_of.Given as goal

abbrev pub invariant-requests : goal.invariant-requests
invariant-requests g l = record {
  counting : (m : Machine) × StandsFor l.engine m × Counting (g.P.Patterns.refused l.patterns) (empty l.fn.groups) (generated l.fn.seed l.fn.size) l.script m l.totals;
  sound : IsSound l.totals;
}

abbrev pub decreases-requests : goal.decreases-requests
decreases-requests g l = length l.script
