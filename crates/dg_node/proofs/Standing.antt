-- The machine field by field: what proofs use of the function that gives it.
use Rattle.std.proofs.Common.{◌≡◌, ℕ, List}
use Rattle.std.specs.Prelude.{map}
use Rattle.std.specs.List.{AllByRecursion}
use Rattle.dg_zero.specs.Counters.{next, next_uid}
use Rattle.dg_zero.specs.States.{Zero}
use Rattle.dg_zero.specs.Verdicts.{commits}
use Rattle.dg_zero.specs.Worlds.{world_at}
use Rattle.dg_node.specs.Graphs.{committed_at}
use Rattle.dg_node.specs.Machine.{Machine, Session}
use Rattle.dg_node.specs.State.{alters, asked_by, machine_beside, IsDrawn}
use Rattle.dg_node.specs.Transactions.{keyed}

-- a machine that has all that a history's has with these sessions, and agrees with the history
pub record StandBeside (zero : Zero) (sessions : List Session) (machine : Machine) : Type 0 where
  pub groups_are : machine.groups ≡ zero.groups
  pub next_is : machine.next ≡ next zero.history
  pub uid_is : machine.next_uid ≡ next_uid zero.history
  pub alters_are : machine.alters ≡ alters zero.history
  pub commits_are : machine.commits ≡ asked_by zero.history
  pub sessions_are : machine.sessions ≡ sessions
  pub keys_are : map (keyed machine) machine.commits ≡ commits zero.history
  pub drawn : AllByRecursion (IsDrawn machine.next) machine.commits
  pub graphs_are : (at : ℕ) → committed_at machine.alters machine.commits at ≡ (world_at zero.history at).graph

-- it is that one
pub is_beside : (z : Zero) (ss : List Session) (m : Machine) → StandBeside z ss m → m ≡ machine_beside z ss
is_beside z ss m s = λ i. record {
  groups = s.groups_are i;
  next = s.next_is i;
  next_uid = s.uid_is i;
  alters = s.alters_are i;
  commits = s.commits_are i;
  sessions = s.sessions_are i;
}
