-- What is known of oracles and of the state that coordinates all between rows.
use Rattle.std.specs.Prelude.{◌≡◌, ℕ, Bool, true, false, List}
use Rattle.dg_oracle.specs.Commits.{OracleState}
use Rattle.dg_zero.specs.declared.fault.CommitFault.{CommitFault}
use Rattle.dg_zero.specs.declared.fault.CommitFault.TheVariants.{Moving, Conflict}
use Rattle.dg_zero.specs.Counters.{Started, active}
use Rattle.dg_zero.specs.Legal.{IsLegal}
use Rattle.dg_zero.specs.States.{Zero}
use Rattle.table_zero.specs.declared.steps.Step.{Step}
use Rattle.table_zero.specs.Steps.{LeadAlike}

-- these are the active starts of an oracle, and this is its purge line
pub record AreTold {K : Type 0} (starts : List ℕ) (line : ℕ) (o : OracleState K) : Type 0 where
  pub starts_are : starts ≡ o.active
  pub line_is : line ≡ o.line

-- the history is legal, these are its active starts with their authors, and these steps lead where it leads
pub record IsKnown (zero : Zero) (starts : List Started) (steps : List Step) : Type 0 where
  pub legal : IsLegal zero.groups zero.history
  pub active_are : starts ≡ active zero.history
  pub lead_alike : LeadAlike zero.history steps

-- whether a refused commit ends its transaction
abbrev pub ends : CommitFault → Bool
ends (Moving pred) = true
ends (Conflict key text ts) = true
ends fault = false
