-- Open transactions beside a history.
use Rattle.std.specs.Prelude.{◌≡◌, ℕ, ◌<◌, Bool, true, false, List, []}
use Rattle.dg_schema.specs.declared.definition.PredDef.{PredDef}
use Rattle.dg_keys.specs.declared.record.Tablet.{Tablet}
use Rattle.dg_zero.specs.declared.entry.Entry.{Entry}
use Rattle.dg_zero.specs.declared.fault.CommitFault.{CommitFault}
use Rattle.dg_zero.specs.declared.fault.CommitFault.TheVariants.{Moving, Conflict}
use Rattle.dg_zero.specs.Counters.{next}
use Rattle.dg_zero.specs.States.{Zero}
use Rattle.dg_zero.specs.Worlds.{schema_at, graph_at}
use Rattle.dg_group.specs.Groups.{Group}
use Rattle.dg_txn.specs.Pins.{ArePinsOf}
use Rattle.table_runs.specs.declared.groups.sessions.Session.{Session}

-- what a transaction begins with: its start was drawn, the schema is that there, and the pins hold the graph there
pub record HasBegun (history : List Entry) (start : ℕ) (declared : List PredDef) (owners : List Tablet) (pins : List Group) : Type 0 where
  pub drawn : start < next history
  pub schema_is : declared ≡ schema_at history start
  pub held : ArePinsOf start declared owners pins (graph_at history start [])

-- a transaction is open under the number of its author: its start was drawn, and it sees the schema and the graph there
pub record IsOpen (history : List Entry) (s : Session) : Type 0 where
  pub author_is : s.txn.author ≡ s.number
  pub drawn : s.txn.start < next history
  pub schema_is : s.txn.schema ≡ schema_at history s.txn.start
  pub base_is : s.txn.base ≡ graph_at history s.txn.start []

-- each transaction that is open stays so
abbrev pub StayOpen : Zero → Zero → Type 0
StayOpen before after = (s : Session) → IsOpen before.history s → IsOpen after.history s

-- whether a refused commit ends its transaction
abbrev pub ends : CommitFault → Bool
ends (Moving pred) = true
ends (Conflict key text ts) = true
ends fault = false
