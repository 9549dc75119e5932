-- The machine that the engine stands for: one function from Zero's state and the open transactions.
use Rattle.std.specs.Prelude.{◌≡◌, ℕ, ◌<◌, List, [], ◌∷◌, map, flat_map}
use Rattle.std.specs.List.{AllByRecursion}
use Rattle.dg_zero.specs.declared.entry.Entry.{Entry}
use Rattle.dg_zero.specs.declared.entry.Event.{Event}
use Rattle.dg_zero.specs.declared.entry.Event.TheVariants as events
use Rattle.dg_zero.specs.Counters.{next, next_uid}
use Rattle.dg_zero.specs.Legal.{IsLegal}
use Rattle.dg_zero.specs.States.{Zero}
use Rattle.dg_zero.specs.Verdicts.{commits}
use Rattle.dg_zero.specs.Worlds.{world_at}
use Rattle.dg_node.specs.Held.{Opened, Held}
use Rattle.dg_node.specs.Schemas.{Alter}
use Rattle.dg_node.specs.Graphs.{Commit, committed_at}
use Rattle.dg_node.specs.Machine.{Machine, Session}
use Rattle.dg_wire.specs.declared.request.Request.{Request}
use Rattle.dg_node.specs.Transactions.{keyed}
use Rattle.dg_node.specs.Steps.{TakesMemory}

-- an open transaction, as the machine has it
abbrev pub session_from : Opened → Session
session_from o = record { sid = o.sid; start = o.txn.start; own = o.txn.own }

-- the alter that an event is
abbrev pub alter_of : Event → List Alter
alter_of (events.Alter start newer written) = (record { start = start; ts = written.ts; definitions = newer }) ∷ []
alter_of event = []

-- the alters of a history
abbrev pub alters : List Entry → List Alter
alters history = flat_map (λ e. alter_of e.event) history

-- the commit that an event is, with its changes as they were asked for
abbrev pub asked_of : Event → List Commit
asked_of (events.Commit start preds keys asked written) = (record { start = start; ts = written.ts; changes = asked }) ∷ []
asked_of event = []

-- the commits of a history
abbrev pub asked_by : List Entry → List Commit
asked_by history = flat_map (λ e. asked_of e.event) history

-- the machine
abbrev pub machine_of : Held → Machine
machine_of held = record {
  groups = held.zero.groups;
  next = next held.zero.history;
  next_uid = next_uid held.zero.history;
  alters = alters held.zero.history;
  commits = asked_by held.zero.history;
  sessions = map session_from held.opened;
}

-- the machine of a history, with these open transactions
abbrev pub machine_beside : Zero → List Session → Machine
machine_beside zero sessions = record {
  groups = zero.groups;
  next = next zero.history;
  next_uid = next_uid zero.history;
  alters = alters zero.history;
  commits = asked_by zero.history;
  sessions = sessions;
}

-- the machine of a history, where no transaction is open
abbrev pub machine_at : ℕ → List Entry → Machine
machine_at groups history = machine_of (record { zero = record { groups = groups; history = history }; opened = [] })

-- a commit's timestamps were drawn, its start before the other
abbrev pub IsDrawn : ℕ → Commit → Type 0
IsDrawn next commit = (commit.start < commit.ts) × (commit.ts < next)

-- What commits wrote into a history is what they asked for: by their changes the machine has the keys that the history has, and
-- at each timestamp the same graph.
pub record Agrees (groups : ℕ) (history : List Entry) : Type 0 where
  pub keys_are : map (keyed (machine_at groups history)) (asked_by history) ≡ commits history
  pub drawn : AllByRecursion (IsDrawn (next history)) (asked_by history)
  pub graphs_are : (at : ℕ) → committed_at (alters history) (asked_by history) at ≡ (world_at history at).graph

-- so it is in every legal history
abbrev pub HistoriesAgree : Type 0
HistoriesAgree = (groups : ℕ) (history : List Entry) → IsLegal groups history → Agrees groups history

-- the step leads from the machine before to the machine after
pub record Leads (before : Held) (step : Machine → Machine → Type 0) (after : Held) : Type 0 where
  pub leads : step (machine_of before) (machine_of after)

-- the machine stays
abbrev pub Stays : Held → Held → Type 0
Stays before after = machine_of after ≡ machine_of before

-- the engine stands for this machine
abbrev pub StandsFor : Held → Machine → Type 0
StandsFor held machine = machine_of held ≡ machine

-- the request's calls take memory
abbrev pub MayWant : Held → Request → Type 0
MayWant held request = TakesMemory (machine_of held) request
