-- What a request of one session does to a cluster and to the machine, whatever others do and whichever sessions they have.
use Rattle.std.specs.Prelude.{◌≡◌, ◌≢◌, ℕ, ◌<◌, Bool, true, List, [], ◌∷◌, ◌++◌, ⊤, Option, Some, None, IfSome, map}
use Rattle.std.specs.List.{AllByRecursion}
use Rattle.dg_graph.specs.declared.change.Change.{Change}
use Rattle.dg_edges.specs.Deltas.{AreFitting}
use Rattle.dg_wire.specs.declared.request.Request.TheVariants.{Begin}
use Rattle.dg_zero.specs.declared.entry.Entry.{Entry}
use Rattle.dg_zero.specs.Counters.{Started, next, active, ended, starts_of, is_active_of}
use Rattle.dg_zero.specs.States.{Zero}
use Rattle.dg_zero.specs.Worlds.{schema_at, graph_at}
use Rattle.dg_txn.specs.Own.{Transaction}
use Rattle.dg_node.specs.Clusters.{Meets}
use Rattle.dg_node.specs.Machine.{Machine, Session}
use Rattle.dg_node.specs.Owning.{AreAtRest}
use Rattle.dg_node.specs.State.{machine_beside}
use Rattle.dg_node.specs.Steps.{Spares}

-- an author's open transaction: its start is active, it has the schema and the graph there, and its changes fit the schema
pub record IsOpen (history : List Entry) (author : ℕ) (txn : Transaction) : Type 0 where
  pub drawn : txn.start < next history
  pub active : is_active_of (active history) txn.start author ≡ true
  pub schema_is : txn.schema ≡ schema_at history txn.start
  pub base_is : txn.base ≡ graph_at history txn.start []
  pub fitting : AreFitting txn.schema txn.own
  pub author_is : txn.author ≡ author

-- a session of an author: where it has a transaction, that is open
abbrev pub IsSession : Zero → ℕ → Option Transaction → Type 0
IsSession zero author None = ⊤
IsSession zero author (Some txn) = IsOpen zero.history author txn

-- a transaction, as the machine has it
abbrev pub session_by : ℕ → Transaction → Session
session_by sid txn = record { sid = sid; start = txn.start; own = txn.own }

-- a session's transaction, where it has one
abbrev pub own_session : ℕ → Option Transaction → List Session
own_session sid None = []
own_session sid (Some txn) = session_by sid txn ∷ []

-- a transaction with more changes behind its own
abbrev pub with_own : Transaction → List Change → Transaction
with_own txn changes = record { start = txn.start; schema = txn.schema; base = txn.base; own = txn.own ++ changes; author = txn.author }

-- its start, as the history has it
abbrev pub own_start : ℕ → Option Transaction → List Started
own_start author None = []
own_start author (Some txn) = (record { start = txn.start; author = author }) ∷ []

-- what is its own, between what is of others
abbrev pub between : {X : Type 0} → List X → List X → List X → List X
between front own back = front ++ (own ++ back)

-- the same after a request: in its place, or behind all others where a transaction was opened
abbrev pub placed : {X : Type 0} → (Option Transaction → List X) → Option Transaction → Option Transaction → List X → List X → List X
placed f None None front back = between front (f None) back
placed f None (Some txn) front back = (front ++ back) ++ f (Some txn)
placed f (Some txn) None front back = between front (f None) back
placed f (Some txn) (Some changed) front back = between front (f (Some changed)) back

-- none of these sessions has this number
abbrev pub HaveOthers : ℕ → List Session → Type 0
HaveOthers sid sessions = AllByRecursion (λ s. s.sid ≢ sid) sessions

-- entries of an author alone
pub record Adds (author : ℕ) (met after : Zero) : Type 0 where
  pub groups_are : after.groups ≡ met.groups
  pub entries : List Entry
  pub history_is : after.history ≡ met.history ++ entries
  pub own : AllByRecursion (λ e. e.author ≡ author) entries

-- A request appends entries of its author, and of the active starts changes its own alone. Beside any sessions of others the
-- step leads from the machine that it meets to the one after it, where no tablet is being moved.
pub record Serves (author sid : ℕ) (old new : Option Transaction) (step : Machine → Machine → Type 0) (met after : Zero) : Type 0 where
  pub adds : Adds author met after
  pub starts : (front back : List Started) → active met.history ≡ between front (own_start author old) back → active after.history ≡ placed (own_start author) old new front back
  pub machine : AreAtRest met.history → (front back : List Session) → HaveOthers sid front → HaveOthers sid back → step (machine_beside met (between front (own_session sid old) back)) (machine_beside after (placed (own_session sid) old new front back))

-- those without this start, if it is one
abbrev pub ended_if : Option ℕ → List Started → List Started
ended_if None starts = starts
ended_if (Some start) starts = ended starts start

-- the start that a begin drew, if it did
abbrev pub drawn_by : ℕ → Option ℕ → List Started
drawn_by author None = []
drawn_by author (Some start) = (record { start = start; author = author }) ∷ []

-- A begin for which memory was wanting has maybe drawn a start, and opens nothing.
pub record Draws (author sid : ℕ) (drew : Option ℕ) (met after : Zero) : Type 0 where
  pub adds : Adds author met after
  pub fresh : IfSome drew (λ start. start ≡ next met.history)
  pub starts : active after.history ≡ active met.history ++ drawn_by author drew
  pub machine : (sessions : List Session) → Spares (Begin sid) (machine_beside met sessions) (machine_beside after sessions)

-- It then ends that start.
pub record Drops (author : ℕ) (drew : Option ℕ) (met after : Zero) : Type 0 where
  pub adds : Adds author met after
  pub starts : active after.history ≡ ended_if drew (active met.history)
  pub machine : (sessions : List Session) → machine_beside after sessions ≡ machine_beside met sessions

-- a begin for which memory was wanting: entries of others may come between the two
pub record SparesBegin (takes : ℕ → Bool) (author sid : ℕ) (before after : Zero) : Type 0 where
  pub drew : Option ℕ
  pub mid : Zero
  pub draws : Meets takes before mid (Draws author sid drew)
  pub drops : Meets takes mid after (Drops author drew)

-- An alter speaks of all sessions: their starts are the active ones.
pub record Alters (author : ℕ) (step : Machine → Machine → Type 0) (met after : Zero) : Type 0 where
  pub adds : Adds author met after
  pub starts : active after.history ≡ active met.history
  pub machine : AreAtRest met.history → (sessions : List Session) → map (λ (s : Session). s.start) sessions ≡ starts_of (active met.history) → step (machine_beside met sessions) (machine_beside after sessions)

-- What a session sees leads nowhere: the step leads from the machine of a history to itself.
abbrev pub Sees : ℕ → Option Transaction → (Machine → Machine → Type 0) → Zero → Type 0
Sees sid session step zero = (front back : List Session) → HaveOthers sid front → HaveOthers sid back → step (machine_beside zero (between front (own_session sid session) back)) (machine_beside zero (between front (own_session sid session) back))
