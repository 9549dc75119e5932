-- Which histories are legal: each entry fits the entries before it.
use Rattle.std.specs.Prelude.{◌≡◌, ◌≢◌, ℕ, ◌+◌, ◌≤◌, ◌<◌, ◌^◌, true, false, max, List, [], ◌∷◌, ◌++◌, Option, Some, None, IsSomeAnd}
use Rattle.std.specs.List.{AllByRecursion, list_any}
use Rattle.dg_values.specs.declared.kind.Kind.{Kind}
use Rattle.dg_values.specs.declared.kind.Kind.TheVariants as kinds
use Rattle.dg_schema.specs.declared.definition.PredDef.{PredDef}
use Rattle.dg_schema.specs.Definitions.{definition_of, with_definitions, AreDistinct}
use Rattle.dg_graph.specs.declared.change.Triple.{Triple}
use Rattle.dg_graph.specs.declared.change.Change.{Change}
use Rattle.dg_graph.specs.Graphs.{is_of}
use Rattle.dg_keys.specs.declared.conflict.ConflictKey.{ConflictKey}
use Rattle.dg_keys.specs.declared.record.Record.{Record}
use Rattle.dg_zero.specs.Listings.{AreGainsAndLosses}
use Rattle.dg_zero.specs.declared.entry.Entry.{Entry}
use Rattle.dg_zero.specs.declared.entry.Event.{Event}
use Rattle.dg_zero.specs.declared.entry.Event.TheVariants as events
use Rattle.dg_zero.specs.declared.tablets.Phase.TheVariants.{Idle, Started, Copied, Held}
use Rattle.dg_zero.specs.declared.entry.Reason.{Reason}
use Rattle.dg_zero.specs.declared.entry.Reason.TheVariants.{Moving, Conflict}
use Rattle.dg_zero.specs.Counters.{next, last, next_uid, active, is_active_of, line, line_now}
use Rattle.dg_zero.specs.Worlds.{world, schema, schema_at, graph_at}
use Rattle.dg_zero.specs.Places.{tablets, copies, copy_at, phase, owner, is_held, fresh}
use Rattle.dg_zero.specs.Verdicts.{verdict}
use Rattle.dg_zero.specs.Offers.{IsSound, IsMadeOf}

-- a commit of an active start, which has the next timestamp, brings no tablet, conflicts with nothing, is sound and is made of
-- what was asked for
pub record FitsCommit (history : List Entry) (author start : ℕ) (preds : List (List ℕ)) (keys : List ConflictKey) (asked : List Change) (written : Record) : Type 0 where
  pub active : is_active_of (active history) start author ≡ true
  pub ts : written.ts ≡ next history
  pub drawn : written.ts < 2 ^ 62
  pub no_tablet : written.fresh ≡ []
  pub clear : verdict history start preds keys ≡ None
  pub sound : IsSound (schema_at history start) (graph_at history start []) preds keys written.parts
  pub made_of : IsMadeOf (schema_at history start) (graph_at history start []) asked keys written.parts

-- the predicate or key that a refusal names is a reason by itself
abbrev pub IsReason : List Entry → ℕ → Reason → Type 0
IsReason history start (Moving pred) = verdict history start (pred ∷ []) [] ≡ Some (Moving pred)
IsReason history start (Conflict key ts) = verdict history start [] (key ∷ []) ≡ Some (Conflict key ts)

-- the place of a kind among the kinds
abbrev pub kind_rank : Kind → ℕ
kind_rank kinds.Default = 0
kind_rank kinds.Int = 1
kind_rank kinds.Text = 2
kind_rank kinds.Bool = 3
kind_rank kinds.Time = 4
kind_rank kinds.Uid = 5

-- a predicate with a triple keeps its kind, and stays a list or none
abbrev pub KeepsKind : List Triple → PredDef → Option PredDef → Type 0
KeepsKind graph def None = Unit {0}
KeepsKind graph def (Some old) = list_any (is_of def.name) graph ≡ true → (kind_rank def.kind ≡ kind_rank old.kind) × (def.list ≡ old.list)

-- an alter has the next two timestamps, and changes lists so that they agree with the new definitions
pub record FitsAlter (n : ℕ) (history : List Entry) (start : ℕ) (newer : List PredDef) (written : Record) : Type 0 where
  pub start_is : start ≡ next history
  pub ts : written.ts ≡ start + 1
  pub drawn : written.ts < 2 ^ 62
  pub none_active : active history ≡ []
  pub distinct : AreDistinct newer
  pub none_held : AllByRecursion (λ def. is_held (tablets history) def.name ≡ false) newer
  pub kinds : AllByRecursion (λ def. KeepsKind (world history).graph def (definition_of (schema history) def.name)) newer
  pub fresh_are : written.fresh ≡ fresh n (tablets history) newer
  pub parts_are : AreGainsAndLosses (schema history) (world history).graph (with_definitions (schema history) newer) (world history).graph written.parts

-- a move goes to another group, which keeps no copy of the tablet
pub record FitsMoveStart (n : ℕ) (history : List Entry) (pred : List ℕ) (group : ℕ) : Type 0 where
  pub owned : IsSomeAnd (owner history pred) (λ from. from ≢ group)
  pub idle : phase history pred ≡ Idle
  pub least : 1 ≤ group
  pub most : group ≤ n
  pub no_copy : copy_at (copies history) pred group ≡ None

-- the nodes from `first` on are those above `top` and above all that were leased
pub record FitsLease (history : List Entry) (top count first : ℕ) : Type 0 where
  pub first_is : first ≡ max (next_uid history) (top + 1)
  pub most : first + count ≤ 2 ^ 62

-- a copy is merged further, up to the line at most
pub record FitsRolled (history : List Entry) (pred : List ℕ) (group upto : ℕ) : Type 0 where
  pub copy : IsSomeAnd (copy_at (copies history) pred group) (λ c. c.mark ≤ upto)
  pub below : upto ≤ line history

-- an event of an author fits the entries before it, with n groups
abbrev pub Fits : ℕ → List Entry → ℕ → Event → Type 0
Fits n history author (events.Begin start) = (start ≡ next history) × (start < 2 ^ 62)
Fits n history author (events.Commit start preds keys asked written) = FitsCommit history author start preds keys asked written
Fits n history author (events.Refused start reason) = (is_active_of (active history) start author ≡ true) × IsReason history start reason
Fits n history author (events.End start) = is_active_of (active history) start author ≡ true
Fits n history author (events.Lease top count first) = FitsLease history top count first
Fits n history author (events.Alter start newer written) = (author ≡ 0) × FitsAlter n history start newer written
Fits n history author (events.Line new) = (author ≡ 0) × (new ≡ line_now history)
Fits n history author (events.Rolled pred group upto) = (author ≡ 0) × FitsRolled history pred group upto
Fits n history author (events.MoveStart pred group) = (author ≡ 0) × FitsMoveStart n history pred group
Fits n history author (events.MoveCopied pred) = (author ≡ 0) × (phase history pred ≡ Started)
Fits n history author (events.MoveHold pred) = (author ≡ 0) × (phase history pred ≡ Copied)
Fits n history author (events.Flip pred until) = (author ≡ 0) × (phase history pred ≡ Held) × (until ≡ last history)
Fits n history author (events.MoveOff pred) = (author ≡ 0) × (phase history pred ≢ Idle)
Fits n history author events.Look = Unit {0}

-- the entries fit, each after those before it
abbrev pub IsLegalAfter : ℕ → List Entry → List Entry → Type 0
IsLegalAfter n before [] = Unit {0}
IsLegalAfter n before (e ∷ after) = Fits n before e.author e.event × IsLegalAfter n (before ++ e ∷ []) after

-- a legal history of n groups: each entry fits those before it
abbrev pub IsLegal : ℕ → List Entry → Type 0
IsLegal n history = IsLegalAfter n [] history
