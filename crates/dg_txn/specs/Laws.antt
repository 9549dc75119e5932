-- What holds of pins and of own changes.
use Rattle.std.specs.Prelude.{◌≡◌, ℕ, ◌≤◌, List, [], ◌∷◌, ◌++◌, None, map}
use Rattle.std.specs.List.{AllByRecursion}
use Rattle.dg_delta.specs.Ops.{after_ops}
use Rattle.dg_schema.specs.declared.definition.PredDef.{PredDef}
use Rattle.dg_graph.specs.declared.change.Triple.{Triple}
use Rattle.dg_graph.specs.declared.change.Change.{Change}
use Rattle.dg_graph.specs.Graphs.{after_changes}
use Rattle.dg_keys.specs.declared.key.Key.{Key}
use Rattle.dg_keys.specs.declared.record.Part.{Part}
use Rattle.dg_keys.specs.declared.record.Tablet.{Tablet}
use Rattle.dg_keys.specs.Keys.{ops_at}
use Rattle.dg_zero.specs.declared.entry.Entry.{Entry}
use Rattle.dg_zero.specs.Counters.{next, last}
use Rattle.dg_zero.specs.Legal.{IsLegal}
use Rattle.dg_zero.specs.Listings.{listing}
use Rattle.dg_zero.specs.Places.{groups}
use Rattle.dg_zero.specs.Records.{next_record}
use Rattle.dg_zero.specs.States.{owners}
use Rattle.dg_zero.specs.TabletLaws.{begin_of}
use Rattle.dg_zero.specs.Worlds.{schema, graph_at}
use Rattle.dg_group.specs.Groups.{Group}
use Rattle.dg_group.specs.Stands.{IsInStep}
use Rattle.dg_txn.specs.Pins.{read_from, graph_of, ArePinsOf}
use Rattle.dg_txn.specs.Own.{AreOwn}

-- the list that is read for a key is what the key lists in the pins' graph
abbrev pub PinsRead : Type 0
PinsRead = (at : ℕ) (schema : List PredDef) (owners : List Tablet) (pins : List Group) (graph : List Triple) (key : Key) → ArePinsOf at schema owners pins graph → read_from at owners pins key ≡ listing schema graph key

-- pins have one graph, which is read from them
abbrev pub PinsHaveOne : Type 0
PinsHaveOne = (at : ℕ) (schema : List PredDef) (owners : List Tablet) (pins : List Group) (graph : List Triple) → ArePinsOf at schema owners pins graph → graph_of at owners pins ≡ graph

-- what a key lists after own changes, from what it lists before them: a key of any kind has the operations of its own part
abbrev pub OwnRead : Type 0
OwnRead = (schema : List PredDef) (base : List Triple) (own : List Change) (parts : List Part) (key : Key) → AreOwn schema base own parts → after_ops (listing schema base key) (ops_at parts key) ≡ listing schema (after_changes schema base own) key

-- groups that are up to date with a history: they have the numbers from 1 to n, are in step with it, and applied all its records
pub record AreCurrent (n : ℕ) (history : List Entry) (gs : List Group) : Type 0 where
  pub numbers : map (λ (g : Group). g.number) gs ≡ groups n
  pub in_step : AllByRecursion (λ g. IsInStep g history) gs
  pub applied : AllByRecursion (λ g. next_record history g.last ≡ None) gs

-- they hold the graph at a start that is drawn then
abbrev pub BegunPinsHold : Type 0
BegunPinsHold = (n : ℕ) (history : List Entry) (author : ℕ) (gs : List Group) → 1 ≤ n → IsLegal n (history ++ begin_of author (next history) ∷ []) → AreCurrent n history gs → ArePinsOf (next history) (schema history) (owners history) gs (graph_at history (next history) [])

-- and the present graph
abbrev pub PresentPinsHold : Type 0
PresentPinsHold = (n : ℕ) (history : List Entry) (gs : List Group) → 1 ≤ n → IsLegal n history → AreCurrent n history gs → ArePinsOf (last history) (schema history) (owners history) gs (graph_at history (last history) [])
