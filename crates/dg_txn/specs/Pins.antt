-- The graph that pins hold at a timestamp.
use Rattle.std.specs.Prelude.{◌≡◌, ℕ, ◌≤◌, true, ◌==◌, List, [], Option, Some, None, map, flat_map, find, IsSomeAnd}
use Rattle.std.specs.List.{AllByRecursion, list_any}
use Rattle.std.specs.Option.{option_and_then}
use Rattle.dg_values.specs.Order.{same_text}
use Rattle.dg_values.specs.Ascending.{ascending}
use Rattle.dg_values.specs.declared.value.Posting.{Posting}
use Rattle.dg_schema.specs.declared.definition.PredDef.{PredDef}
use Rattle.dg_schema.specs.Definitions.{is_declared}
use Rattle.dg_graph.specs.declared.change.Triple.{Triple}
use Rattle.dg_graph.specs.Graphs.{triple_cmp, IsLawful}
use Rattle.dg_keys.specs.declared.key.Key.{Key}
use Rattle.dg_keys.specs.declared.key.Key.TheVariants.{Data}
use Rattle.dg_keys.specs.declared.record.Tablet.{Tablet}
use Rattle.dg_keys.specs.Keys.{pred_of}
use Rattle.dg_list.specs.Lists.{Layered, reading}
use Rattle.dg_store.specs.Stores.{list_under, list_at}
use Rattle.dg_zero.specs.Listings.{listing}
use Rattle.dg_group.specs.declared.copied.Copied.{Copied}
use Rattle.dg_group.specs.Groups.{Group, copy_of}

-- the pin of a group
abbrev pub pin_of : List Group → ℕ → Option Group
pin_of pins number = find (λ pin. pin.number == number) pins

-- the copy of a tablet among pins, at the tablet's group
abbrev pub pinned_copy : List Group → Tablet → Option Copied
pinned_copy pins t = option_and_then (λ pin. copy_of pin.copies t.pred) (pin_of pins t.group)

-- the tablet of a predicate
abbrev pub tablet_of : List Tablet → List ℕ → Option Tablet
tablet_of owners pred = find (λ t. same_text t.pred pred) owners

-- the copy that is asked for a predicate
abbrev pub copy_for : List Tablet → List Group → List ℕ → Option Copied
copy_for owners pins pred = option_and_then (pinned_copy pins) (tablet_of owners pred)

-- what a copy's list of a key is at a timestamp; without a copy there is none
abbrev pub read_in : ℕ → Key → Option Copied → List Posting
read_in at key None = []
read_in at key (Some copy) = reading (list_at key copy.store) at

-- the list of a key at a timestamp, at the owner of its predicate
abbrev pub read_from : ℕ → List Tablet → List Group → Key → List Posting
read_from at owners pins key = read_in at key (copy_for owners pins (pred_of key))

-- the list of a key at the owner of its predicate, where there is one
abbrev pub list_for : List Tablet → List Group → Key → Option Layered
list_for owners pins key = option_and_then (λ copy. list_under key copy.store) (copy_for owners pins (pred_of key))

-- the triples of a subject
abbrev pub triples_at : ℕ → List Tablet → List Group → Key → List Triple
triples_at at owners pins (Data p s) = map (λ o. record { s = s; p = p; o = o }) (read_from at owners pins (Data p s))
triples_at at owners pins key = []

-- the triples of a copy's subjects
abbrev pub triples_of : ℕ → List Tablet → List Group → Option Copied → List Triple
triples_of at owners pins None = []
triples_of at owners pins (Some copy) = flat_map (λ e. triples_at at owners pins e.0) copy.store

-- the graph that is read from pins at a timestamp, each tablet at its owner
abbrev pub graph_of : ℕ → List Tablet → List Group → List Triple
graph_of at owners pins = ascending triple_cmp (flat_map (λ t. triples_of at owners pins (pinned_copy pins t)) owners)

-- a copy's bases are at or below a timestamp, and its lists there are those of a graph
pub record IsCopyOf (at : ℕ) (schema : List PredDef) (graph : List Triple) (pred : List ℕ) (copy : Copied) : Type 0 where
  pub pred_is : copy.pred ≡ pred
  pub bases : AllByRecursion (λ e. e.1.base_ts ≤ at) copy.store
  pub lists : (key : Key) → same_text (pred_of key) pred ≡ true → reading (list_at key copy.store) at ≡ listing schema graph key

-- owners name exactly the predicates that are declared, the pin of each owner holds a copy, and these copies' lists at a
-- timestamp are those of one graph, which is lawful
pub record ArePinsOf (at : ℕ) (schema : List PredDef) (owners : List Tablet) (pins : List Group) (graph : List Triple) : Type 0 where
  pub lawful : IsLawful schema graph
  pub named : (pred : List ℕ) → list_any (λ t. same_text t.pred pred) owners ≡ is_declared schema pred
  pub held : AllByRecursion (λ t. IsSomeAnd (pinned_copy pins t) (IsCopyOf at schema graph t.pred)) owners
