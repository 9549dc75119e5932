-- What holds of mutations, and of the parts and keys of changes.
use Rattle.std.specs.Prelude.{◌≡◌, ◌≢◌, ℕ, true, false, List, [], fold, None, Some, Result, Ok}
use Rattle.std.specs.List.{AllByRecursion}
use Rattle.dg_values.specs.Ascending.{ascending, has}
use Rattle.dg_values.specs.Order.{posting_cmp}
use Rattle.dg_values.specs.declared.value.Posting.{Posting}
use Rattle.dg_schema.specs.declared.definition.PredDef.{PredDef}
use Rattle.dg_graph.specs.declared.change.Triple.{Triple}
use Rattle.dg_graph.specs.declared.change.Change.{Change}
use Rattle.dg_graph.specs.Graphs.{after_changes, IsLawful}
use Rattle.dg_graph.specs.Changes.{has_triple, AllFit}
use Rattle.dg_keys.specs.declared.conflict.ConflictKey.{ConflictKey}
use Rattle.dg_keys.specs.declared.key.Key.{Key}
use Rattle.dg_keys.specs.declared.record.Part.{Part}
use Rattle.dg_keys.specs.declared.record.Record.{Record}
use Rattle.dg_zero.specs.Worlds.{changes_of, world, world_at, schema}
use Rattle.dg_keys.specs.Conflicts.{conflict_cmp}
use Rattle.dg_zero.specs.Listings.{AreGainsAndLosses, conflict_keys, listing}
use Rattle.dg_zero.specs.declared.entry.Entry.{Entry}
use Rattle.dg_zero.specs.declared.entry.Event.TheVariants.{Commit}
use Rattle.dg_zero.specs.Exact.{AreExact, IsExactNow}
use Rattle.dg_zero.specs.Legal.{FitsCommit, IsLegal}
use Rattle.dg_zero.specs.Offers.{IsSound, IsMadeOf}
use Rattle.dg_zero.specs.Counters.{active, is_active_of}
use Rattle.dg_zero.specs.Verdicts.{commits}
use Rattle.dg_oracle.specs.Verdicts.{HasNoClash}
use Rattle.dg_nquad.specs.declared.mutation.Statement.{Statement}
use Rattle.dg_edges.specs.declared.edge.Edge.{Edge}
use Rattle.dg_edges.specs.declared.fault.EdgeFault.{EdgeFault}
use Rattle.dg_edges.specs.Resolving.{Resolves}
use Rattle.dg_edges.specs.Expanding.{expanded}
use Rattle.dg_edges.specs.Deltas.{data_conflict, data_conflicts, preds_of, AreFitting}
use Rattle.dg_edges.specs.Regions.{triple_keys, AgreeIn, listing_conflict}

-- parts that are what lists gain and lose by changes, as changes, lead where the changes lead
abbrev pub DeltasLead : Type 0
DeltasLead = (schema : List PredDef) (graph : List Triple) (changes : List Change) (parts : List Part) → AreFitting schema changes → IsLawful schema graph → AreGainsAndLosses schema graph schema (after_changes schema graph changes) parts → after_changes schema graph (changes_of parts) ≡ after_changes schema graph changes

-- an offer of such parts and the keys of one or more changes is sound
abbrev pub OffersAreSound : Type 0
OffersAreSound = (schema : List PredDef) (graph : List Triple) (changes : List Change) (parts : List Part) → changes ≢ [] → AreFitting schema changes → IsLawful schema graph → AreGainsAndLosses schema graph schema (after_changes schema graph changes) parts → IsSound schema graph (preds_of changes) (conflict_keys schema graph changes) parts

-- and made of the changes
abbrev pub OffersAreMade : Type 0
OffersAreMade = (schema : List PredDef) (graph : List Triple) (changes : List Change) (parts : List Part) → AreFitting schema changes → IsLawful schema graph → AreGainsAndLosses schema graph schema (after_changes schema graph changes) parts → IsMadeOf schema graph changes (conflict_keys schema graph changes) parts

-- two graphs have the same triples of these keys
abbrev pub AgreeAt : List PredDef → List Change → List Triple → List Triple → Type 0
AgreeAt schema changes graph later = (u : Triple) → has conflict_cmp (data_conflicts schema changes) (data_conflict schema u) ≡ true → has_triple graph u ≡ has_triple later u

-- on a later graph that agrees at the keys of changes, the changes do what their parts do
abbrev pub ChangesDoAsParts : Type 0
ChangesDoAsParts = (schema : List PredDef) (graph later : List Triple) (changes : List Change) (parts : List Part) → AreFitting schema changes → IsLawful schema graph → IsLawful schema later → AreGainsAndLosses schema graph schema (after_changes schema graph changes) parts → AgreeAt schema changes graph later → after_changes schema later changes ≡ after_changes schema later (changes_of parts)

-- two graphs have the same triples of each key of changes, of whatever kind
abbrev pub AgreeOn : List PredDef → List Change → List Triple → List Triple → Type 0
AgreeOn schema changes graph later = (key : ConflictKey) → has conflict_cmp (conflict_keys schema graph changes) key ≡ true → AgreeIn schema key graph later

-- there lists gain and lose by the changes what they did
abbrev pub PartsStay : Type 0
PartsStay = (schema : List PredDef) (graph later : List Triple) (changes : List Change) (parts : List Part) → AreFitting schema changes → IsLawful schema graph → IsLawful schema later → AreGainsAndLosses schema graph schema (after_changes schema graph changes) parts → AgreeOn schema changes graph later → AreGainsAndLosses schema later schema (after_changes schema later changes) parts

-- what another transaction committed: its changes and its keys
pub record Done : Type 0 where
  pub changes : List Change
  pub keys : List ConflictKey

-- the changes fit, and the keys name what they touch
pub record IsKeyed (schema : List PredDef) (d : Done) : Type 0 where
  pub fitting : AreFitting schema d.changes
  pub named : AllByRecursion (λ key. has conflict_cmp d.keys key ≡ true) (data_conflicts schema d.changes)

-- none of the keys of these changes was committed
abbrev pub HasNone : List PredDef → List Change → Done → Type 0
HasNone schema changes d = AllByRecursion (λ key. has conflict_cmp d.keys key ≡ false) (data_conflicts schema changes)

-- a graph after what others committed
abbrev pub after_done : List PredDef → List Triple → List Done → List Triple
after_done schema graph ds = fold (λ g d. after_changes schema g d.changes) graph ds

-- what others commit, without a key of some changes, leaves the triples of these keys
abbrev pub OthersLeave : Type 0
OthersLeave = (schema : List PredDef) (graph : List Triple) (changes : List Change) (others : List Done) → AllByRecursion (IsKeyed schema) others → AllByRecursion (HasNone schema changes) others → AgreeAt schema changes graph (after_done schema graph others)

-- so at a commit its changes do what the parts do that were made of them at its start
abbrev pub CommitsDoAsChanges : Type 0
CommitsDoAsChanges = (schema : List PredDef) (graph : List Triple) (changes : List Change) (parts : List Part) (others : List Done) → AreFitting schema changes → IsLawful schema graph → AreGainsAndLosses schema graph schema (after_changes schema graph changes) parts → AllByRecursion (IsKeyed schema) others → AllByRecursion (HasNone schema changes) others → after_changes schema (after_done schema graph others) changes ≡ after_changes schema (after_done schema graph others) (changes_of parts)

-- in a legal history, what a commit that fits asked for does on the present graph what its data parts do
abbrev pub CommitsDoAsAsked : Type 0
CommitsDoAsAsked = (n : ℕ) (history : List Entry) (author start : ℕ) (preds : List (List ℕ)) (keys : List ConflictKey) (asked : List Change) (written : Record) → IsLegal n history → FitsCommit history author start preds keys asked written → after_changes (schema history) (world history).graph asked ≡ after_changes (schema history) (world history).graph (changes_of written.parts)

-- changes conflict by each key of each triple that they change
abbrev pub ChangesAreNamed : Type 0
ChangesAreNamed = (schema : List PredDef) (graph : List Triple) (changes : List Change) (t : Triple) → (has_triple graph t ≡ has_triple (after_changes schema graph changes) t → ⊥) → AllByRecursion (λ key. has conflict_cmp (conflict_keys schema graph changes) key ≡ true) (triple_keys schema t)

-- lists hold a posting alike, in graphs that have the same triples of the conflict key that it depends on
abbrev pub ListsByKeys : Type 0
ListsByKeys = (schema : List PredDef) (graph later : List Triple) (key : Key) (posting : Posting) (conflict : ConflictKey) → IsLawful schema graph → IsLawful schema later → listing_conflict schema key posting ≡ Some conflict → AgreeIn schema conflict graph later → has posting_cmp (listing schema graph key) posting ≡ has posting_cmp (listing schema later key) posting

-- a posting that depends on no conflict key isn't listed
abbrev pub OthersUnlisted : Type 0
OthersUnlisted = (schema : List PredDef) (graph : List Triple) (key : Key) (posting : Posting) → listing_conflict schema key posting ≡ None → has posting_cmp (listing schema graph key) posting ≡ false

-- in a legal history, the triples of a key that no commit since an active start has are what they were at the start
abbrev pub KeysStandStill : Type 0
KeysStandStill = (n : ℕ) (history : List Entry) (start author : ℕ) (key : ConflictKey) → IsLegal n history → is_active_of (active history) start author ≡ true → HasNoClash conflict_cmp (commits history) start key → AgreeIn (schema history) key (world_at history start).graph (world history).graph

-- so the parts of a commit that fits are at each key what the list gains and loses in the present graph
abbrev pub CommitsAreExact : Type 0
CommitsAreExact = (n : ℕ) (history : List Entry) (author start : ℕ) (preds : List (List ℕ)) (keys : List ConflictKey) (asked : List Change) (written : Record) → IsLegal n history → FitsCommit history author start preds keys asked written → IsExactNow history (Commit start preds keys asked written)

-- so are all records of a legal history
abbrev pub HistoriesAreExact : Type 0
HistoriesAreExact = (n : ℕ) (history : List Entry) → IsLegal n history → AreExact history

-- what a sound offer's data parts put in fits the schema, whatever its other keys; so they keep a later graph lawful
abbrev pub SoundFits : Type 0
SoundFits = (schema : List PredDef) (graph : List Triple) (preds : List (List ℕ)) (keys : List ConflictKey) (parts : List Part) → IsSound schema graph preds keys parts → AllFit schema (changes_of parts)

-- a mutation is resolved in one way
abbrev pub ResolvesOnce : Type 0
ResolvesOnce = (schema : List PredDef) (statements : List Statement) (one other : Result (List Edge) EdgeFault) → Resolves schema statements one → Resolves schema statements other → one ≡ other

-- the changes of a checked mutation fit the schema, over a lawful graph
abbrev pub ExpandedFits : Type 0
ExpandedFits = (schema : List PredDef) (graph : List Triple) (statements : List Statement) (edges : List Edge) (first : ℕ) → Resolves schema statements (Ok edges) → IsLawful schema graph → AreFitting schema (expanded graph edges first)
