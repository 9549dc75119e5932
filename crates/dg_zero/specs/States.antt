-- What a state of Zero is seen as, what it keeps, and what each call adds to the history.
use Rattle.std.specs.Prelude.{◌≡◌, ℕ, ◌+◌, ◌-◌, ◌≤◌, ◌^◌, true, List, [], ◌∷◌, ◌++◌, Option, Some, None, map, filter, option_map}
use Rattle.std.specs.List.{AllByRecursion}
use Rattle.dg_values.specs.Ascending.{ascending}
use Rattle.dg_schema.specs.declared.definition.PredDef.{PredDef}
use Rattle.dg_schema.specs.Definitions.{definition_of, with_definitions}
use Rattle.dg_keys.specs.declared.conflict.ConflictKey.{ConflictKey}
use Rattle.dg_keys.specs.declared.record.Part.{Part}
use Rattle.dg_keys.specs.declared.record.Record.{Record}
use Rattle.dg_keys.specs.declared.record.Tablet.{Tablet}
use Rattle.dg_keys.specs.Conflicts.{conflict_text}
use Rattle.dg_keys.specs.Tablets.{tablet_cmp}
use Rattle.dg_oracle.specs.Commits.{OracleState, is_active}
use Rattle.dg_oracle.specs.declared.fault.OracleFault.{OracleFault}
use Rattle.dg_oracle.specs.declared.fault.OracleFault.TheVariants as draws
use Rattle.dg_zero.specs.declared.entry.Entry.{Entry}
use Rattle.dg_zero.specs.declared.entry.Event.{Event}
use Rattle.dg_zero.specs.declared.entry.Event.TheVariants as events
use Rattle.dg_zero.specs.declared.entry.Reason.TheVariants as reasons
use Rattle.dg_zero.specs.declared.fault.CommitFault.{CommitFault}
use Rattle.dg_zero.specs.declared.fault.CommitFault.TheVariants as commits
use Rattle.dg_zero.specs.declared.fault.ZeroFault.{ZeroFault}
use Rattle.dg_zero.specs.declared.fault.ZeroFault.TheVariants as faults
use Rattle.dg_zero.specs.declared.offer.Offer.{Offer}
use Rattle.dg_zero.specs.declared.tablets.Phase.TheVariants.{Idle}
use Rattle.dg_zero.specs.declared.tablets.Place.{Place}
use Rattle.dg_zero.specs.Counters.{next, next_uid, active, starts_of}
use Rattle.dg_zero.specs.Worlds.{world, schema}
use Rattle.dg_zero.specs.Listings.{AreGainsAndLosses}
use Rattle.dg_zero.specs.Places.{tablets, tally, fresh, is_held}
use Rattle.dg_zero.specs.Verdicts as verdicts
use Rattle.dg_zero.specs.Verdicts.{first}
use Rattle.dg_zero.specs.Legal.{IsLegal, KeepsKind}

-- what a state of Zero is seen as: the number of groups, and all that happened
pub record Zero : Type 0 where
  pub groups : ℕ
  pub history : List Entry

-- a tablet's predicate and owner
abbrev pub tablet_of : Place → Tablet
tablet_of place = record { pred = place.pred; group = place.group }

-- the owners of tablets, ascending by predicate
abbrev pub owners_of : List Place → List Tablet
owners_of places = ascending tablet_cmp (map tablet_of places)

-- the present owners
abbrev pub owners : List Entry → List Tablet
owners history = owners_of (tablets history)

-- what a state keeps: its history is legal, and the oracle, the next node, the schema, the tablets, the owners and the number of tablets of each group are where it leads; nothing is moved, and the line isn't advanced yet
pub record IsKept (groups : ℕ) (oracle : OracleState ConflictKey) (uid : ℕ) (declared : List PredDef) (places : List Place) (owned : List Tablet) (history : List Entry) (counts : List ℕ) : Type 0 where
  pub least : 1 ≤ groups
  pub legal : IsLegal groups history
  pub next_is : oracle.next ≡ next history
  pub active_are : oracle.active ≡ starts_of (active history)
  pub commits_are : oracle.commits ≡ verdicts.commits history
  pub line_is : oracle.line ≡ 0
  pub uid_is : uid ≡ next_uid history
  pub schema_is : declared ≡ schema history
  pub tablets_are : places ≡ tablets history
  pub owners_are : owned ≡ owners history
  pub counts_are : counts ≡ tally groups (tablets history)
  pub idle : AllByRecursion (λ (t : Place). t.phase ≡ Idle) (tablets history)

-- the history with one entry more
abbrev pub and_entry : List Entry → ℕ → Event → List Entry
and_entry history author event = history ++ (record { author = author; event = event }) ∷ []

-- the state with one entry more
abbrev pub and_then : Zero → ℕ → Event → Zero
and_then zero author event = record { groups = zero.groups; history = and_entry zero.history author event }

-- why a begin is refused: timestamps are spent where the next would be 2 ^ 62
abbrev pub IsBeginFault : ℕ → ZeroFault → Type 0
IsBeginFault next faults.OutOfMemory = Unit {0}
IsBeginFault next (faults.TimestampsSpent spent) = (spent ≡ next) × (next ≡ 2 ^ 62)
IsBeginFault next fault = ⊥

-- a fault of the oracle is one of the call
abbrev pub fault_of : OracleFault → ZeroFault
fault_of draws.OutOfMemory = faults.OutOfMemory
fault_of (draws.TimestampsSpent next) = faults.TimestampsSpent next

-- and one of a commit, which hands its offer back
abbrev pub commit_fault_of : Offer → OracleFault → CommitFault
commit_fault_of offer draws.OutOfMemory = commits.OutOfMemory offer
commit_fault_of offer (draws.TimestampsSpent next) = commits.TimestampsSpent next offer

-- the entry of an offer that is committed
abbrev pub commit_of : Offer → ℕ → Event
commit_of offer ts = events.Commit offer.start offer.preds offer.keys offer.changes (record { ts = ts; fresh = []; parts = offer.parts })

-- a refused commit names its reason, a key with its text, and ends the transaction, or hands the offer back and leaves it active
abbrev pub IsRefusal : Zero → Zero → ℕ → Offer → CommitFault → Type 0
IsRefusal old new author offer (commits.Moving pred) =
    (verdicts.verdict old.history offer.start offer.preds offer.keys ≡ Some (reasons.Moving pred))
    × (new ≡ and_then old author (events.Refused offer.start (reasons.Moving pred)))
IsRefusal old new author offer (commits.Conflict key text ts) =
    (verdicts.verdict old.history offer.start offer.preds offer.keys ≡ Some (reasons.Conflict key ts))
    × (new ≡ and_then old author (events.Refused offer.start (reasons.Conflict key ts)))
    × (text ≡ conflict_text key)
IsRefusal old new author offer (commits.TimestampsSpent spent back) =
    (verdicts.verdict old.history offer.start offer.preds offer.keys ≡ None)
    × (spent ≡ next old.history) × (next old.history ≡ 2 ^ 62) × (back ≡ offer) × (new ≡ and_then old author events.Look)
IsRefusal old new author offer (commits.OutOfMemory back) = (back ≡ offer) × (new ≡ and_then old author events.Look)

-- each predicate that has a triple keeps its kind, and stays a list or none
abbrev pub KeepKinds : List Entry → List PredDef → Type 0
KeepKinds history newer = AllByRecursion (λ def. KeepsKind (world history).graph def (definition_of (schema history) def.name)) newer

-- the parts are what lists gain and lose by new definitions
abbrev pub AreAlterParts : List Entry → List PredDef → List Part → Type 0
AreAlterParts history newer parts = AreGainsAndLosses (schema history) (world history).graph (with_definitions (schema history) newer) (world history).graph parts

-- what an alter writes: the tablets of new predicates, and the parts
abbrev pub alter_record : Zero → List PredDef → List Part → Record
alter_record old newer parts = record { ts = next old.history + 1; fresh = fresh old.groups (tablets old.history) newer; parts = parts }

-- the entry of an alter
abbrev pub alter_of : Zero → List PredDef → List Part → Event
alter_of old newer parts = events.Alter (next old.history) newer (alter_record old newer parts)

-- the start is active, and none is less
pub record IsLeastStart (history : List Entry) (start : ℕ) : Type 0 where
  pub found : is_active (starts_of (active history)) start ≡ true
  pub least : AllByRecursion (λ s. start ≤ s) (starts_of (active history))

-- the first of these definitions, in their order, whose tablet is held
abbrev pub first_held : List Place → List PredDef → Option (List ℕ)
first_held places newer = option_map (λ d. d.name) (first (filter (λ d. is_held places d.name) newer))

-- why an alter is refused: a transaction is active, or else a tablet is held, or else two timestamps aren't left
abbrev pub IsAlterFault : List Entry → List PredDef → ZeroFault → Type 0
IsAlterFault history newer faults.OutOfMemory = Unit {0}
IsAlterFault history newer (faults.Pending start) = IsLeastStart history start
IsAlterFault history newer (faults.Moving pred) = (active history ≡ []) × (first_held (tablets history) newer ≡ Some pred)
IsAlterFault history newer (faults.TimestampsSpent spent) =
    (active history ≡ []) × (first_held (tablets history) newer ≡ None) × (spent ≡ next history) × (2 ^ 62 - 1 ≤ next history)
IsAlterFault history newer fault = ⊥
