-- The entries of a chain and of the records that stand beside it.
use Rattle.std.specs.Prelude.{ℕ, zero, suc, ◌+◌, List, [], ◌∷◌, ◌++◌, get_or}
use Rattle.dg_graph.specs.declared.change.Change.{Change}
use Rattle.dg_graph.specs.Changes.{changed}
use Rattle.dg_keys.specs.declared.conflict.ConflictKey.{ConflictKey}
use Rattle.dg_keys.specs.declared.record.Part.{Part}
use Rattle.dg_keys.specs.declared.record.Record.{Record}
use Rattle.dg_zero.specs.declared.chain.Chain.{Chain, Spent, After'}
use Rattle.dg_zero.specs.declared.chain.Committed.{Committed}
use Rattle.dg_zero.specs.declared.chain.Kept.{Kept}
use Rattle.dg_zero.specs.declared.chain.What.{What}
use Rattle.dg_zero.specs.declared.chain.What.TheVariants as whats
use Rattle.dg_zero.specs.declared.entry.Entry.{Entry}
use Rattle.dg_zero.specs.declared.entry.Event.{Event}
use Rattle.dg_zero.specs.declared.entry.Event.TheVariants as events
use Rattle.dg_zero.specs.declared.offer.Offer.{Offer}
use Rattle.dg_zero.specs.Listings.{conflict_keys}
use Rattle.dg_zero.specs.Worlds.{schema_at, graph_at}

-- what author 0 does
abbrev pub own : Event → Entry
own event = record { author = 0; event = event }

-- the history of so many transactions, each of which began and was ended at once, without changes (a definition of this project's own)
abbrev pub spent : ℕ → List Entry
spent zero = []
spent (suc n) = spent n ++ own (events.Begin (suc n)) ∷ own (events.End (suc n)) ∷ []

-- a record that says nothing
abbrev pub no_record : Record
no_record = record { ts = 0; fresh = []; parts = [] }

-- how many records an entry has: a commit and an alter have one
abbrev pub count_of : What → ℕ
count_of (whats.Commit made) = 1
count_of (whats.Alter altered) = 1
count_of what = 0

-- the keys by which changes conflict that are asked for at a start of these entries
abbrev pub keys_at : List Entry → ℕ → List Change → List ConflictKey
keys_at before start asked = conflict_keys (schema_at before start) (graph_at before start []) asked

-- the predicates that a commit names: where none stands there, that of its first change alone
abbrev pub preds_at : List (List ℕ) → List Change → List (List ℕ)
preds_at [] (change ∷ more) = (changed change).p ∷ []
preds_at preds changes = preds

-- what happened after these entries as contracts see it, with the record where it has one; a commit's keys are those of its changes
abbrev pub event_of : List Entry → Record → What → Event
event_of before written (whats.Begin start) = events.Begin start
event_of before written (whats.Commit made) = events.Commit made.value.start (preds_at made.value.preds made.value.changes) (keys_at before made.value.start made.value.changes) made.value.changes written
event_of before written (whats.Refused refusal) = events.Refused refusal.value.start refusal.value.reason
event_of before written (whats.End start) = events.End start
event_of before written (whats.Lease top count first) = events.Lease top count first
event_of before written (whats.Alter altered) = events.Alter altered.value.start altered.value.newer written
event_of before written (whats.Line line) = events.Line line
event_of before written (whats.Rolled pred group upto) = events.Rolled pred.value group upto
event_of before written (whats.MoveStart pred group) = events.MoveStart pred.value group
event_of before written (whats.MoveCopied pred) = events.MoveCopied pred
event_of before written (whats.MoveHold pred) = events.MoveHold pred
event_of before written (whats.Flip pred until) = events.Flip pred.value until
event_of before written (whats.MoveOff pred) = events.MoveOff pred
event_of before written whats.Look = events.Look

-- how many records the entries of a chain have
abbrev pub recorded : Chain → ℕ
recorded (Spent n) = 0
recorded (After' place before kept) = recorded before + count_of kept.what

-- the entries and one more, which has this record where it has one
abbrev pub and_kept : List Entry → Record → Kept → List Entry
and_kept before written kept = before ++ (record { author = kept.author; event = event_of before written kept.what }) ∷ []

-- the entries of a chain, the oldest first: behind those of its foot, its own, each with the record that comes after those
-- of the entries before it
abbrev pub entries_of : List Record → Chain → List Entry
entries_of records (Spent n) = spent n
entries_of records (After' place before kept) = and_kept (entries_of records before) (get_or records (recorded before) no_record) kept

-- the offer of which a commit was made, with its keys and its parts
abbrev pub offer_of : Committed → List ConflictKey → List Part → Offer
offer_of made keys parts = record { start = made.start; preds = made.preds; keys = keys; changes = made.changes; parts = parts }
