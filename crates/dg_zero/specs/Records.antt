-- The records of a history, and the keys of a tablet that they change.
use Rattle.std.specs.Prelude.{ℕ, ◌&&◌, nat_lt, nat_le, List, [], ◌∷◌, Option, map, filter, flat_map, find}
use Rattle.dg_values.specs.Order.{same_text}
use Rattle.dg_values.specs.Ascending.{ascending}
use Rattle.dg_keys.specs.declared.key.Key.{Key}
use Rattle.dg_keys.specs.declared.record.Record.{Record}
use Rattle.dg_keys.specs.declared.record.Part.{Part}
use Rattle.dg_keys.specs.Keys.{key_cmp, pred_of}
use Rattle.dg_zero.specs.declared.entry.Entry.{Entry}
use Rattle.dg_zero.specs.declared.entry.Event.{Event}
use Rattle.dg_zero.specs.declared.entry.Event.TheVariants.{Commit, Alter}

-- what an event gives groups to apply
abbrev pub record_of : Event → List Record
record_of (Commit start preds keys asked written) = written ∷ []
record_of (Alter start newer written) = written ∷ []
record_of event = []

-- the stream of records
abbrev pub records : List Entry → List Record
records history = flat_map (λ e. record_of e.event) history

-- the timestamp of a record
abbrev pub ts_of : Record → ℕ
ts_of r = r.ts

-- the first record above a timestamp
abbrev pub next_record : List Entry → ℕ → Option Record
next_record history after = find (λ r. nat_lt after r.ts) (records history)

-- the records above a mark and at or below another
abbrev pub records_between : List Entry → ℕ → ℕ → List Record
records_between history mark upto = filter (λ r. nat_lt mark r.ts && nat_le r.ts upto) (records history)

-- the keys of a tablet that a record changes
abbrev pub keys_of : List ℕ → Record → List Key
keys_of pred r = filter (λ key. same_text (pred_of key) pred) (map (λ (part : Part). part.key) r.parts)

-- the keys of a tablet whose lists were changed above a mark and at or below another, each once
abbrev pub changed_keys : List Entry → List ℕ → ℕ → ℕ → List Key
changed_keys history pred mark upto = ascending key_cmp (flat_map (keys_of pred) (records_between history mark upto))
