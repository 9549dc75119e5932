-- What keeps a group in step with a history.
use Rattle.std.specs.Prelude.{◌≡◌, ℕ, ◌<◌, ◌≤◌, List, [], ◌∷◌, ◌++◌, Some, None}
use Rattle.dg_keys.specs.declared.record.Record.{Record}
use Rattle.dg_schema.specs.declared.definition.PredDef.{PredDef}
use Rattle.dg_zero.specs.declared.entry.Entry.{Entry}
use Rattle.dg_zero.specs.declared.entry.Event.TheVariants.{Alter}
use Rattle.dg_zero.specs.Counters.{next}
use Rattle.dg_zero.specs.Places.{copies}
use Rattle.dg_zero.specs.Records.{next_record}
use Rattle.dg_zero.specs.Legal.{IsLegal}
use Rattle.dg_group.specs.Groups.{Group, group_after, CanApply}
use Rattle.dg_group.specs.Stands.{IsInStep, IsReadable}
use Rattle.dg_zero.specs.Exact.{AreExact}
use Rattle.dg_group.specs.declared.copied.Copied.{Copied}

-- the next record of a history can be applied
abbrev pub NextCanBeApplied : Type 0
NextCanBeApplied = (n : ℕ) (history : List Entry) (group : Group) (rec : Record) → IsLegal n history → AreExact history → IsInStep group history → next_record history group.last ≡ Some rec → CanApply group rec

-- and keeps a group in step
abbrev pub NextKeepsInStep : Type 0
NextKeepsInStep = (n : ℕ) (history : List Entry) (group : Group) (rec : Record) → IsLegal n history → AreExact history → IsInStep group history → next_record history group.last ≡ Some rec → IsInStep (group_after group rec) history

-- a group without copies is in step with the empty history
abbrev pub NewIsInStep : Type 0
NewIsInStep = (number : ℕ) → IsInStep (record { number = number; last = 0; copies = [] }) []

-- one more entry, which leaves the copies or brings new tablets, keeps a group in step
abbrev pub EntriesKeepInStep : Type 0
EntriesKeepInStep = (n : ℕ) (history : List Entry) (e : Entry) (group : Group) → IsLegal n (history ++ e ∷ []) → copies (history ++ e ∷ []) ≡ copies history → IsInStep group history → IsInStep group (history ++ e ∷ [])

-- a group that applied every record can be read at each timestamp from the last one on that is handed out
abbrev pub AllAppliedIsReadable : Type 0
AllAppliedIsReadable = (n : ℕ) (history : List Entry) (group : Group) (copy : Copied) (at : ℕ) → IsLegal n history → next_record history group.last ≡ None → copy.until ≡ None → copy.mark ≤ at → at < next history → group.last ≤ at → IsReadable history group.last copy at

-- an alter, which may bring tablets, keeps a group in step
abbrev pub AltersKeepInStep : Type 0
AltersKeepInStep = (n : ℕ) (history : List Entry) (author start : ℕ) (newer : List PredDef) (written : Record) (group : Group) → IsLegal n (history ++ (record { author = author; event = Alter start newer written }) ∷ []) → IsInStep group history → IsInStep group (history ++ (record { author = author; event = Alter start newer written }) ∷ [])
