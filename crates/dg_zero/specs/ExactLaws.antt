-- What makes the records of a history exact, and that exact parts are one list.
use Rattle.std.specs.Prelude.{◌≡◌, ℕ, List, [], ◌∷◌, ◌++◌}
use Rattle.dg_schema.specs.declared.definition.PredDef.{PredDef}
use Rattle.dg_graph.specs.declared.change.Triple.{Triple}
use Rattle.dg_keys.specs.declared.record.Part.{Part}
use Rattle.dg_keys.specs.declared.record.Record.{Record}
use Rattle.dg_zero.specs.declared.entry.Entry.{Entry}
use Rattle.dg_zero.specs.declared.entry.Event.TheVariants.{Alter}
use Rattle.dg_zero.specs.Exact.{AreExact, IsExactNow}
use Rattle.dg_zero.specs.Legal.{Fits, IsLegal}
use Rattle.dg_zero.specs.Listings.{AreGainsAndLosses}

-- one more entry keeps records exact, where it is exact itself
abbrev pub EntriesKeepExact : Type 0
EntriesKeepExact = (n : ℕ) (history : List Entry) (e : Entry) → IsLegal n (history ++ e ∷ []) → IsExactNow history e.event → AreExact history → AreExact (history ++ e ∷ [])

-- an alter that fits is exact
abbrev pub AltersAreExact : Type 0
AltersAreExact = (n : ℕ) (history : List Entry) (author start : ℕ) (newer : List PredDef) (written : Record) → IsLegal n history → Fits n history author (Alter start newer written) → IsExactNow history (Alter start newer written)

-- two lists of parts that are the gains and losses between the same graphs are one
abbrev pub PartsAreOne : Type 0
PartsAreOne = (schema : List PredDef) (graph : List Triple) (new_schema : List PredDef) (new_graph : List Triple) (one other : List Part) → AreGainsAndLosses schema graph new_schema new_graph one → AreGainsAndLosses schema graph new_schema new_graph other → one ≡ other
