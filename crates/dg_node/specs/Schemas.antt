-- The schema at a timestamp. What a definition is, and what newer ones make of a schema, stands in `dg_schema`.
use Rattle.std.specs.Prelude.{ℕ, nat_le, if◌then◌else◌, List, [], fold}
use Rattle.dg_schema.specs.declared.definition.PredDef.{PredDef}
use Rattle.dg_schema.specs.Definitions.{with_definitions}

-- an alter: the two timestamps that it drew, the second of which it commits at, and what it declares
pub record Alter : Type 0 where
  pub start : ℕ
  pub ts : ℕ
  pub definitions : List PredDef

-- the schema after an alter, if it is at or below a timestamp
abbrev pub after_alter : ℕ → List PredDef → Alter → List PredDef
after_alter ts schema alter = if nat_le alter.ts ts then with_definitions schema alter.definitions else schema

-- the schema at a timestamp: the empty one after the alters at or below it
abbrev pub schema_at : List Alter → ℕ → List PredDef
schema_at alters ts = fold (after_alter ts) [] alters
