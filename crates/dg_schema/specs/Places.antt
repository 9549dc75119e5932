-- The places of definitions in ascending order of their names.
use Rattle.std.specs.Prelude.{◌≡◌, ℕ, ◌<◌, true, List, [], map, length, slice_get}
use Rattle.std.specs.Option.{option_map_or}
use Rattle.std.specs.List.{AllByRecursion}
use Rattle.dg_values.specs.Order.{text_cmp, same_text}
use Rattle.dg_values.specs.Ascending.{Ascends, has}
use Rattle.dg_schema.specs.declared.definition.PredDef.{PredDef}
use Rattle.dg_schema.specs.Definitions.{AreDistinct, is_declared}

-- the name of the definition at a place, and the empty text where there is none
abbrev pub name_at : List PredDef → ℕ → List ℕ
name_at schema place = option_map_or (λ d. d.name) (slice_get schema place) []

-- the names of the definitions at places
abbrev pub names_at : List PredDef → List ℕ → List (List ℕ)
names_at schema places = map (name_at schema) places

-- the definition of a name stands at a place
pub record IsThere (schema : List PredDef) (name : List ℕ) (place : ℕ) : Type 0 where
  pub within : place < length schema
  pub named : same_text (name_at schema place) name ≡ true

-- names are distinct, and each definition has its place once among these, in ascending order of the names
pub record IsIndexed (schema : List PredDef) (places : List ℕ) : Type 0 where
  pub distinct : AreDistinct schema
  pub within : AllByRecursion (λ place. place < length schema) places
  pub ascend : Ascends text_cmp (names_at schema places)
  pub whole : (name : List ℕ) → has text_cmp (names_at schema places) name ≡ is_declared schema name

-- The places of definitions, each with its name, in ascending order of the names.
pub record AreKept (schema : List PredDef) (places : List (List ℕ × ℕ)) : Type 0 where
  pub indexed : IsIndexed schema (map (λ e. e.1) places)
  pub named : names_at schema (map (λ e. e.1) places) ≡ map (λ e. e.0) places
