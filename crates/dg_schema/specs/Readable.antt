-- Which definitions can be written in the schema language, what a schema keeps, that what is read can be written, and that
-- what is printed reads back.
use Rattle.std.specs.Prelude.{◌≡◌, ℕ, true, false, ◌==◌, length, List, Ok}
use Rattle.std.specs.List.{list_all, AllByRecursion}
use Rattle.dg_schema.specs.declared.definition.PredDef.{PredDef}
use Rattle.dg_schema.specs.Definitions.{AreDistinct, with_definitions}
use Rattle.dg_schema.specs.Places.{IsIndexed}
use Rattle.dg_text.specs.Words.{is_whole_name, is_reserved}
use Rattle.dg_schema.specs.Words.{fits_kind, is_uid}
use Rattle.dg_schema.specs.Grammar.{distinct}
use Rattle.dg_schema.specs.Texts.{by_name, schema_text}
use Rattle.dg_schema.specs.Whole.{schema}

-- the name is a Name that isn't reserved, the tokenizers are distinct ones of the kind, and the directives are allowed
pub record IsReadable (d : PredDef) : Type 0 where
  pub named : is_whole_name d.name ≡ true
  pub unreserved : is_reserved d.name ≡ false
  pub fitting : list_all (fits_kind d.kind) d.tokens ≡ true
  pub once : distinct d.tokens ≡ true
  pub reversed : d.reverse ≡ true → is_uid d.kind ≡ true
  pub upserted : d.upsert ≡ true → (length d.tokens == 0) ≡ false

-- each of them can be written
abbrev pub AreReadable : List PredDef → Type 0
AreReadable definitions = AllByRecursion IsReadable definitions

-- what a schema keeps: its definitions have their places in order of the names, and can be written
pub record IsSchema (definitions : List PredDef) (places : List ℕ) : Type 0 where
  pub indexed : IsIndexed definitions places
  pub readable : AreReadable definitions

-- the text of definitions reads as these definitions, in ascending order of their names
abbrev pub ReadsBack : Type 0
ReadsBack = (definitions : List PredDef) → AreReadable definitions → schema (schema_text definitions) ≡ Ok (by_name definitions)

-- the definitions of a text can be written, and their names are distinct
abbrev pub ReadsReadable : Type 0
ReadsReadable = (text : List ℕ) (definitions : List PredDef) → schema text ≡ Ok definitions → AreReadable definitions × AreDistinct definitions

-- definitions that can be written can be written when they are joined
abbrev pub JoinsReadable : Type 0
JoinsReadable = (older newer : List PredDef) → AreReadable older → AreReadable newer → AreReadable (with_definitions older newer)
