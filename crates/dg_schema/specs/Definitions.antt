-- Definitions of predicates with distinct names, in the order in which they were declared.
use Rattle.std.specs.Prelude.{◌≡◌, ℕ, Bool, false, not, if◌then◌else◌, List, [], ◌∷◌, ◌++◌, Option, Some, None, fold, map, find, is_some}
use Rattle.std.specs.List.{AllByRecursion}
use Rattle.dg_values.specs.Order.{text_cmp, same_text}
use Rattle.dg_values.specs.Ascending.{ascending}
use Rattle.dg_schema.specs.declared.definition.PredDef.{PredDef}

-- the definition has this name
abbrev pub is_named : List ℕ → PredDef → Bool
is_named name definition = same_text definition.name name

-- no two definitions have one name
abbrev pub AreDistinct : List PredDef → Type 0
AreDistinct [] = Unit {0}
AreDistinct (definition ∷ more) = AllByRecursion (λ other. is_named definition.name other ≡ false) more × AreDistinct more

-- the definition of a name, where it is declared
abbrev pub definition_of : List PredDef → List ℕ → Option PredDef
definition_of schema name = find (is_named name) schema

-- the name is declared
abbrev pub is_declared : List PredDef → List ℕ → Bool
is_declared schema name = is_some (definition_of schema name)

-- the newer definition in its namesake's place
abbrev pub replaced : PredDef → PredDef → PredDef
replaced newer older = if is_named newer.name older then newer else older

-- one definition more, or in the place of its namesake
abbrev pub with_definition : List PredDef → PredDef → List PredDef
with_definition schema newer = if is_declared schema newer.name then map (replaced newer) schema else schema ++ newer ∷ []

-- the older definitions, with each newer one added or put in its namesake's place
abbrev pub with_definitions : List PredDef → List PredDef → List PredDef
with_definitions schema newer = fold with_definition schema newer

-- the names in ascending order
abbrev pub names_ascending : List PredDef → List (List ℕ)
names_ascending schema = ascending text_cmp (map (λ d. d.name) schema)

-- each subject has one object of the predicate at most: it is declared, and as no list
abbrev pub is_single_by : Option PredDef → Bool
is_single_by None = false
is_single_by (Some definition) = not definition.list

-- the same by name, under a schema
abbrev pub is_single : List PredDef → List ℕ → Bool
is_single schema name = is_single_by (definition_of schema name)
