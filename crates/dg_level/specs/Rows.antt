-- What is shown of the nodes of a level as texts, a row each, and the array of the nodes of a list.
use Rattle.std.specs.Prelude.{ℕ, List, [], ◌∷◌, ◌++◌, map, length, codes, sum_by, true, ◌≡◌}
use Rattle.std.specs.List.{AllByRecursion}
use Rattle.std.specs.Ordering.{nat_cmp}
use Rattle.dg_values.specs.Ascending.{has}
use Rattle.dg_tree.specs.declared.tree.Field.{Field}
use Rattle.dg_tree.specs.Texts.{with_commas, array_text, field_text}

-- rows, what is written of the next one, and how many bytes all may have together
pub record Written : Type 0 where
  pub rows : List (List ℕ)
  pub begun : List ℕ
  pub limit : ℕ

-- how many bytes texts have together
abbrev pub total : List (List ℕ) → ℕ
total = sum_by length

-- the text of a row: its fields, as they stand in an object
abbrev pub row_text : List Field → List ℕ
row_text fields = with_commas (map field_text fields)

-- the texts that aren't empty
abbrev pub not_empty : List (List ℕ) → List (List ℕ)
not_empty [] = []
not_empty ([] ∷ texts) = not_empty texts
not_empty ((byte ∷ text) ∷ texts) = (byte ∷ text) ∷ not_empty texts

-- the object of a row
abbrev pub braced : List ℕ → List ℕ
braced row = codes "{" ++ (row ++ codes "}")

-- the objects of the rows that show something, in order
abbrev pub objects_of : List (List ℕ) → List (List ℕ)
objects_of rows = map braced (not_empty rows)

-- an array that isn't empty, or nothing
abbrev pub shown_array : List (List ℕ) → List (List ℕ)
shown_array [] = []
shown_array (item ∷ items) = array_text (item ∷ items) ∷ []

-- the array of objects in front and those of rows, if there is any
abbrev pub array_of : List (List ℕ) → List (List ℕ) → List (List ℕ)
array_of front rows = shown_array (front ++ objects_of rows)

-- a row with fields more
abbrev pub with_fields : List ℕ → List (List ℕ) → List ℕ
with_fields row fields = with_commas (not_empty (row ∷ []) ++ fields)

-- each of these nodes is one of the level
abbrev pub AreOfLevel : List ℕ → List ℕ → Type 0
AreOfLevel level nodes = AllByRecursion (λ node. has nat_cmp level node ≡ true) nodes
