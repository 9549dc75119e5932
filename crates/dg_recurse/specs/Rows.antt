-- What is shown of a node as a text: its row.
use Rattle.std.specs.Prelude.{ℕ, List, [], ◌∷◌, ◌++◌, map, codes}
use Rattle.dg_tree.specs.declared.tree.Field.{Field}
use Rattle.dg_tree.specs.Texts.{with_commas, array_text, field_text}

-- the text of a row: its fields, as they stand in an object
abbrev pub row_text : List Field → List ℕ
row_text fields = with_commas (map field_text fields)

-- the texts that aren't empty
abbrev pub not_empty : List (List ℕ) → List (List ℕ)
not_empty [] = []
not_empty ([] ∷ texts) = not_empty texts
not_empty ((byte ∷ text) ∷ texts) = (byte ∷ text) ∷ not_empty texts

-- the object of a row
abbrev pub braced : List ℕ → List ℕ
braced row = codes "{" ++ (row ++ codes "}")

-- the objects of the rows that show something, in order
abbrev pub objects_of : List (List ℕ) → List (List ℕ)
objects_of rows = map braced (not_empty rows)

-- an array that isn't empty, or nothing
abbrev pub shown_array : List (List ℕ) → List (List ℕ)
shown_array [] = []
shown_array (item ∷ items) = array_text (item ∷ items) ∷ []

-- texts that aren't empty, with a comma between any two
abbrev pub joined : List (List ℕ) → List ℕ
joined texts = with_commas (not_empty texts)

-- a text with something before it and behind it, or nothing where it is empty
abbrev pub enclosed : List ℕ → List ℕ → List ℕ → List ℕ
enclosed before [] behind = []
enclosed before (byte ∷ text) behind = before ++ ((byte ∷ text) ++ behind)

-- the comma behind a text that isn't empty
abbrev pub comma_behind : List ℕ → List ℕ
comma_behind [] = []
comma_behind (byte ∷ text) = codes ","
