-- Rows in one text, by where each ends.
use Rattle.std.specs.Prelude.{◌≡◌, ℕ, ◌+◌, ◌<◌, ◌≤◌, ◌^◌, true, List, [], ◌∷◌, flat_map, length, slice_range}
use Rattle.std.specs.List.{list_all}
use Rattle.std.specs.Str.{is_utf8}

-- the rows from a place of the text on
abbrev pub rows_in : List ℕ → ℕ → List ℕ → List (List ℕ)
rows_in text from [] = []
rows_in text from (end ∷ ends) = slice_range text from end ∷ rows_in text end ends

-- where the last row ends
abbrev pub last_end : ℕ → List ℕ → ℕ
last_end from [] = from
last_end from (end ∷ ends) = last_end end ends

-- where rows end, one after another
abbrev pub ends_of : ℕ → List (List ℕ) → List ℕ
ends_of from [] = []
ends_of from (row ∷ rows) = (from + length row) ∷ ends_of (from + length row) rows

-- the text is these rows, which end there; each is a text by itself, and what is begun has room beside them within the
-- limit, a number of 64 bits
pub record AreKept (text ends begun : List ℕ) (limit : ℕ) (rows : List (List ℕ)) : Type 0 where
  pub text_is : text ≡ flat_map (λ row. row) rows
  pub ends_are : ends ≡ ends_of 0 rows
  pub texts : list_all is_utf8 rows ≡ true
  pub within : length text + length begun ≤ limit
  pub small : limit < 2 ^ 64
