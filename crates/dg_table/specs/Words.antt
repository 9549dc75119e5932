-- Rows of words and what they name, and the rows of codes beside them.
use Rattle.std.specs.Prelude.{ℕ, suc, List, [], ◌∷◌, Option, Some, None, if◌then◌else◌}
use Rattle.std.specs.Str.{bytes_eq}
use Rattle.dg_table.specs.Rows.{Row}

-- what the first row of that word names
abbrev pub named_in : {A : Type 0} → List (List ℕ × A) → List ℕ → Option A
named_in [] word = None
named_in (row ∷ rows) word = if bytes_eq word row.0 then Some row.1 else named_in rows word

-- each word with the place of its row, from a place on
abbrev pub placed : {A : Type 0} → ℕ → List (List ℕ × A) → List Row
placed place [] = []
placed place (row ∷ rows) = (row.0, place) ∷ placed (suc place) rows
