-- Rows of a name and a code, and what a table of them answers.
use Rattle.std.specs.Prelude.{◌≡◌, ◌<◌, ◌↔◌, ◌⊎◌, ℕ, List, map, length, Option, Some}
use Rattle.std.specs.List.{AllPairs, Contains, slice_index_or}

-- the bytes of a name, and its code
abbrev pub Row : Type 0
Row = List ℕ × ℕ

-- the rows whose names have these bytes
abbrev pub rows_of : {S : Type 0} → (S → List ℕ) → List (S × ℕ) → List Row
rows_of bytes = map (λ row. (bytes row.0, row.1))

-- the rows have one name or one code
abbrev pub Share : Row → Row → Type 0
Share a b = (a.0 ≡ b.0) ⊎ (a.1 ≡ b.1)

-- no two rows have one name, and no two have one code
abbrev pub IsOneToOne : List Row → Type 0
IsOneToOne = AllPairs (λ a b. ¬ (Share a b))

-- two rows at different places have one name or one code
abbrev pub HasDouble : List Row → Type 0
HasDouble rows =
    (i : ℕ) × (j : ℕ) × (i < j) × (j < length rows)
    × ((d : Row) → Share (slice_index_or rows i d) (slice_index_or rows j d))

-- the answer is the code of the row of that name, and none where no row has it
abbrev pub IsCodeOf : List Row → List ℕ → Option ℕ → Type 0
IsCodeOf rows name answer = (code : ℕ) → (answer ≡ Some code) ↔ Contains rows (name, code)

-- the answer is the name of the row of that code, and none where no row has it
abbrev pub IsNameOf : List Row → ℕ → Option (List ℕ) → Type 0
IsNameOf rows code answer = (name : List ℕ) → (answer ≡ Some name) ↔ Contains rows (name, code)

-- a name has a code exactly where that code has that name
abbrev pub AreInverse : List Row → Type 0
AreInverse rows = (name : List ℕ) (code : ℕ) → IsCodeOf rows name (Some code) ↔ IsNameOf rows code (Some name)
