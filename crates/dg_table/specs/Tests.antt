-- Tests that the checker computes over a whole table that is written out.
use Rattle.std.specs.Prelude.{Bool, true, not, ◌&&◌, ◌||◌, ◌==◌, List, [], ◌∷◌}
use Rattle.std.specs.List.{list_any}
use Rattle.std.specs.Str.{bytes_eq}
use Rattle.dg_table.specs.Rows.{Row}

-- whether the rows have one name or one code
abbrev pub share : Row → Row → Bool
share a b = bytes_eq a.0 b.0 || a.1 == b.1

-- whether no two rows have one name, and no two have one code
abbrev pub is_one_to_one : List Row → Bool
is_one_to_one [] = true
is_one_to_one (row ∷ rows) = not (list_any (λ later. share later row) rows) && is_one_to_one rows
