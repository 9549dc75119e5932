-- How many arguments each verb of a request takes.
use Rattle.std.specs.Prelude.{ℕ, Bool, ◌&&◌, ◌==◌, List, [], ◌∷◌, codes, if◌then◌else◌, nat_lt, slice_index}
use Rattle.std.specs.List.{list_any}
use Rattle.std.specs.Str.{bytes_eq}
use Rattle.dg_table.specs.Rows.{Row}

-- whether the name is one of these
abbrev pub is_among : List (List ℕ) → List ℕ → Bool
is_among names name = list_any (λ other. bytes_eq other name) names

-- how many arguments the verb of that name takes
abbrev pub argument_count : List ℕ → ℕ
argument_count name =
    if is_among (codes "mutate" ∷ codes "upsert" ∷ codes "query" ∷ codes "movestart" ∷ []) name then 2
    else (if is_among (codes "line" ∷ codes "state" ∷ []) name then 0 else 1)

-- whether the counts have, at the row's code, what the verb of its name takes
abbrev pub is_counted : List ℕ → Row → Bool
is_counted counts row = nat_lt row.1 17 && slice_index counts row.1 == argument_count row.0
