-- How near the places are to one that shows something of itself.
use Rattle.std.specs.Prelude.{◌≡◌, ℕ, ◌+◌, ◌==◌, nat_le, Bool, true, false, ◌&&◌, ◌||◌, List, [], ◌∷◌, Some, map, get_or, slice_get}
use Rattle.std.specs.List.{list_all}
use Rattle.dg_recurse.specs.declared.column.Column.{Column}
use Rattle.dg_recurse.specs.Columns.{own_of, nodes_of}
use Rattle.dg_recurse.specs.Rows.{joined}

-- nothing
abbrev pub is_nothing : List ℕ → Bool
is_nothing [] = true
is_nothing (byte ∷ text) = false

-- the columns show nothing of the node at a place itself
abbrev pub is_bare : List Column → ℕ → Bool
is_bare fetched place = list_all (λ column. is_nothing (own_of column place)) fetched

-- each of these places is as near as that, but for one edge
abbrev pub are_near : List ℕ → ℕ → List ℕ → Bool
are_near near edges nodes = list_all (λ n. nat_le edges (1 + get_or near n 0)) nodes

-- a number of edges, without which no place that shows something of itself is reached from this one
abbrev pub is_least : List ℕ → List Column → ℕ → Bool
is_least near fetched place = (get_or near place 0 == 0) || (is_bare fetched place && list_all (λ column. are_near near (get_or near place 0) (nodes_of column place)) fetched)

-- so for each place: these are no more edges than are followed to one that shows something of itself
abbrev pub AreNear : List ℕ → List Column → Type 0
AreNear near fetched = (place : ℕ) → is_least near fetched place ≡ true

-- what the node at a place shows of itself: its row, where no edge is followed any more
abbrev pub own_row : List Column → ℕ → List ℕ
own_row fetched place = joined (map (λ column. own_of column place) fetched)

-- what is told of places: edges, and rows where none is followed any more
pub record Reached : Type 0 where
  pub edges : List ℕ
  pub rows : List (List ℕ)

-- that is so, by the columns
pub record AreLeast (reach : Reached) (fetched : List Column) : Type 0 where
  pub near : AreNear reach.edges fetched
  pub own : (place : ℕ) (row : List ℕ) → slice_get reach.rows place ≡ Some row → row ≡ own_row fetched place
