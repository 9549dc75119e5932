-- Columns over a set of nodes, by their places in it.
use Rattle.std.specs.Prelude.{◌≡◌, ℕ, ◌<◌, ⊤, Bool, if◌then◌else◌, List, [], ◌∷◌, length, map, filter, get_or}
use Rattle.std.specs.List.{AllByRecursion}
use Rattle.std.specs.Ordering.{nat_cmp}
use Rattle.dg_values.specs.Ascending.{has}
use Rattle.dg_recurse.specs.declared.column.Column.{Column}
use Rattle.dg_recurse.specs.Columns.{IsColumnOf}
use Rattle.dg_recurse.specs.Laws.{renamed, LeadsBelow}
use Rattle.dg_level.specs.Looping.{PieceOf, nodes_in}
use Rattle.dg_level.specs.Reaching.{piece_within, led_to}

-- the node at a place
abbrev pub name_of : List ℕ → ℕ → ℕ
name_of set place = get_or set place 0

-- these are the places of those nodes of a list that a set has
pub record ArePlaces (set nodes places : List ℕ) : Type 0 where
  pub names : map (name_of set) places ≡ filter (λ n. has nat_cmp set n) nodes
  pub below : AllByRecursion (λ place. place < length set) places

-- the same of lists, one each
abbrev pub AllPlaces : List ℕ → List (List ℕ) → List (List ℕ) → Type 0
AllPlaces set [] [] = ⊤
AllPlaces set [] (places ∷ more) = ⊥
AllPlaces set (nodes ∷ lists) [] = ⊥
AllPlaces set (nodes ∷ lists) (places ∷ more) = ArePlaces set nodes places × AllPlaces set lists more

-- the nodes to which a field leads from a node that is near, and none from another
abbrev pub leads_from : (ℕ → Bool) → PieceOf → ℕ → List ℕ
leads_from near piece node = if near node then nodes_in (piece node) else []

-- a column holds of each node of a set what a field is there, by the places of the nodes: where it leads from those that are near alone
pub record IsPlaced (near : ℕ → Bool) (set : List ℕ) (column : Column) (piece : PieceOf) : Type 0 where
  pub placed : PieceOf
  pub holds : IsColumnOf column placed
  pub names : (place : ℕ) → place < length set → piece_within (led_to near set (name_of set place)) (piece (name_of set place)) ≡ renamed (name_of set) (placed place)
  pub below : (place : ℕ) → place < length set → LeadsBelow (length set) (placed place)

-- the same of all fields
abbrev pub ArePlaced : (ℕ → Bool) → List ℕ → List Column → List PieceOf → Type 0
ArePlaced near set [] [] = ⊤
ArePlaced near set [] (piece ∷ pieces) = ⊥
ArePlaced near set (column ∷ columns) [] = ⊥
ArePlaced near set (column ∷ columns) (piece ∷ pieces) = IsPlaced near set column piece × ArePlaced near set columns pieces
