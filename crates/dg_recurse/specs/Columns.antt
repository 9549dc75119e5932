-- What columns hold of the nodes by their places, and of which pieces they are.
use Rattle.std.specs.Prelude.{◌≡◌, ℕ, List, [], ◌∷◌, map, get_or}
use Rattle.dg_tree.specs.declared.tree.Field.{Field}
use Rattle.dg_tree.specs.Texts.{key_text}
use Rattle.dg_recurse.specs.declared.column.Column.{Column}
use Rattle.dg_recurse.specs.declared.column.Column.TheVariants as columns
use Rattle.dg_recurse.specs.Unfolding.{Piece, own, edge}
use Rattle.dg_recurse.specs.Rows.{row_text}

-- a column holds at each place the text of what such a piece shows by itself, or the nodes to which it leads, under the text of its key
abbrev pub IsColumnOf : Column → (ℕ → Piece) → Type 0
IsColumnOf (columns.Own texts) piece = (place : ℕ) → (fields : List Field) × (piece place ≡ own fields) × (get_or texts.items place [] ≡ row_text fields)
IsColumnOf (columns.Edge key single lists) piece = (name : List ℕ) × (key ≡ key_text name) × ((place : ℕ) → piece place ≡ edge name single (get_or lists.items place []))

-- columns hold such pieces, one each
abbrev pub AreColumnsOf : List Column → List (ℕ → Piece) → Type 0
AreColumnsOf [] [] = Unit {0}
AreColumnsOf [] (piece ∷ pieces) = ⊥
AreColumnsOf (column ∷ columns) [] = ⊥
AreColumnsOf (column ∷ columns) (piece ∷ pieces) = IsColumnOf column piece × AreColumnsOf columns pieces

-- the pieces of a place
abbrev pub pieces_at : List (ℕ → Piece) → ℕ → List Piece
pieces_at pieces place = map (λ piece. piece place) pieces

-- the text that a column holds of the node at a place
abbrev pub own_of : Column → ℕ → List ℕ
own_of (columns.Own texts) place = get_or texts.items place []
own_of (columns.Edge key single lists) place = []

-- the nodes to which a column leads from a place
abbrev pub nodes_of : Column → ℕ → List ℕ
nodes_of (columns.Own texts) place = []
nodes_of (columns.Edge key single lists) place = get_or lists.items place []
