-- What holds of unfolding.
use Rattle.std.specs.Prelude.{◌≡◌, ℕ, ◌<◌, Bool, List, map}
use Rattle.std.specs.List.{AllByRecursion}
use Rattle.dg_recurse.specs.Unfolding.{Piece, own, edge, unfolded}

-- a piece with its nodes renamed
abbrev pub renamed : (ℕ → ℕ) → Piece → Piece
renamed name (own fields) = own fields
renamed name (edge key single nodes) = edge key single (map name nodes)

-- all these nodes are below a number
abbrev pub AreBelow : ℕ → List ℕ → Type 0
AreBelow count nodes = AllByRecursion (λ n. n < count) nodes

-- so are those to which a piece leads
abbrev pub LeadsBelow : ℕ → Piece → Type 0
LeadsBelow count (own fields) = Unit {0}
LeadsBelow count (edge key single nodes) = AreBelow count nodes

-- it doesn't matter by which numbers nodes go: where each place has a name of its own, and the pieces of the names are those of the
-- places with their nodes renamed, the same is shown
abbrev pub NamesDontMatter : Type 0
NamesDontMatter =
    (name : ℕ → ℕ) (count : ℕ) (pieces places : ℕ → List Piece) (again : Bool) (left : ℕ) (path : List ℕ) (node : ℕ)
    → ((a b : ℕ) → a < count → b < count → name a ≡ name b → a ≡ b)
    → ((place : ℕ) → place < count → pieces (name place) ≡ map (renamed name) (places place))
    → ((place : ℕ) → place < count → AllByRecursion (LeadsBelow count) (places place))
    → AreBelow count path
    → node < count
    → unfolded pieces again left (map name path) (name node) ≡ unfolded places again left path node
