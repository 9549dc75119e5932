-- What recursion shows: of a node its own fields, and under each of its edges the nodes to which it leads, so many edges deep. Nodes
-- are any numbers.
use Rattle.std.specs.Prelude.{ℕ, zero, suc, Bool, true, false, not, ◌==◌, List, [], ◌∷◌, map, filter, flat_map}
use Rattle.std.specs.List.{list_any}
use Rattle.dg_tree.specs.declared.tree.Tree.{Tree}
use Rattle.dg_tree.specs.declared.tree.Tree.TheVariants as trees
use Rattle.dg_tree.specs.declared.tree.Field.{Field}

-- what a field of the query shows of a node: fields of its own, or, under a key, one node or a list of nodes to which an edge leads
pub data Piece : Type 0 where
  own : List Field → Piece
  edge : List ℕ → Bool → List ℕ → Piece

-- a tree under a key
abbrev pub under : List ℕ → Tree → Field
under key tree = record { key = key; tree = tree }

-- a node by what is shown of it; it is left out where that is nothing
abbrev pub node_of : List Field → List Tree
node_of [] = []
node_of (field ∷ fields) = trees.Node (field ∷ fields) ∷ []

-- these as an array, if there are any
abbrev pub as_array : List Tree → List Tree
as_array [] = []
as_array (tree ∷ more) = trees.Array (tree ∷ more) ∷ []

-- the first of these, if there are any
abbrev pub first_tree : List Tree → List Tree
first_tree [] = []
first_tree (tree ∷ more) = tree ∷ []

-- the node is on the path
abbrev pub is_on : List ℕ → ℕ → Bool
is_on path node = list_any (λ n. n == node) path

-- the nodes of a list, without those of the path where none may come again
abbrev pub off_path : Bool → List ℕ → List ℕ → List ℕ
off_path true path nodes = nodes
off_path false path nodes = filter (λ n. not (is_on path n)) nodes

-- the nodes that an edge shows: the first by itself, or all as an array
abbrev pub edge_trees : Bool → List Tree → List Tree
edge_trees true shown = first_tree shown
edge_trees false shown = as_array shown

-- what a piece shows, by what is shown of the nodes of a list
abbrev pub piece_shown : (List ℕ → List Tree) → Piece → List Field
piece_shown trees_of (own fields) = fields
piece_shown trees_of (edge key single nodes) = map (under key) (edge_trees single (trees_of nodes))

-- what is shown of a node, where so many edges more may be followed, and this is the path to it, itself on it
unfoldable pub unfolded : (ℕ → List Piece) → Bool → ℕ → List ℕ → ℕ → List Field
unfolded pieces again zero path node = flat_map (piece_shown (λ nodes. [])) (pieces node)
unfolded pieces again (suc left) path node =
    flat_map (piece_shown (λ nodes. flat_map (λ n. node_of (unfolded pieces again left (n ∷ path) n)) (off_path again path nodes))) (pieces node)
