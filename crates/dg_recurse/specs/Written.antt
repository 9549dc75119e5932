-- The row that columns show of a place, as a text.
use Rattle.std.specs.Prelude.{◌≡◌, ◌≤◌, ℕ, zero, suc, Bool, true, false, if◌then◌else◌, List, [], ◌∷◌, ◌++◌, map, get_or, codes}
use Rattle.dg_tree.specs.Texts.{array_text}
use Rattle.dg_recurse.specs.declared.column.Column.{Column}
use Rattle.dg_recurse.specs.declared.column.Column.TheVariants as columns
use Rattle.dg_recurse.specs.Unfolding.{is_on}
use Rattle.dg_recurse.specs.Rows.{objects_of, joined, enclosed}

-- the nodes that an edge shows, by the objects of those that show something: the first by itself, or the array of all
abbrev pub edge_text : Bool → List (List ℕ) → List ℕ
edge_text single [] = []
edge_text true (object ∷ objects) = object
edge_text false (object ∷ objects) = array_text (object ∷ objects)

-- what stands for a column in a row, by the rows of the nodes of a list
abbrev pub column_text : (List ℕ → List (List ℕ)) → ℕ → Column → List ℕ
column_text rows_of place (columns.Own texts) = get_or texts.items place []
column_text rows_of place (columns.Edge key single lists) = enclosed key (edge_text single (objects_of (rows_of (get_or lists.items place [])))) []

-- the row of a place, where so many edges more may be followed, and this is the path to it, itself on it
unfoldable pub row_at : List Column → ℕ → List ℕ → ℕ → List ℕ
row_at fetched zero path place = joined (map (column_text (λ nodes. []) place) fetched)
row_at fetched (suc left) path place = joined (map (column_text (map (λ n. if is_on path n then [] else row_at fetched left (path ++ n ∷ []) n)) place) fetched)

-- the row of a node to which an edge leads: nothing where it is on the path
abbrev pub child_at : List Column → ℕ → List ℕ → ℕ → List ℕ
child_at fetched left path node = if is_on path node then [] else row_at fetched left (path ++ node ∷ []) node

-- its object, or nothing
abbrev pub object_at : List Column → ℕ → List ℕ → ℕ → List ℕ
object_at fetched left path node = enclosed (codes "{") (child_at fetched left path node) (codes "}")

-- the rows of the nodes of a list, where so many edges may be followed with the one that leads to them
abbrev pub rows_behind : List Column → ℕ → List ℕ → List ℕ → List (List ℕ)
rows_behind fetched zero path nodes = []
rows_behind fetched (suc left) path nodes = map (child_at fetched left path) nodes

-- nothing is shown of a node, where no more than so many edges more may be followed, at the end of whatever path has these nodes on it
abbrev pub IsDry : List Column → List ℕ → ℕ → ℕ → Type 0
IsDry fetched path most node = (left : ℕ) → left ≤ most → (longer : List ℕ) → ((n : ℕ) → is_on path n ≡ true → is_on longer n ≡ true) → row_at fetched left longer node ≡ []
