-- The row that columns show is that of what their pieces show.
use Rattle.std.proofs.Common.{◌≡◌, ℕ, zero, suc, ◌==◌, Bool, true, false, ◌||◌, not, if◌then◌else◌, List, [], ◌∷◌, ◌++◌, map, flat_map, length, get_or, refl, sym, ap, ◌∙◌, arith, append-nil}
use Rattle.std.proofs.lemmas.Bool.{false≢true}
use Rattle.std.proofs.lemmas.List.{map-append}
use Rattle.std.proofs.lemmas.List.Folds.{list_any-append}
use Rattle.dg_tree.specs.declared.tree.Tree.{Tree}
use Rattle.dg_tree.specs.declared.tree.Tree.TheVariants as trees
use Rattle.dg_tree.specs.declared.tree.Field.{Field}
use Rattle.dg_tree.specs.Texts.{array_text, key_text, tree_text, field_text}
use Rattle.dg_recurse.specs.declared.column.Column.{Column}
use Rattle.dg_recurse.specs.declared.column.Column.TheVariants as columns
use Rattle.dg_recurse.specs.Unfolding.{Piece, own, under, node_of, edge_trees, is_on, off_path, piece_shown, unfolded}
use Rattle.dg_recurse.specs.Rows.{row_text, not_empty, braced, objects_of, joined, enclosed}
use Rattle.dg_recurse.specs.Columns.{IsColumnOf, AreColumnsOf, pieces_at}
use Rattle.dg_recurse.specs.Written.{edge_text, column_text, row_at}
use Rattle.dg_recurse.proofs.RowLaws.{text_of, rows_joined, array_of_trees, object_first}

-- ---- what an edge shows

-- the first of some texts
abbrev first_or : List (List ℕ) → List ℕ
first_or [] = []
first_or (text ∷ texts) = text

-- an edge's text is that of its field, where the objects are the texts of its trees
edge_is : (key name : List ℕ) → key ≡ key_text name → (single : Bool) (rows : List (List ℕ)) (shown : List Tree) → map braced rows ≡ map tree_text shown
    → enclosed key (edge_text single (map braced rows)) [] ≡ row_text (map (under name) (edge_trees single shown))
edge_is key name is true [] [] same = refl
edge_is key name is false [] [] same = refl
edge_is key name is single [] (tree ∷ shown) same = absurd (omega (arith, ap length same))
edge_is key name is single (row ∷ rows) [] same = absurd (omega (arith, ap length same))
edge_is key name is true (row ∷ rows) (tree ∷ shown) same =
    ap (λ text. key ++ text) (append-nil (braced row))
    ∙ (λ i. is i ++ first_or (same i))
    ∙ sym (append-nil (field_text (under name tree)) ∙ text_of (under name tree))
edge_is key name is false (row ∷ rows) (tree ∷ shown) same =
    ap (λ text. key ++ text) (append-nil (array_text (map braced (row ∷ rows))))
    ∙ (λ i. is i ++ array_text (same i))
    ∙ sym (
    append-nil (field_text (under name (trees.Array (tree ∷ shown))))
    ∙ text_of (under name (trees.Array (tree ∷ shown)))
    ∙ ap (λ text. key_text name ++ text) (array_of_trees (tree ∷ shown))
    )

-- ---- what a column shows

module _ (rows_of : List ℕ → List (List ℕ)) (trees_of : List ℕ → List Tree) (agree : (nodes : List ℕ) → objects_of (rows_of nodes) ≡ map tree_text (trees_of nodes)) where
  column_is : (place : ℕ) (column : Column) (piece : ℕ → Piece) → IsColumnOf column piece → column_text rows_of place column ≡ row_text (piece_shown trees_of (piece place))
  column_is place (columns.Own texts) piece is = by (is place)
    where
      by : (fields : List Field) × (piece place ≡ own fields) × (get_or texts.items place [] ≡ row_text fields) → get_or texts.items place [] ≡ row_text (piece_shown trees_of (piece place))
      by (fields, piece_is, text) = text ∙ ap (λ piece. row_text (piece_shown trees_of piece)) (sym piece_is)
  column_is place (columns.Edge key single lists) piece (name, key_is, leads) =
      edge_is key name key_is single (not_empty (rows_of (get_or lists.items place []))) (trees_of (get_or lists.items place [])) (agree (get_or lists.items place []))
      ∙ ap (λ piece. row_text (piece_shown trees_of piece)) (sym (leads place))

  columns_are : (place : ℕ) (fetched : List Column) (pieces : List (ℕ → Piece)) → AreColumnsOf fetched pieces
      → joined (map (column_text rows_of place) fetched) ≡ row_text (flat_map (piece_shown trees_of) (pieces_at pieces place))
  columns_are place fetched pieces are = ap joined (each fetched pieces are) ∙ rows_joined (map (piece_shown trees_of) (pieces_at pieces place)) ∙ ap row_text (flat (pieces_at pieces place))
    where
      each : (fetched : List Column) (pieces : List (ℕ → Piece)) → AreColumnsOf fetched pieces → map (column_text rows_of place) fetched ≡ map row_text (map (piece_shown trees_of) (pieces_at pieces place))
      each [] [] are = refl
      each [] (piece ∷ pieces) are = absurd are
      each (column ∷ fetched) [] are = absurd are
      each (column ∷ fetched) (piece ∷ pieces) are = λ i. column_is place column piece are.0 i ∷ each fetched pieces are.1 i

      flat : (pieces : List Piece) → flat_map (λ fields. fields) (map (piece_shown trees_of) pieces) ≡ flat_map (piece_shown trees_of) pieces
      flat [] = refl
      flat (piece ∷ pieces) = ap (λ l. piece_shown trees_of piece ++ l) (flat pieces)

-- ---- the nodes of a list

-- the object of a row is the text of the node of its fields
object_is : (fields : List Field) (rows : List (List ℕ)) → objects_of (row_text fields ∷ rows) ≡ map tree_text (node_of fields) ++ objects_of rows
object_is [] rows = refl
object_is (field ∷ fields) rows = object_first field fields rows

module _ (path named : List ℕ) (fields_of : ℕ → List Field) (row_of : ℕ → List ℕ) (same : (n : ℕ) → is_on path n ≡ is_on named n) (rows_are : (n : ℕ) → row_of n ≡ row_text (fields_of n)) where
  nodes_are : (nodes : List ℕ) → objects_of (map (λ n. if is_on path n then [] else row_of n) nodes) ≡ map tree_text (flat_map (λ n. node_of (fields_of n)) (off_path false named nodes))
  nodes_are [] = refl
  nodes_are (n ∷ nodes) = by (is_on path n) (is_on named n) (same n) (nodes_are nodes)
    where
      rest : List (List ℕ)
      rest = map (λ n. if is_on path n then [] else row_of n) nodes

      by : (a b : Bool) → a ≡ b → objects_of (map (λ n. if is_on path n then [] else row_of n) nodes) ≡ map tree_text (flat_map (λ n. node_of (fields_of n)) (off_path false named nodes))
          → objects_of ((if a then [] else row_of n) ∷ map (λ n. if is_on path n then [] else row_of n) nodes)
          ≡ map tree_text (flat_map (λ n. node_of (fields_of n)) (if not b then n ∷ off_path false named nodes else off_path false named nodes))
      by true true e later = later
      by true false e later = absurd (false≢true (sym e))
      by false true e later = absurd (false≢true e)
      by false false e later =
          ap (λ text. objects_of (text ∷ map (λ n. if is_on path n then [] else row_of n) nodes)) (rows_are n)
          ∙ object_is (fields_of n) (map (λ n. if is_on path n then [] else row_of n) nodes)
          ∙ ap (λ l. map tree_text (node_of (fields_of n)) ++ l) later
          ∙ sym (map-append tree_text (node_of (fields_of n)) (flat_map (λ n. node_of (fields_of n)) (off_path false named nodes)))

-- a node more on both paths
same_more : (path named : List ℕ) → ((n : ℕ) → is_on path n ≡ is_on named n) → (m n : ℕ) → is_on (path ++ m ∷ []) n ≡ is_on (m ∷ named) n
same_more path named same m n = list_any-append (λ p. p == n) path (m ∷ []) ∙ by (is_on path n) (is_on named n) (m == n) (same n)
  where
    by : (a b t : Bool) → a ≡ b → (a || (t || false)) ≡ (t || b)
    by true b true e = refl
    by true b false e = e
    by false b true e = refl
    by false b false e = e

-- the rows of columns are those of what their pieces show, whatever the order of the path
pub rows_are : (fetched : List Column) (pieces : List (ℕ → Piece)) → AreColumnsOf fetched pieces → (left : ℕ) (path named : List ℕ) → ((n : ℕ) → is_on path n ≡ is_on named n)
    → (node : ℕ) → row_at fetched left path node ≡ row_text (unfolded (pieces_at pieces) false left named node)
unfolding row_at unfolded
rows_are fetched pieces are zero path named same node = columns_are (λ nodes. []) (λ nodes. []) (λ nodes. refl) node fetched pieces are
rows_are fetched pieces are (suc left) path named same node =
    columns_are (map (λ n. if is_on path n then [] else row_at fetched left (path ++ n ∷ []) n))
    (λ nodes. flat_map (λ n. node_of (unfolded (pieces_at pieces) false left (n ∷ named) n)) (off_path false named nodes))
    (
    nodes_are path named (λ n. unfolded (pieces_at pieces) false left (n ∷ named) n) (λ n. row_at fetched left (path ++ n ∷ []) n) same
    (λ n. rows_are fetched pieces are left (path ++ n ∷ []) (n ∷ named) (same_more path named same n) n)
    )
    node
    fetched
    pieces
    are
