-- The texts of rows, and what the rows of a level are at most together.
use Rattle.std.proofs.Common.{◌≡◌, ℕ, ◌+◌, ◌<◌, ◌≤◌, List, [], ◌∷◌, ◌++◌, map, flat_map, fold, length, codes, refl, sym, ap, ◌∙◌, arith, length-append, append_assoc}
use Rattle.std.specs.Prelude.{sum_by}
use Rattle.std.proofs.lemmas.List.{map-append}
use Rattle.std.proofs.lemmas.List.Concat.{flat_map-append}
use Rattle.std.proofs.lemmas.List.Sums.{sum_by-append, sum_by-cons}
use Rattle.std.specs.declared.cmp.Ordering.{Ordering}
use Rattle.std.specs.declared.cmp.Ordering.TheVariants.{Less, Equal, Greater}
use Rattle.std.specs.Ordering.{nat_cmp}
use Rattle.json.specs.Print.{quoted}
use Rattle.dg_values.specs.Ascending.{ascending, placed, with_one}
use Rattle.dg_tree.specs.declared.tree.Tree.{Tree, Tree-F, fold-roll-Tree}
use Rattle.dg_tree.specs.declared.tree.Tree.TheVariants as trees
use Rattle.dg_tree.specs.declared.tree.Tree.TheFolds.{fold_out-Field}
use Rattle.dg_tree.specs.declared.tree.Field.{Field}
use Rattle.dg_tree.specs.Texts.{with_commas, array_text, key_text, text_of_tree, text_of_field, tree_text, field_text}
use Rattle.dg_level.specs.Rows.{total, row_text, not_empty, braced, objects_of, shown_array, array_of, with_fields}

-- ---- the bytes of texts together

pub total_first : (text : List ℕ) (texts : List (List ℕ)) → total (text ∷ texts) ≡ length text + total texts
total_first text texts = sum_by-cons length text texts

pub total_joined : (texts more : List (List ℕ)) → total (texts ++ more) ≡ total texts + total more
total_joined texts more = sum_by-append length texts more

-- ---- the texts of fields

-- the text of a field has its key and its tree
pub text_of : (field : Field) → field_text field ≡ key_text field.key ++ tree_text field.tree
text_of field = fold_out-Field (List ℕ) (List ℕ) text_of_tree text_of_field field

-- it is longer than the text of its tree
pub longer_field : (field : Field) → length (tree_text field.tree) < length (field_text field)
longer_field field =
    omega (arith, ap length (text_of field), length-append (key_text field.key) (tree_text field.tree), length-append (quoted field.key) (codes ":"))

-- fields behind each other are as long as each of them together
pub parts_within : (parts : List (List ℕ)) → total parts ≤ length (with_commas parts)
parts_within [] = omega arith
parts_within (part ∷ parts) = omega (arith, total_first part parts, length-append part (flat_map (λ part. codes "," ++ part) parts), behind parts)
  where
    behind : (parts : List (List ℕ)) → total parts ≤ length (flat_map (λ part. codes "," ++ part) parts)
    behind [] = omega arith
    behind (part ∷ parts) = omega (arith, total_first part parts, length-append (codes "," ++ part) (flat_map (λ part. codes "," ++ part) parts), length-append (codes ",") part, behind parts)

-- a row is at least as long as its fields together
pub fields_within : (fields : List Field) → total (map field_text fields) ≤ length (row_text fields)
fields_within fields = parts_within (map field_text fields)

-- a row is empty exactly where no field is shown
pub row_empty : (fields : List Field) → row_text fields ≡ [] → fields ≡ []
row_empty [] e = refl
row_empty (field ∷ fields) e = absurd (omega (arith, ap length e, fields_within (field ∷ fields), total_first (field_text field) (map field_text fields), longer_field field))

not_empty_one : (text : List ℕ) → 0 < length text → not_empty (text ∷ []) ≡ text ∷ []
not_empty_one [] above = absurd (omega (arith, above))
not_empty_one (byte ∷ text) above = refl

pub not_empty_first : (text : List ℕ) (texts : List (List ℕ)) → 0 < length text → not_empty (text ∷ texts) ≡ text ∷ not_empty texts
not_empty_first [] texts above = absurd (omega (arith, above))
not_empty_first (byte ∷ text) texts above = refl

row_shown : (field : Field) (fields : List Field) → 0 < length (row_text (field ∷ fields))
row_shown field fields = omega (arith, fields_within (field ∷ fields), total_first (field_text field) (map field_text fields), longer_field field)

-- a row with fields more is that of all the fields
pub fields_more : (fields more : List Field) → with_fields (row_text fields) (map field_text more) ≡ row_text (fields ++ more)
fields_more [] more = refl
fields_more (field ∷ fields) more =
    ap (λ texts. with_commas (texts ++ map field_text more)) (not_empty_one (row_text (field ∷ fields)) (row_shown field fields))
    ∙ append_assoc (field_text field) _ _
    ∙ ap (λ text. field_text field ++ text) (sym (flat_map-append (λ text. codes "," ++ text) (map field_text fields) (map field_text more)) ∙ ap (flat_map (λ text. codes "," ++ text)) (sym (map-append field_text fields more)))

-- ---- objects

-- the object of a row that shows something is the text of a node of its fields
pub node_text : (fields : List Field) → tree_text (trees.Node fields) ≡ braced (row_text fields)
node_text fields = ap tree_text (sym (trees.rolls-Node fields)) ∙ fold-roll-Tree (List ℕ) (List ℕ) text_of_tree text_of_field (Tree-F.Node fields)

-- the text of an array
pub array_of_trees : (items : List Tree) → tree_text (trees.Array items) ≡ array_text (map tree_text items)
array_of_trees items = ap tree_text (sym (trees.rolls-Array items)) ∙ fold-roll-Tree (List ℕ) (List ℕ) text_of_tree text_of_field (Tree-F.Array items)

pub object_first : (field : Field) (fields : List Field) (rows : List (List ℕ)) → objects_of (row_text (field ∷ fields) ∷ rows) ≡ tree_text (trees.Node (field ∷ fields)) ∷ objects_of rows
object_first field fields rows =
    ap (map braced) (not_empty_first (row_text (field ∷ fields)) rows (row_shown field fields)) ∙ ap (λ text. text ∷ objects_of rows) (sym (node_text (field ∷ fields)))

pub not_empty_joined : (texts more : List (List ℕ)) → not_empty (texts ++ more) ≡ not_empty texts ++ not_empty more
not_empty_joined [] more = refl
not_empty_joined ([] ∷ texts) more = not_empty_joined texts more
not_empty_joined ((byte ∷ text) ∷ texts) more = ap (λ l. (byte ∷ text) ∷ l) (not_empty_joined texts more)

pub objects_joined : (rows more : List (List ℕ)) → objects_of (rows ++ more) ≡ objects_of rows ++ objects_of more
objects_joined rows more = ap (map braced) (not_empty_joined rows more) ∙ map-append braced (not_empty rows) (not_empty more)

length_braced : (row : List ℕ) → length (braced row) ≡ 2 + length row
length_braced row = omega (arith, length-append (codes "{") (row ++ codes "}"), length-append row (codes "}"))

-- objects are longer than their rows
pub rows_within : (rows : List (List ℕ)) → total rows ≤ total (objects_of rows)
rows_within [] = omega arith
rows_within ([] ∷ rows) = omega (arith, total_first [] rows, rows_within rows)
rows_within ((byte ∷ row) ∷ rows) = omega (arith, total_first (byte ∷ row) rows, total_first (braced (byte ∷ row)) (objects_of rows), length_braced (byte ∷ row), rows_within rows)

-- an array is longer than what stands in it
pub items_within : (items : List (List ℕ)) → total items + 2 ≤ length (array_text items)
items_within items = omega (arith, length-append (codes "[") (with_commas items ++ codes "]"), length-append (with_commas items) (codes "]"), parts_within items)

-- an array is longer than its rows together
pub array_within : (front rows : List (List ℕ)) → total rows ≤ length (array_text (front ++ objects_of rows))
array_within front rows = omega (arith, items_within (front ++ objects_of rows), total_joined front (objects_of rows), rows_within rows)

-- so where it is left out too
pub shown_within : (front rows : List (List ℕ)) → total rows ≤ total (array_of front rows)
shown_within front rows = omega (arith, total_joined front (objects_of rows), rows_within rows, shown (front ++ objects_of rows))
  where
    shown : (items : List (List ℕ)) → total items ≤ total (shown_array items)
    shown [] = omega arith
    shown (item ∷ items) = omega (arith, items_within (item ∷ items), total_first (array_text (item ∷ items)) [])

pub length_flat : (texts : List (List ℕ)) → length (flat_map (λ text. text) texts) ≡ total texts
length_flat [] = refl
length_flat (text ∷ texts) = omega (arith, length-append text (flat_map (λ text. text) texts), length_flat texts, total_first text texts)

-- ---- a row written field by field

-- a tree behind its key is a field more
pub field_more : (fields : List Field) (key : List ℕ) (tree : Tree) → with_fields (row_text fields) ((key_text key ++ tree_text tree) ∷ []) ≡ row_text (fields ++ record { key = key; tree = tree } ∷ [])
field_more fields key tree =
    let field : Field = record { key = key; tree = tree } in
    ap (λ text. with_fields (row_text fields) (text ∷ [])) (sym (text_of field)) ∙ fields_more fields (field ∷ [])

-- an array in which something stands is the tree of its field
pub array_in_field : (key : List ℕ) (item : Tree) (items : List Tree) → map (λ array. key_text key ++ array) (shown_array (map tree_text (item ∷ items))) ≡ field_text (record { key = key; tree = trees.Array (item ∷ items) }) ∷ []
array_in_field key item items =
    let field : Field = record { key = key; tree = trees.Array (item ∷ items) } in
    ap (λ text. text ∷ []) (ap (λ array. key_text key ++ array) (sym (array_of_trees (item ∷ items))) ∙ sym (text_of field))

-- ---- a level, each node once

module _ (f : ℕ → List ℕ) where
  one_more : (nodes : List ℕ) (n : ℕ) → total (map f (with_one nat_cmp nodes n)) ≤ total (map f nodes) + length (f n)
  one_more [] n = omega (arith, total_first (f n) [])
  one_more (m ∷ nodes) n = by (nat_cmp n m) (one_more nodes n)
    where
      by : (v : Ordering) → total (map f (with_one nat_cmp nodes n)) ≤ total (map f nodes) + length (f n)
          → total (map f (placed v n m nodes (with_one nat_cmp nodes n))) ≤ total (map f (m ∷ nodes)) + length (f n)
      by Less rest = omega (arith, total_first (f n) (map f (m ∷ nodes)))
      by Equal rest = omega arith
      by Greater rest = omega (arith, rest, total_first (f m) (map f (with_one nat_cmp nodes n)), total_first (f m) (map f nodes))

  more : (base nodes : List ℕ) → total (map f (fold (with_one nat_cmp) base nodes)) ≤ total (map f base) + total (map f nodes)
  more base [] = omega arith
  more base (n ∷ nodes) = omega (arith, more (with_one nat_cmp base n) nodes, one_more base n, total_first (f n) (map f nodes))

  -- each node once, or as often as it is there
  pub once : (nodes : List ℕ) → total (map f (ascending nat_cmp nodes)) ≤ total (map f nodes)
  once nodes = omega (arith, more [] nodes)

  module _ {X : Type 0} (list_of : X → List ℕ) (holds : X → List ℕ) (each : (x : X) → total (map f (list_of x)) ≤ length (holds x)) where
    -- the nodes of all lists, as often as they are there, in the texts that hold the lists
    pub all_within : (xs : List X) → total (map f (flat_map list_of xs)) ≤ total (map holds xs)
    all_within [] = omega arith
    all_within (x ∷ xs) =
        omega (
          arith,
          ap total (map-append f (list_of x) (flat_map list_of xs)),
          total_joined (map f (list_of x)) (map f (flat_map list_of xs)),
          each x,
          all_within xs,
          total_first (holds x) (map holds xs),
        )

    -- a level has no more bytes than the texts that hold the lists which it was gathered from
    pub level_within : (xs : List X) → total (map f (ascending nat_cmp (flat_map list_of xs))) ≤ total (map holds xs)
    level_within xs = omega (arith, once (flat_map list_of xs), all_within xs)

  -- so for the arrays of these lists, with objects in front
  pub arrays_within : (front : List ℕ → List (List ℕ)) (lists : List (List ℕ))
      → total (map f (ascending nat_cmp (flat_map (λ list. list) lists))) ≤ total (map (λ list. flat_map (λ text. text) (array_of (front list) (map f list))) lists)
  arrays_within front lists =
      level_within (λ list. list) (λ list. flat_map (λ text. text) (array_of (front list) (map f list))) (λ list. omega (arith, shown_within (front list) (map f list), length_flat (array_of (front list) (map f list)))) lists

-- ---- a row, column by column

-- a field of a row is in it
pub field_within : (before : List Field) (field : Field) (after : List Field) → length (field_text field) ≤ length (row_text (before ++ field ∷ after))
field_within before field after =
    omega (
      arith,
      fields_within (before ++ field ∷ after),
      ap total (map-append field_text before (field ∷ after)),
      total_joined (map field_text before) (map field_text (field ∷ after)),
      total_first (field_text field) (map field_text after),
    )

-- the field of an array has all its rows
pub rows_in_field : (key : List ℕ) (items : List Tree) (front rows : List (List ℕ)) → map tree_text items ≡ front ++ objects_of rows → total rows ≤ length (field_text (record { key = key; tree = trees.Array items }))
rows_in_field key items front rows is =
    let field : Field = record { key = key; tree = trees.Array items } in
    omega (arith, longer_field field, ap length (array_of_trees items), ap (λ texts. length (array_text texts)) is, array_within front rows)

module _ {X : Type 0} (shown : X → ℕ → List ℕ) where
  none_shown : (xs : List X) → sum_by (λ x. total (map (shown x) [])) xs ≡ 0
  none_shown [] = refl
  none_shown (x ∷ xs) = omega (arith, sum_by-cons (λ x. total (map (shown x) [])) x xs, none_shown xs)

  node_first : (node : ℕ) (nodes : List ℕ) (xs : List X) → sum_by (λ x. total (map (shown x) (node ∷ nodes))) xs ≡ total (map (λ x. shown x node) xs) + sum_by (λ x. total (map (shown x) nodes)) xs
  node_first node nodes [] = refl
  node_first node nodes (x ∷ xs) =
      omega (
        arith,
        sum_by-cons (λ x. total (map (shown x) (node ∷ nodes))) x xs,
        sum_by-cons (λ x. total (map (shown x) nodes)) x xs,
        total_first (shown x node) (map (shown x) nodes),
        total_first (shown x node) (map (λ x. shown x node) xs),
        node_first node nodes xs,
      )

  -- columns together have no more bytes than the rows that hold them
  pub columns_within : (xs : List X) (row : ℕ → List ℕ) (nodes : List ℕ) → ((node : ℕ) → total (map (λ x. shown x node) xs) ≤ length (row node)) → sum_by (λ x. total (map (shown x) nodes)) xs ≤ total (map row nodes)
  columns_within xs row [] each = omega (arith, none_shown xs)
  columns_within xs row (node ∷ nodes) each = omega (arith, node_first node nodes xs, each node, columns_within xs row nodes each, total_first (row node) (map row nodes))
