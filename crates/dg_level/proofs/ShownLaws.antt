-- The texts of what nodes show under an edge, by the rows of the level below.
use Rattle.std.proofs.Common.{◌≡◌, ℕ, zero, suc, ◌+◌, ◌≤◌, Bool, true, false, List, [], ◌∷◌, ◌++◌, map, flat_map, take, length, refl, sym, ap, ◌∙◌, arith, append-nil, length-append, true≢false}
use Rattle.std.proofs.lemmas.List.{map-append}
use Rattle.std.proofs.lemmas.List.Folds.{flat_map-map}
use Rattle.std.specs.Prelude.{pos, ◌||◌, Some, slice_get, option_map}
use Rattle.std.specs.Fmt.{signed_decimal}
use Rattle.std.specs.Ordering.{nat_cmp, is_eq}
use Rattle.dg_values.specs.Ascending.{ascending, has}
use Rattle.dg_sets.proofs.MadeOrders.{nat_order}
use Rattle.dg_sets.proofs.Sets.{is_one, from_each, has_joined}
use Rattle.dg_funcs.proofs.PassLaws.{or_true}
use Rattle.dg_tree.specs.declared.tree.Tree.{Tree, Tree-F, fold-roll-Tree}
use Rattle.dg_tree.specs.declared.tree.Tree.TheVariants as trees
use Rattle.dg_tree.specs.declared.tree.Field.{Field}
use Rattle.dg_tree.specs.Texts.{key_text, text_of_tree, text_of_field, tree_text, field_text}
use Rattle.dg_level.specs.declared.column.Below.{Below}
use Rattle.dg_level.specs.Rows.{total, row_text, braced, objects_of, shown_array, array_of, AreOfLevel}
use Rattle.dg_level.specs.Shown.{under, node_of, number_under, list_shown, as_array, first_tree, as_single, edge_shown, remaining}
use Rattle.dg_level.specs.Planned.{cut_to}
use Rattle.dg_level.specs.Columns.{FieldsOf, TreesOf, number_object, is_alone, sort_below, IsBelow, bytes_of}
use Rattle.dg_level.proofs.RowLaws.{text_of, total_first, row_empty, node_text, array_of_trees, object_first, shown_within, rows_within, level_within}
use Rattle.dg_level.proofs.ListLaws.{map_twice, map_same, ascending_has}
use Rattle.dg_level.proofs.ShortLaws.{filter_short}

-- trees under a key, behind its text
pub texts_under : (name : List ℕ) (shown : List Tree) → map field_text (map (under name) shown) ≡ map (λ text. key_text name ++ text) (map tree_text shown)
texts_under name shown =
    map_twice field_text (under name) shown
    ∙ map_same (λ tree. field_text (under name tree)) (λ tree. key_text name ++ tree_text tree) (λ tree. text_of (under name tree)) shown
    ∙ sym (map_twice (λ text. key_text name ++ text) tree_text shown)

-- ---- nodes

objects_shown : (rows : List (List Field)) → map tree_text (flat_map node_of rows) ≡ objects_of (map row_text rows)
objects_shown [] = refl
objects_shown ([] ∷ rows) = objects_shown rows
objects_shown ((field ∷ fields) ∷ rows) = ap (λ texts. tree_text (trees.Node (field ∷ fields)) ∷ texts) (objects_shown rows) ∙ sym (object_first field fields (map row_text rows))

-- the nodes that show something have the objects of their rows
nodes_shown : (at : FieldsOf) (list : List ℕ) → map tree_text (flat_map (λ n. node_of (at n)) list) ≡ objects_of (map (λ n. row_text (at n)) list)
nodes_shown at list = ap (map tree_text) (sym (flat_map-map node_of at list)) ∙ objects_shown (map at list) ∙ ap objects_of (map_twice row_text at list)

int_text : (number : ℕ) → tree_text (trees.Int (pos number)) ≡ signed_decimal (pos number)
int_text number = ap tree_text (sym (trees.rolls-Int (pos number))) ∙ fold-roll-Tree (List ℕ) (List ℕ) text_of_tree text_of_field (Tree-F.Int (pos number))

number_text : (number : ℕ) (name : List ℕ) → tree_text (number_under number name) ≡ number_object number (key_text name)
number_text number name =
    node_text (under name (trees.Int (pos number)) ∷ [])
    ∙ ap braced (append-nil (field_text (under name (trees.Int (pos number)))) ∙ (text_of (under name (trees.Int (pos number))) ∙ ap (λ text. key_text name ++ text) (int_text number)))

numbers_shown : (number : ℕ) (names : List (List ℕ)) → map tree_text (map (number_under number) names) ≡ map (number_object number) (map key_text names)
numbers_shown number names =
    map_twice tree_text (number_under number) names
    ∙ map_same (λ name. tree_text (number_under number name)) (λ name. number_object number (key_text name)) (number_text number) names
    ∙ sym (map_twice (number_object number) key_text names)

pub list_texts : (names : List (List ℕ)) (at : FieldsOf) (list : List ℕ)
    → map tree_text (list_shown names at list) ≡ map (number_object (length list)) (map key_text names) ++ objects_of (map (λ n. row_text (at n)) list)
list_texts names at list =
    map-append tree_text (map (number_under (length list)) names) (flat_map (λ n. node_of (at n)) list)
    ∙ λ i. numbers_shown (length list) names i ++ nodes_shown at list i

-- ---- arrays and single nodes

array_texts : (items : List Tree) → map tree_text (as_array items) ≡ shown_array (map tree_text items)
array_texts [] = refl
array_texts (tree ∷ items) = ap (λ text. text ∷ []) (array_of_trees (tree ∷ items))

first_text : (items : List Tree) → map tree_text (first_tree items) ≡ take 1 (map tree_text items)
first_text [] = refl
first_text (tree ∷ items) = refl

module _ (name : List ℕ) (names : List (List ℕ)) (at : FieldsOf) (list : List ℕ) where
  -- a list is an array behind the text of its key
  array_shown : map field_text (map (under name) (as_array (list_shown names at list)))
      ≡ map (λ text. key_text name ++ text) (array_of (map (number_object (length list)) (map key_text names)) (map (λ n. row_text (at n)) list))
  array_shown =
      texts_under name (as_array (list_shown names at list))
      ∙ ap (map (λ text. key_text name ++ text)) (array_texts (list_shown names at list) ∙ ap shown_array (list_texts names at list))

  -- so where a list or the number of nodes is asked for
  pub in_array : (single : Bool) → (single ≡ true → names ≡ [] → ⊥) → map field_text (map (under name) (edge_shown (sort_below single) [] names at list))
      ≡ map (λ text. key_text name ++ text) (array_of (map (number_object (length list)) (map key_text names)) (map (λ n. row_text (at n)) list))
  in_array false some = array_shown
  in_array true some = by names (λ e. some refl e) ∙ array_shown
    where
      by : (ks : List (List ℕ)) → (ks ≡ [] → ⊥) → map field_text (map (under name) (as_single ks (list_shown names at list))) ≡ map field_text (map (under name) (as_array (list_shown names at list)))
      by [] some = absurd (some refl)
      by (k ∷ ks) some = refl

  -- where neither is, the first node that shows something
  pub by_itself : (single : Bool) → single ≡ true → names ≡ [] → map field_text (map (under name) (edge_shown (sort_below single) [] names at list))
      ≡ map (λ text. key_text name ++ text) (take 1 (objects_of (map (λ n. row_text (at n)) list)))
  by_itself false e none = absurd (true≢false (sym e))
  by_itself true e none =
      (λ i. map field_text (map (under name) (as_single (none i) (list_shown (none i) at list))))
      ∙ texts_under name (first_tree (flat_map (λ n. node_of (at n)) list))
      ∙ ap (map (λ text. key_text name ++ text)) (first_text (flat_map (λ n. node_of (at n)) list) ∙ ap (take 1) (nodes_shown at list))

-- ---- the nodes of a list are of the level below

pub at_place : (list : ℕ → List ℕ) (nodes : List ℕ) (place node u : ℕ) → slice_get nodes place ≡ Some node → has nat_cmp (list node) u ≡ true → has nat_cmp (flat_map list nodes) u ≡ true
at_place list [] place node u e h = absurd (cc)
at_place list (n ∷ nodes) zero node u e h =
    let same : n ≡ node = cc in
    has_joined nat_cmp nat_order (list n) (flat_map list nodes) u ∙ or_left (has nat_cmp (list n) u) (has nat_cmp (flat_map list nodes) u) (ap (λ m. has nat_cmp (list m) u) same ∙ h)
  where
    or_left : (a b : Bool) → a ≡ true → (a || b) ≡ true
    or_left true b e = refl
    or_left false b e = absurd (true≢false (sym e))
at_place list (n ∷ nodes) (suc place) node u e h =
    has_joined nat_cmp nat_order (list n) (flat_map list nodes) u ∙ or_true (has nat_cmp (list n) u) (has nat_cmp (flat_map list nodes) u) (at_place list nodes place node u e h)

pub of_node : (list : ℕ → List ℕ) (nodes level : List ℕ) (place node : ℕ) → level ≡ ascending nat_cmp (flat_map list nodes) → slice_get nodes place ≡ Some node → AreOfLevel level (list node)
of_node list nodes level place node is e =
    from_each nat_cmp nat_order (λ u. has nat_cmp level u ≡ true) (list node)
    (λ u h. ap (λ l. has nat_cmp l u) is ∙ (ascending_has (flat_map list nodes) u ∙ at_place list nodes place node u e h))

pub list_is : (list : ℕ → List ℕ) (nodes : List ℕ) (place node : ℕ) → slice_get nodes place ≡ Some node → slice_get (map list nodes) place ≡ Some (list node)
list_is list [] place node e = absurd (cc)
list_is list (n ∷ nodes) zero node e = ap (λ o. option_map list o) e
list_is list (n ∷ nodes) (suc place) node e = list_is list nodes place node e

-- ---- where no node of the level below shows anything

no_text : (text : List ℕ) → length text ≤ 0 → text ≡ []
no_text [] short = refl
no_text (byte ∷ text) short = absurd (omega (arith, short))

bare_node : (at : FieldsOf) (level : List ℕ) (n : ℕ) → has nat_cmp level n ≡ true → total (map (λ m. row_text (at m)) level) ≡ 0 → node_of (at n) ≡ []
bare_node at [] n there none = absurd (true≢false (sym there))
bare_node at (m ∷ level) n there none =
    let first = row_text (at m) in
    let rest = map (λ k. row_text (at k)) level in
    by (is_eq (nat_cmp m n)) refl there (omega (arith, none, total_first first rest)) (λ h. bare_node at level n h (omega (arith, none, total_first first rest)))
  where
    by : (b : Bool) → is_eq (nat_cmp m n) ≡ b → (b || has nat_cmp level n) ≡ true → length (row_text (at m)) ≤ 0 → (has nat_cmp level n ≡ true → node_of (at n) ≡ []) → node_of (at n) ≡ []
    by true e h short later = ap (λ k. node_of (at k)) (sym (is_one nat_cmp nat_order m n e)) ∙ ap node_of (row_empty (at m) (no_text (row_text (at m)) short))
    by false e h short later = later h

bare_nodes : (at : FieldsOf) (level list : List ℕ) → AreOfLevel level list → total (map (λ m. row_text (at m)) level) ≡ 0 → flat_map (λ n. node_of (at n)) list ≡ []
bare_nodes at level [] among none = refl
bare_nodes at level (n ∷ list) among none = λ j. bare_node at level n among.0 none j ++ bare_nodes at level list among.1 none j

no_names_by : (names : List (List ℕ)) → map key_text names ≡ [] → names ≡ []
no_names_by [] e = refl
no_names_by (name ∷ names) e = absurd (omega (arith, ap length e))

bare_edge : (single : Bool) (at : FieldsOf) (list : List ℕ) → flat_map (λ n. node_of (at n)) list ≡ [] → edge_shown (sort_below single) [] [] at list ≡ []
bare_edge true at list none = ap first_tree none
bare_edge false at list none = ap as_array none

-- an edge shows nothing there, unless the number of nodes is asked for
pub none_below : (nodes : List ℕ) (below : Below) (shown : TreesOf) (place node : ℕ) → IsBelow nodes below shown → below.counts ≡ [] → total below.rows.rows ≡ 0 → slice_get nodes place ≡ Some node → shown node ≡ []
none_below nodes below shown place node b counts none at =
    let names : b.names ≡ [] = no_names_by b.names (sym b.counts_are ∙ counts) in
    let bare = bare_nodes b.at below.level (b.list node) (of_node b.list nodes below.level place node b.level_is at) (sym (ap total b.rows_are) ∙ none) in
    b.trees_are node ∙ (λ j. edge_shown (sort_below below.single) [] (names j) b.at (b.list node)) ∙ bare_edge below.single b.at (b.list node) bare

-- ---- the level below has no more bytes than what is shown of it

trees_flat : (shown : List Tree) → length (flat_map tree_text shown) ≡ total (map tree_text shown)
trees_flat [] = refl
trees_flat (tree ∷ shown) = omega (arith, length-append (tree_text tree) (flat_map tree_text shown), trees_flat shown, total_first (tree_text tree) (map tree_text shown))

one_object : (row : List ℕ) → take 1 (objects_of (row ∷ [])) ≡ objects_of (row ∷ [])
one_object [] = refl
one_object (byte ∷ row) = refl

short_objects : (row : ℕ → List ℕ) (list : List ℕ) → length list ≤ 1 → take 1 (objects_of (map row list)) ≡ objects_of (map row list)
short_objects row [] short = refl
short_objects row (n ∷ []) short = one_object (row n)
short_objects row (n ∷ m ∷ list) short = absurd (omega (arith, short))

module _ (names : List (List ℕ)) (at : FieldsOf) (list : List ℕ) where
  abbrev rows : List (List ℕ)
  rows = map (λ n. row_text (at n)) list

  in_items : total rows ≤ length (flat_map tree_text (as_array (list_shown names at list)))
  in_items =
      omega (
        arith,
        trees_flat (as_array (list_shown names at list)),
        ap total (array_texts (list_shown names at list) ∙ ap shown_array (list_texts names at list)),
        shown_within (map (number_object (length list)) (map key_text names)) rows,
      )

  in_first : length list ≤ 1 → total rows ≤ length (flat_map tree_text (first_tree (flat_map (λ n. node_of (at n)) list)))
  in_first short =
      omega (
        arith,
        trees_flat (first_tree (flat_map (λ n. node_of (at n)) list)),
        ap total (first_text (flat_map (λ n. node_of (at n)) list) ∙ (ap (take 1) (nodes_shown at list) ∙ short_objects (λ n. row_text (at n)) list short)),
        rows_within rows,
      )

-- so at one node
pub rows_shown : (single : Bool) (names : List (List ℕ)) (at : FieldsOf) (list : List ℕ) → (single ≡ true → length list ≤ 1)
    → total (map (λ n. row_text (at n)) list) ≤ length (flat_map tree_text (edge_shown (sort_below single) [] names at list))
rows_shown false names at list short = in_items names at list
rows_shown true [] at list short = in_first [] at list (short refl)
rows_shown true (name ∷ names) at list short = in_items (name ∷ names) at list

-- and at all
pub level_shown : (single : Bool) (names : List (List ℕ)) (at : FieldsOf) (list : ℕ → List ℕ) (nodes : List ℕ) → (single ≡ true → (n : ℕ) → length (list n) ≤ 1)
    → total (map (λ n. row_text (at n)) (ascending nat_cmp (flat_map list nodes))) ≤ bytes_of (λ n. edge_shown (sort_below single) [] names at (list n)) nodes
level_shown single names at list nodes short =
    level_within (λ n. row_text (at n)) list (λ (n : ℕ). flat_map tree_text (edge_shown (sort_below single) [] names at (list n))) (λ n. rows_shown single names at (list n) (λ e. short e n)) nodes

-- ---- one node at most

pub cut_short : (single : Bool) (nodes : List ℕ) → single ≡ true → length (cut_to single nodes) ≤ 1
cut_short false nodes e = absurd (true≢false (sym e))
cut_short true [] e = omega arith
cut_short true (n ∷ nodes) e = omega arith

-- also where some are dropped
pub left_short : (cascade single : Bool) (whole : ℕ → Bool) (nodes : List ℕ) → single ≡ true → length (remaining cascade whole (cut_to single nodes)) ≤ 1
left_short true single whole nodes e = omega (arith, filter_short whole (cut_to single nodes), cut_short single nodes e)
left_short false single whole nodes e = cut_short single nodes e

-- ---- where a node is shown by itself, and where it isn't

pub alone_single : (single : Bool) (counts : List (List ℕ)) → is_alone single counts ≡ true → single ≡ true
alone_single single [] e = e
alone_single single (key ∷ counts) e = absurd (true≢false (sym e))

pub no_names : (names : List (List ℕ)) (counts : List (List ℕ)) (single : Bool) → counts ≡ map key_text names → is_alone single counts ≡ true → names ≡ []
no_names [] counts single is e = refl
no_names (name ∷ names) counts single is e = absurd (true≢false (sym (ap (is_alone single) (sym is) ∙ e)))

pub not_alone : (names : List (List ℕ)) (counts : List (List ℕ)) (single : Bool) → counts ≡ map key_text names → is_alone single counts ≡ false → single ≡ true → names ≡ [] → ⊥
not_alone names counts single is e one none = true≢false (sym one ∙ (sym (ap (is_alone single) (is ∙ ap (map key_text) none)) ∙ e))

-- ---- what is held below

pub held_within : (nodes : List ℕ) (below : Below) (shown : TreesOf) → IsBelow nodes below shown → below.rows.begun ≡ [] → total below.rows.rows + length below.rows.begun ≤ bytes_of shown nodes
held_within nodes below shown b begun =
    let row = λ (n : ℕ). row_text (b.at n) in
    let bytes : bytes_of shown nodes ≡ bytes_of (λ n. edge_shown (sort_below below.single) [] b.names b.at (b.list n)) nodes = λ i. bytes_of (λ n. b.trees_are n i) nodes in
    omega (
      arith,
      bytes,
      ap total b.rows_are,
      ap (λ (l : List ℕ). total (map row l)) b.level_is,
      level_shown below.single b.names b.at b.list nodes b.short,
      ap length begun,
    )
