-- The text of what a block shows.
use Rattle.std.proofs.Common.{◌≡◌, ℕ, ◌+◌, ◌<◌, true, false, List, [], ◌++◌, map, length, codes, sym, ap, ◌∙◌, subst, arith, length-append, append_assoc}
use Rattle.std.specs.Ordering.{nat_cmp}
use Rattle.dg_values.specs.Ascending.{has, ascending}
use Rattle.dg_sets.proofs.MadeOrders.{nat_order}
use Rattle.dg_sets.proofs.Sets.{from_each}
use Rattle.dg_graph.proofs.Passing.{ascending_has}
use Rattle.dg_tree.specs.declared.tree.Tree.{Tree}
use Rattle.dg_tree.specs.declared.tree.Tree.TheVariants as trees
use Rattle.dg_tree.specs.declared.tree.Field.{Field}
use Rattle.dg_tree.specs.Texts.{array_text, key_text, tree_text, field_text, with_commas, answer_text}
use Rattle.dg_level.specs.Columns.{number_object}
use Rattle.dg_level.specs.Rows.{Written, total, row_text, objects_of, AreOfLevel}
use Rattle.dg_level.specs.Shown.{under, list_shown}
use Rattle.dg_level.specs.Parts.{parts_text}
use Rattle.dg_level.proofs.PartLaws.{parts_all}
use Rattle.dg_level.proofs.RowLaws.{text_of, array_of_trees, array_within, once}
use Rattle.dg_level.proofs.ShownLaws.{list_texts}

-- ---- the array of a list

-- each node of a list is one of its level
pub all_there : (list : List ℕ) → AreOfLevel (ascending nat_cmp list) list
all_there list = from_each nat_cmp nat_order (λ n. has nat_cmp (ascending nat_cmp list) n ≡ true) list (λ n there. ascending_has nat_cmp nat_order list n ∙ there)

-- the row of a node
abbrev pub row_at : (ℕ → List Field) → ℕ → List ℕ
row_at fields n = row_text (fields n)

module _ (counts : List (List ℕ)) (fields : ℕ → List Field) (nodes : List ℕ) where
  -- the objects in front
  abbrev pub front_of : List (List ℕ)
  front_of = map (number_object (length nodes)) (map key_text counts)

  -- the text of the array of a list
  pub array_is : tree_text (trees.Array (list_shown counts fields nodes)) ≡ array_text (front_of ++ objects_of (map (row_at fields) nodes))
  array_is = array_of_trees (list_shown counts fields nodes) ∙ ap array_text (list_texts counts fields nodes)

  module _ (limit : ℕ) where
    -- what is too large for the rows of the level, each once, is too large for the array
    pub rows_pass : limit < total (map (row_at fields) (ascending nat_cmp nodes)) → limit < length (tree_text (trees.Array (list_shown counts fields nodes)))
    rows_pass above = omega (arith, above, once (row_at fields) nodes, array_within front_of (map (row_at fields) nodes), ap length array_is)

    -- and so for the array while it is written
    pub array_passes : (w : Written) (front : List (List ℕ)) → w ≡ record { rows = []; begun = []; limit = limit } → front ≡ front_of
        → w.limit < total w.rows + length (w.begun ++ array_text (front ++ objects_of (map (row_at fields) nodes))) → limit < length (tree_text (trees.Array (list_shown counts fields nodes)))
    array_passes w front empty is above =
        let it = subst (λ (v : Written). v.limit < total v.rows + length (v.begun ++ array_text (front ++ objects_of (map (row_at fields) nodes)))) empty above in
        omega (arith, it, ap (λ f. length (array_text (f ++ objects_of (map (row_at fields) nodes)))) is, ap length array_is)

-- ---- a tree under a name

module _ (name : List ℕ) (tree : Tree) (out : List ℕ) where
  -- the key, and the tree
  pub named : (out ++ key_text name) ++ tree_text tree ≡ out ++ field_text (under name tree)
  named = append_assoc out (key_text name) (tree_text tree) ∙ ap (λ l. out ++ l) (sym (text_of (under name tree)))

  -- what is too large with the key is too large as a whole
  pub key_passes : (limit : ℕ) → limit < length (out ++ key_text name) → limit < length (out ++ field_text (under name tree))
  key_passes limit above = omega (arith, above, length-append (out ++ key_text name) (tree_text tree), ap length named)

  -- and what is too large for the tree
  pub tree_passes : (limit : ℕ) → limit < length (tree_text tree) → limit < length (out ++ field_text (under name tree))
  tree_passes limit above = omega (arith, above, length-append (out ++ key_text name) (tree_text tree), ap length named)

-- ---- the whole

module _ (fields : List Field) (begun written : List ℕ) (beginning : begun ≡ codes "{\"data\":{") (inside : written ≡ begun ++ parts_text false (map field_text fields)) where
  -- what stands between the first marks and the last is the answer
  pub answered : written ++ codes "}}" ≡ answer_text fields
  answered =
      ap (λ o. o ++ codes "}}") (inside ∙ ap (λ o. o ++ parts_text false (map field_text fields)) beginning ∙ ap (λ l. codes "{\"data\":{" ++ l) (parts_all (map field_text fields)))
      ∙ ap (λ l. codes "{\"data\":{" ++ l) (sym (append_assoc (with_commas (map field_text fields)) (codes "}") (codes "}")))

  -- what is too large before the last mark
  pub answer_passes : (limit : ℕ) → limit < length written → limit < length (answer_text fields)
  answer_passes limit above = omega (arith, above, length-append written (codes "}}"), ap length answered)
