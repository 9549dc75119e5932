-- The array of the flat objects of a list's nodes.
use Rattle.std.proofs.Common.{◌≡◌, ℕ, ◌+◌, ◌<◌, ◌≤◌, List, [], ◌∷◌, ◌++◌, map, flat_map, length, ap, subst, arith, append-nil}
use Rattle.std.proofs.lemmas.List.Sums.{sum_by-cons}
use Rattle.std.specs.Ordering.{nat_cmp}
use Rattle.dg_values.specs.Ascending.{ascending}
use Rattle.dg_tree.specs.declared.tree.Tree.TheVariants as trees
use Rattle.dg_tree.specs.Texts.{array_text, tree_text}
use Rattle.dg_level.specs.Rows.{Written, total}
use Rattle.dg_level.specs.Flats.{weight_in}
use Rattle.dg_level.specs.FlatLevels.{FlatsOf, weight_of}
use Rattle.dg_level.proofs.RowLaws.{array_of_trees}
use Rattle.dg_level.proofs.FlatCounts.{level_weight}
use Rattle.dg_level.proofs.FlatTexts.{weight_for_each}

module _ (flats : FlatsOf) (list : List ℕ) where
  -- the text of the array
  pub array_is : tree_text (trees.Array (map trees.Node (flat_map flats list))) ≡ array_text (map tree_text (map trees.Node (flat_map flats list)))
  array_is = array_of_trees (map trees.Node (flat_map flats list))

  -- what the nodes of the list show, each once, takes no more than the array
  level_within : weight_of flats (ascending nat_cmp list) ≤ weight_in (flat_map flats list)
  level_within =
      omega (
        arith,
        level_weight flats (λ (l : List ℕ). l) (list ∷ []),
        ap (λ l. weight_of flats (ascending nat_cmp l)) (append-nil list),
        sum_by-cons (λ (l : List ℕ). weight_in (flat_map flats l)) list [],
      )

  -- so what is too heavy for an answer is too large for it
  pub weight_passes : 16777216 < weight_of flats (ascending nat_cmp list) → 16777216 < length (tree_text (trees.Array (map trees.Node (flat_map flats list))))
  weight_passes above = omega (arith, above, level_within, weight_for_each (flat_map flats list), ap length array_is)

  -- and so for the array while it is written
  pub array_passes : (w : Written) → w ≡ record { rows = []; begun = []; limit = 16777216 }
      → w.limit < total w.rows + length (w.begun ++ array_text (map tree_text (map trees.Node (flat_map flats list)))) → 16777216 < length (tree_text (trees.Array (map trees.Node (flat_map flats list))))
  array_passes w empty above =
      let it = subst (λ (v : Written). v.limit < total v.rows + length (v.begun ++ array_text (map tree_text (map trees.Node (flat_map flats list))))) empty above in
      omega (arith, it, ap length array_is)
