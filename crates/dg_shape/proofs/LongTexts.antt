-- The text of an array of nodes has two bytes a node or more.
use Rattle.std.proofs.Common.{◌≡◌, ℕ, ◌*◌, ◌<◌, ◌≤◌, List, [], ◌∷◌, ◌++◌, length, codes, flat_map, sym, ap, ◌∙◌, length-append, arith}
use Rattle.std.specs.Prelude.{map}
use Rattle.dg_tree.specs.declared.tree.Tree.{Tree-F, fold-roll-Tree}
use Rattle.dg_tree.specs.declared.tree.Tree.TheVariants as trees
use Rattle.dg_tree.specs.declared.tree.Field.{Field}
use Rattle.dg_tree.specs.Texts.{with_commas, array_text, object_text, text_of_tree, text_of_field, tree_text, field_text}

node_is : (o : List Field) → tree_text (trees.Node o) ≡ object_text (map field_text o)
node_is o = ap tree_text (sym (trees.rolls-Node o)) ∙ fold-roll-Tree (List ℕ) (List ℕ) text_of_tree text_of_field (Tree-F.Node o)

node_long : (o : List Field) → 2 ≤ length (tree_text (trees.Node o))
node_long o = omega (arith, ap length (node_is o), length-append (with_commas (map field_text o)) (codes "}"))

more_long : (os : List (List Field)) → 2 * length os ≤ length (flat_map (λ t. codes "," ++ t) (map tree_text (map trees.Node os)))
more_long [] = omega arith
more_long (o ∷ os) =
    omega (arith, more_long os, node_long o, length-append (codes "," ++ tree_text (trees.Node o)) (flat_map (λ t. codes "," ++ t) (map tree_text (map trees.Node os))))

all_long : (os : List (List Field)) → 2 * length os ≤ length (with_commas (map tree_text (map trees.Node os)))
all_long [] = omega arith
all_long (o ∷ os) =
    omega (arith, more_long os, node_long o, length-append (tree_text (trees.Node o)) (flat_map (λ t. codes "," ++ t) (map tree_text (map trees.Node os))))

pub array_long : (os : List (List Field)) → 8388608 < length os → 16777216 < length (array_text (map tree_text (map trees.Node os)))
array_long os many = omega (arith, many, all_long os, length-append (with_commas (map tree_text (map trees.Node os))) (codes "]"))
