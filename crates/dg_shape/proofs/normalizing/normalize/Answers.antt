use Rattle.std.proofs.Common.{◌≡◌, ◌≤◌, ◌<◌, ℕ, List, [], ◌∷◌, length, refl, ap, subst, ◌∙◌, arith}
use Rattle.std.specs.Prelude.{map, IfOk}
use Rattle.dg_tree.specs.declared.tree.Field.{Field}
use Rattle.dg_tree.specs.declared.tree.Tree.TheVariants as trees
use Rattle.dg_tree.specs.declared.tree.Tree.{Tree}
use Rattle.dg_tree.specs.Texts.{array_text, tree_text}
use Rattle.dg_shape.specs.Normalize.{flat_trees, to_flatten, normalized}
use Rattle.dg_shape.proofs.LongTexts.{array_long}
use Rattle.dg_shape.proofs.normalizing.normalize.Goals as goal

texts_of_nodes : (objects : List (List Field)) → map (λ o. tree_text (trees.Node o)) objects ≡ map tree_text (map trees.Node objects)
texts_of_nodes [] = refl
texts_of_nodes (o ∷ objects) = ap (λ l. tree_text (trees.Node o) ∷ l) (texts_of_nodes objects)

texts_are : (c : goal.After-drop-trees-2) → map (λ o. tree_text (trees.Node o)) c.as_slice.result.now ≡ map tree_text (normalized c.args.fields.now c.args.trees.items)
texts_are c =
    ap (map (λ o. tree_text (trees.Node o))) (c.as_slice.ensures.value ∙ (c.in_ok-objects.ensures ∙ ap (flat_trees (to_flatten c.args.fields.now)) c.as_slice-nodes.ensures.value))
    ∙ texts_of_nodes (flat_trees (to_flatten c.args.fields.now) c.args.trees.items)

pub returns-clause-within : goal.returns-clause-within
returns-clause-within c = subst (λ (ts : List (List ℕ)). IfOk c.written.result (λ v. length (array_text ts) ≤ 16777216)) (texts_are c) c.written.ensures.within

pub returns-clause-too_large : goal.returns-clause-too_large
returns-clause-too_large c e = subst (λ (ts : List (List ℕ)). 16777216 < length (array_text ts)) (texts_are c) (c.written.ensures.too_large e)

pub returns-then-count-gt-MOST-clause-too_large : goal.returns-then-count-gt-MOST-clause-too_large
returns-then-count-gt-MOST-clause-too_large c e =
    let asked = to_flatten c.args.fields.now in
    let most : c.count.result ≤ length (flat_trees asked c.args.trees.items) = subst (λ (ts : List Tree). c.count.result ≤ length (flat_trees asked ts)) c.as_slice-nodes.ensures.value c.count.ensures in
    array_long (flat_trees asked c.args.trees.items) (omega (arith, most, c.if-count-gt-MOST.true))
