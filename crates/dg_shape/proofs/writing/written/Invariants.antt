use Rattle.std.proofs.Common.{◌≡◌, ◌++◌, take, codes}
use Rattle.std.specs.Prelude.{map}
use Rattle.dg_tree.specs.declared.tree.Tree.TheVariants as trees
use Rattle.dg_tree.specs.Texts.{array_text, tree_text}
use Rattle.dg_tree.proofs.Commas.{texts_from}
use Rattle.dg_shape.proofs.writing.written.Given as goal

-- what is written and what is left are the whole
abbrev pub invariant-loop-place : goal.invariant-loop-place
invariant-loop-place l =
    (l.out.items ≡ map trees.Node (take l.place l.objects))
    × (l.answer ++ (texts_from (λ o. tree_text (trees.Node o)) l.place l.objects ++ codes "]") ≡ array_text (map (λ o. tree_text (trees.Node o)) l.objects))
