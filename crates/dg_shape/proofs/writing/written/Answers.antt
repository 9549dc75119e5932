use Rattle.std.proofs.Common.{◌≡◌, ℕ, List, [], ◌∷◌, take, ◌++◌, ◌+◌, codes, drop, sym, ap, ◌∙◌, rules, arith}
use Rattle.std.specs.Prelude.{map}
use Rattle.std.proofs.lemmas.List.{drop_more, map_more}
use Rattle.dg_tree.specs.declared.tree.Field.{Field}
use Rattle.dg_tree.specs.declared.tree.Tree.TheVariants as trees
use Rattle.dg_tree.specs.Texts.{tree_text}
use Rattle.dg_tree.proofs.Commas.{comma_passes, text_passes, goes_on}
use Rattle.dg_shape.proofs.writing.written.Goals as goal

abbrev node_text : List Field → List ℕ
node_text o = tree_text (trees.Node o)

pub returns-in_err-push_comma-clause-too_large : goal.returns-in_err-push_comma-clause-too_large
returns-in_err-push_comma-clause-too_large c e =
    let l = c.loop-place in
    let xs = c.args.objects.now in
    let x = c.index-objects-place.result in
    let here : drop l.place xs ≡ x ∷ drop (l.place + 1) xs = drop_more xs l.place x (omega arith) ∙ ap (λ y. y ∷ drop (l.place + 1) xs) (sym c.index-objects-place.is) in
    comma_passes node_text l.place xs x l.answer (codes "]") _ here l.invariant.1 16777216 (c.push_comma.ensures.too_large (search rules))

pub returns-in_err-tree-clause-too_large : goal.returns-in_err-tree-clause-too_large
returns-in_err-tree-clause-too_large c e =
    let l = c.loop-place in
    let xs = c.args.objects.now in
    let x = c.index-objects-place.result in
    let here : drop l.place xs ≡ x ∷ drop (l.place + 1) xs = drop_more xs l.place x (omega arith) ∙ ap (λ y. y ∷ drop (l.place + 1) xs) (sym c.index-objects-place.is) in
    let above = c.tree.ensures.too_large (search rules) in
    text_passes node_text l.place xs x l.answer (codes "]") _ here l.invariant.1 16777216 c.push_comma.new.answer c.in_ok-push_comma.ensures.ok (rw (sym c.in_ok-node.ensures) above)

pub loop-place-preserved : goal.loop-place-preserved
loop-place-preserved c =
    let l = c.loop-place in
    let xs = c.args.objects.now in
    let x = c.index-objects-place.result in
    let here : drop l.place xs ≡ x ∷ drop (l.place + 1) xs = drop_more xs l.place x (omega arith) ∙ ap (λ y. y ∷ drop (l.place + 1) xs) (sym c.index-objects-place.is) in (
      c.in_ok-add.ensures
          ∙ ((λ j. l.invariant.0 j ++ c.in_ok-node.node ∷ [])
          ∙ ((λ j. map trees.Node (take l.place xs) ++ c.in_ok-node.ensures j ∷ [])
          ∙ ((λ j. map trees.Node (take l.place xs) ++ trees.Node (c.index-objects-place.is j) ∷ [])
          ∙ sym (map_more trees.Node xs l.place x c.loop-place-test.true)))),
      goes_on node_text l.place xs x l.answer (codes "]") _ here l.invariant.1 c.push_comma.new.answer c.tree.new.self c.in_ok-push_comma.ensures.ok (c.in_ok-tree.ensures.ok ∙ ap (λ t. c.push_comma.new.answer ++ tree_text t) c.in_ok-node.ensures),
    )
