use Rattle.std.proofs.Common.{◌≡◌, ◌<◌, ◌+◌, ◌∷◌, ◌++◌, length, codes, map, drop, sym, ap, ◌∙◌, subst, arith, rules}
use Rattle.std.proofs.lemmas.List.{drop_more}
use Rattle.std.proofs.lemmas.Result.{on_ok_weaker}
use Rattle.dg_tree.specs.Texts.{with_commas, tree_text, field_text}
use Rattle.dg_tree.proofs.Commas.{all_left, comma_passes, goes_on, nothing_left, opened, text_passes}
use Rattle.dg_tree.proofs.text.+push.Goals as goal

pub push_array-loop-place-init : goal.push_array-loop-place-init
push_array-loop-place-init t c = (ap (λ w. c.push.new.out ++ (w ++ codes "]")) (all_left (map tree_text c.args.trees.now)), λ within. within)

pub push_array-returns-in_err-push_comma-clause-too_large : goal.push_array-returns-in_err-push_comma-clause-too_large
push_array-returns-in_err-push_comma-clause-too_large t c = λ e.
    let l = c.loop-place in
    let xs = c.args.trees.now in
    let x = c.index-trees-place.result in
    let here : drop l.place xs ≡ x ∷ drop (l.place + 1) xs = drop_more xs l.place x (omega arith) ∙ ap (λ y. y ∷ drop (l.place + 1) xs) (sym c.index-trees-place.is) in
    let is_whole = l.invariant.0 ∙ opened c.args.out.now c.push.new.out (codes "[") (with_commas (map tree_text xs) ++ codes "]") c.in_ok-push.ensures.ok in
    comma_passes tree_text l.place xs x l.out (codes "]") _ here is_whole c.args.limit (c.push_comma.ensures.too_large (search rules))

pub push_array-returns-in_err-push_tree-clause-too_large : goal.push_array-returns-in_err-push_tree-clause-too_large
push_array-returns-in_err-push_tree-clause-too_large t c = λ e.
    let l = c.loop-place in
    let xs = c.args.trees.now in
    let x = c.index-trees-place.result in
    let here : drop l.place xs ≡ x ∷ drop (l.place + 1) xs = drop_more xs l.place x (omega arith) ∙ ap (λ y. y ∷ drop (l.place + 1) xs) (sym c.index-trees-place.is) in
    let is_whole = l.invariant.0 ∙ opened c.args.out.now c.push.new.out (codes "[") (with_commas (map tree_text xs) ++ codes "]") c.in_ok-push.ensures.ok in
    text_passes tree_text l.place xs x l.out (codes "]") _ here is_whole c.args.limit c.push_comma.new.out c.in_ok-push_comma.ensures.ok (c.push_tree.ensures.too_large (search rules))

pub push_array-loop-place-preserved : goal.push_array-loop-place-preserved
push_array-loop-place-preserved t c =
    let l = c.loop-place in
    let xs = c.args.trees.now in
    let x = c.index-trees-place.result in
    let here : drop l.place xs ≡ x ∷ drop (l.place + 1) xs = drop_more xs l.place x (omega arith) ∙ ap (λ y. y ∷ drop (l.place + 1) xs) (sym c.index-trees-place.is) in (
      goes_on tree_text l.place xs x l.out (codes "]") _ here l.invariant.0 c.push_comma.new.out c.push_tree.new.out c.in_ok-push_comma.ensures.ok c.in_ok-push_tree.ensures.ok,
      λ within. c.push_tree.ensures.within (c.push_comma.ensures.within (l.invariant.1 within)),
    )

pub push_array-returns-clause-ok : goal.push_array-returns-clause-ok
push_array-returns-clause-ok t c =
    let l = c.loop-place in
    let xs = c.args.trees.now in
    let whole = opened c.args.out.now c.push.new.out (codes "[") (with_commas (map tree_text xs) ++ codes "]") c.in_ok-push.ensures.ok in
    on_ok_weaker c.push-2.result (λ e. e ∙ nothing_left tree_text l.place xs l.out (codes "]") _ (omega arith) l.invariant.0 ∙ whole) c.push-2.ensures.ok

pub push_array-returns-clause-too_large : goal.push_array-returns-clause-too_large
push_array-returns-clause-too_large t c = λ e.
    let l = c.loop-place in
    let xs = c.args.trees.now in
    let whole = opened c.args.out.now c.push.new.out (codes "[") (with_commas (map tree_text xs) ++ codes "]") c.in_ok-push.ensures.ok in
    subst (λ w. c.args.limit < length w) (nothing_left tree_text l.place xs l.out (codes "]") _ (omega arith) l.invariant.0 ∙ whole) (c.push-2.ensures.too_large e)

pub push_object-loop-place-init : goal.push_object-loop-place-init
push_object-loop-place-init t c = (ap (λ w. c.push.new.out ++ (w ++ codes "}")) (all_left (map field_text c.args.fields.now)), λ within. within)

pub push_object-returns-in_err-push_comma-clause-too_large : goal.push_object-returns-in_err-push_comma-clause-too_large
push_object-returns-in_err-push_comma-clause-too_large t c = λ e.
    let l = c.loop-place in
    let xs = c.args.fields.now in
    let x = c.index-fields-place.result in
    let here : drop l.place xs ≡ x ∷ drop (l.place + 1) xs = drop_more xs l.place x (omega arith) ∙ ap (λ y. y ∷ drop (l.place + 1) xs) (sym c.index-fields-place.is) in
    let is_whole = l.invariant.0 ∙ opened c.args.out.now c.push.new.out (codes "{") (with_commas (map field_text xs) ++ codes "}") c.in_ok-push.ensures.ok in
    comma_passes field_text l.place xs x l.out (codes "}") _ here is_whole c.args.limit (c.push_comma.ensures.too_large (search rules))

pub push_object-returns-in_err-push_field-clause-too_large : goal.push_object-returns-in_err-push_field-clause-too_large
push_object-returns-in_err-push_field-clause-too_large t c = λ e.
    let l = c.loop-place in
    let xs = c.args.fields.now in
    let x = c.index-fields-place.result in
    let here : drop l.place xs ≡ x ∷ drop (l.place + 1) xs = drop_more xs l.place x (omega arith) ∙ ap (λ y. y ∷ drop (l.place + 1) xs) (sym c.index-fields-place.is) in
    let is_whole = l.invariant.0 ∙ opened c.args.out.now c.push.new.out (codes "{") (with_commas (map field_text xs) ++ codes "}") c.in_ok-push.ensures.ok in
    text_passes field_text l.place xs x l.out (codes "}") _ here is_whole c.args.limit c.push_comma.new.out c.in_ok-push_comma.ensures.ok (c.push_field.ensures.too_large (search rules))

pub push_object-loop-place-preserved : goal.push_object-loop-place-preserved
push_object-loop-place-preserved t c =
    let l = c.loop-place in
    let xs = c.args.fields.now in
    let x = c.index-fields-place.result in
    let here : drop l.place xs ≡ x ∷ drop (l.place + 1) xs = drop_more xs l.place x (omega arith) ∙ ap (λ y. y ∷ drop (l.place + 1) xs) (sym c.index-fields-place.is) in (
      goes_on field_text l.place xs x l.out (codes "}") _ here l.invariant.0 c.push_comma.new.out c.push_field.new.out c.in_ok-push_comma.ensures.ok c.in_ok-push_field.ensures.ok,
      λ within. c.push_field.ensures.within (c.push_comma.ensures.within (l.invariant.1 within)),
    )

pub push_object-returns-clause-ok : goal.push_object-returns-clause-ok
push_object-returns-clause-ok t c =
    let l = c.loop-place in
    let xs = c.args.fields.now in
    let whole = opened c.args.out.now c.push.new.out (codes "{") (with_commas (map field_text xs) ++ codes "}") c.in_ok-push.ensures.ok in
    on_ok_weaker c.push-2.result (λ e. e ∙ nothing_left field_text l.place xs l.out (codes "}") _ (omega arith) l.invariant.0 ∙ whole) c.push-2.ensures.ok

pub push_object-returns-clause-too_large : goal.push_object-returns-clause-too_large
push_object-returns-clause-too_large t c = λ e.
    let l = c.loop-place in
    let xs = c.args.fields.now in
    let whole = opened c.args.out.now c.push.new.out (codes "{") (with_commas (map field_text xs) ++ codes "}") c.in_ok-push.ensures.ok in
    subst (λ w. c.args.limit < length w) (nothing_left field_text l.place xs l.out (codes "}") _ (omega arith) l.invariant.0 ∙ whole) (c.push-2.ensures.too_large e)
