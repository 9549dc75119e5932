use Rattle.std.proofs.Common.{◌≡◌, ℕ, ◌+◌, ◌<◌, true, false, List, ◌++◌, map, take, length, sym, ap, ◌∙◌, subst, rules}
use Rattle.std.proofs.lemmas.Result.{on_ok_weaker}
use Rattle.dg_tree.specs.Texts.{field_text}
use Rattle.dg_level.specs.Rows.{total, row_text, objects_of, array_of, with_fields, AreOfLevel}
use Rattle.dg_level.specs.Shown.{under}
use Rattle.dg_level.specs.Columns.{number_object, is_alone}
use Rattle.dg_level.proofs.ShownLaws.{in_array, by_itself, of_node, alone_single, no_names, not_alone}
use Rattle.dg_level.proofs.writing.push_nodes.Goals as goal

pub returns-then-is_alone-clause-ok : goal.returns-then-is_alone-clause-ok
returns-then-is_alone-clause-ok c = λ name nodes shown node key b at.
    let below = c.args.below.now in
    let list : c.list_at-list.result.now ≡ b.list node = c.list_at-list.ensures b.list nodes node (c.as_slice.ensures.value ∙ b.lists_are) at in
    let row = λ (n : ℕ). row_text (b.at n) in
    let among : AreOfLevel below.level c.list_at-list.result.now = subst (AreOfLevel below.level) (sym list) (of_node b.list nodes below.level c.args.place node b.level_is at) in
    let yes : c.is_alone.result ≡ true = search rules in
    let alone : is_alone below.single below.counts ≡ true = ap (is_alone below.single) (sym c.as_slice-2.ensures) ∙ (sym c.is_alone.ensures ∙ yes) in
    let e : map (λ (o : List ℕ). c.args.key.now ++ o) (take 1 (objects_of (map row c.list_at-list.result.now))) ≡ map field_text (map (under name) (shown node)) =
    (λ j. map (λ (o : List ℕ). key j ++ o) (take 1 (objects_of (map row (list j)))))
    ∙ sym (by_itself name b.names b.at (b.list node) below.single (alone_single below.single below.counts alone) (no_names b.names below.counts below.single b.counts_are alone))
    ∙ ap (λ ts. map field_text (map (under name) ts)) (sym (b.trees_are node)) in
    on_ok_weaker c.object_field.result (λ x. x ∙ ap (with_fields c.args.rows.now.begun) e) (c.object_field.ensures.ok row b.rows_are among)

pub returns-then-is_alone-clause-too_large : goal.returns-then-is_alone-clause-too_large
returns-then-is_alone-clause-too_large c = λ name nodes shown node key b at err.
    let below = c.args.below.now in
    let list : c.list_at-list.result.now ≡ b.list node = c.list_at-list.ensures b.list nodes node (c.as_slice.ensures.value ∙ b.lists_are) at in
    let row = λ (n : ℕ). row_text (b.at n) in
    let among : AreOfLevel below.level c.list_at-list.result.now = subst (AreOfLevel below.level) (sym list) (of_node b.list nodes below.level c.args.place node b.level_is at) in
    let yes : c.is_alone.result ≡ true = search rules in
    let alone : is_alone below.single below.counts ≡ true = ap (is_alone below.single) (sym c.as_slice-2.ensures) ∙ (sym c.is_alone.ensures ∙ yes) in
    let e : map (λ (o : List ℕ). c.args.key.now ++ o) (take 1 (objects_of (map row c.list_at-list.result.now))) ≡ map field_text (map (under name) (shown node)) =
    (λ j. map (λ (o : List ℕ). key j ++ o) (take 1 (objects_of (map row (list j)))))
    ∙ sym (by_itself name b.names b.at (b.list node) below.single (alone_single below.single below.counts alone) (no_names b.names below.counts below.single b.counts_are alone))
    ∙ ap (λ ts. map field_text (map (under name) ts)) (sym (b.trees_are node)) in
    subst (λ (fs : List (List ℕ)). c.args.rows.now.limit < total c.args.rows.now.rows + length (with_fields c.args.rows.now.begun fs)) e (c.object_field.ensures.too_large row b.rows_are among err)

pub returns-clause-ok : goal.returns-clause-ok
returns-clause-ok c = λ name nodes shown node key b at.
    let below = c.args.below.now in
    let list : c.list_at-list.result.now ≡ b.list node = c.list_at-list.ensures b.list nodes node (c.as_slice.ensures.value ∙ b.lists_are) at in
    let row = λ (n : ℕ). row_text (b.at n) in
    let among : AreOfLevel below.level c.list_at-list.result.now = subst (AreOfLevel below.level) (sym list) (of_node b.list nodes below.level c.args.place node b.level_is at) in
    let no : c.is_alone.result ≡ false = search rules in
    let alone : is_alone below.single below.counts ≡ false = ap (is_alone below.single) (sym c.as_slice-2.ensures) ∙ (sym c.is_alone.ensures ∙ no) in
    let front : c.as_slice-4.result.now ≡ map (number_object (length (b.list node))) below.counts =
    c.as_slice-4.ensures.value ∙ (c.in_ok-front.ensures ∙ λ j. map (number_object (length (list j))) (c.as_slice-3.ensures j)) in
    let e : map (λ (a : List ℕ). c.args.key.now ++ a) (array_of c.as_slice-4.result.now (map row c.list_at-list.result.now)) ≡ map field_text (map (under name) (shown node)) =
    (λ j. map (λ (a : List ℕ). key j ++ a) (array_of ((front ∙ ap (map (number_object (length (b.list node)))) b.counts_are) j) (map row (list j))))
    ∙ sym (in_array name b.names b.at (b.list node) below.single (not_alone b.names below.counts below.single b.counts_are alone))
    ∙ ap (λ ts. map field_text (map (under name) ts)) (sym (b.trees_are node)) in
    on_ok_weaker c.array_field.result (λ x. x ∙ ap (with_fields c.args.rows.now.begun) e) (c.array_field.ensures.ok row b.rows_are among)

pub returns-clause-too_large : goal.returns-clause-too_large
returns-clause-too_large c = λ name nodes shown node key b at err.
    let below = c.args.below.now in
    let list : c.list_at-list.result.now ≡ b.list node = c.list_at-list.ensures b.list nodes node (c.as_slice.ensures.value ∙ b.lists_are) at in
    let row = λ (n : ℕ). row_text (b.at n) in
    let among : AreOfLevel below.level c.list_at-list.result.now = subst (AreOfLevel below.level) (sym list) (of_node b.list nodes below.level c.args.place node b.level_is at) in
    let no : c.is_alone.result ≡ false = search rules in
    let alone : is_alone below.single below.counts ≡ false = ap (is_alone below.single) (sym c.as_slice-2.ensures) ∙ (sym c.is_alone.ensures ∙ no) in
    let front : c.as_slice-4.result.now ≡ map (number_object (length (b.list node))) below.counts =
    c.as_slice-4.ensures.value ∙ (c.in_ok-front.ensures ∙ λ j. map (number_object (length (list j))) (c.as_slice-3.ensures j)) in
    let e : map (λ (a : List ℕ). c.args.key.now ++ a) (array_of c.as_slice-4.result.now (map row c.list_at-list.result.now)) ≡ map field_text (map (under name) (shown node)) =
    (λ j. map (λ (a : List ℕ). key j ++ a) (array_of ((front ∙ ap (map (number_object (length (b.list node)))) b.counts_are) j) (map row (list j))))
    ∙ sym (in_array name b.names b.at (b.list node) below.single (not_alone b.names below.counts below.single b.counts_are alone))
    ∙ ap (λ ts. map field_text (map (under name) ts)) (sym (b.trees_are node)) in
    subst (λ (fs : List (List ℕ)). c.args.rows.now.limit < total c.args.rows.now.rows + length (with_fields c.args.rows.now.begun fs)) e (c.array_field.ensures.too_large row b.rows_are among err)
