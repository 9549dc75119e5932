use Rattle.std.proofs.Common.{◌≡◌, ℕ, ◌+◌, ◌<◌, true, false, List, [], ◌++◌, map, take, length, sym, ap, ◌∙◌, subst, rules}
use Rattle.std.proofs.lemmas.Result.{on_ok_weaker}
use Rattle.dg_tree.specs.Texts.{field_text}
use Rattle.dg_level.specs.Rows.{total, row_text, objects_of, array_of, with_fields}
use Rattle.dg_level.specs.Looping.{piece_fields}
use Rattle.dg_level.specs.Unfolding.{edge}
use Rattle.dg_level.proofs.LoopLaws.{one_text, array_text}
use Rattle.dg_level.proofs.looped.push_list.Goals as goal

pub returns-then-single-clause-ok : goal.returns-then-single-clause-ok
returns-then-single-clause-ok c = λ name at key rows among.
    let row = λ (n : ℕ). row_text (at n) in
    let yes : c.args.single ≡ true = search rules in
    let e : map (λ (o : List ℕ). c.args.key.now ++ o) (take 1 (objects_of (map row c.args.list.now))) ≡ map field_text (piece_fields at (edge name c.args.single c.args.list.now)) =
    (λ j. map (λ (o : List ℕ). key j ++ o) (take 1 (objects_of (map row c.args.list.now)))) ∙ sym (one_text name at c.args.list.now c.args.single yes) in
    on_ok_weaker c.object_field.result (λ x. x ∙ ap (with_fields c.args.rows.now.begun) e) (c.object_field.ensures.ok row rows among)

pub returns-then-single-clause-too_large : goal.returns-then-single-clause-too_large
returns-then-single-clause-too_large c = λ name at key rows among err.
    let row = λ (n : ℕ). row_text (at n) in
    let yes : c.args.single ≡ true = search rules in
    let e : map (λ (o : List ℕ). c.args.key.now ++ o) (take 1 (objects_of (map row c.args.list.now))) ≡ map field_text (piece_fields at (edge name c.args.single c.args.list.now)) =
    (λ j. map (λ (o : List ℕ). key j ++ o) (take 1 (objects_of (map row c.args.list.now)))) ∙ sym (one_text name at c.args.list.now c.args.single yes) in
    subst (λ (fs : List (List ℕ)). c.args.rows.now.limit < total c.args.rows.now.rows + length (with_fields c.args.rows.now.begun fs)) e (c.object_field.ensures.too_large row rows among err)

pub returns-clause-ok : goal.returns-clause-ok
returns-clause-ok c = λ name at key rows among.
    let row = λ (n : ℕ). row_text (at n) in
    let no : c.args.single ≡ false = search rules in
    let e : map (λ (a : List ℕ). c.args.key.now ++ a) (array_of [] (map row c.args.list.now)) ≡ map field_text (piece_fields at (edge name c.args.single c.args.list.now)) =
    (λ j. map (λ (a : List ℕ). key j ++ a) (array_of [] (map row c.args.list.now))) ∙ sym (array_text name at c.args.list.now c.args.single no) in
    on_ok_weaker c.array_field.result (λ x. x ∙ ap (with_fields c.args.rows.now.begun) e) (c.array_field.ensures.ok row rows among)

pub returns-clause-too_large : goal.returns-clause-too_large
returns-clause-too_large c = λ name at key rows among err.
    let row = λ (n : ℕ). row_text (at n) in
    let no : c.args.single ≡ false = search rules in
    let e : map (λ (a : List ℕ). c.args.key.now ++ a) (array_of [] (map row c.args.list.now)) ≡ map field_text (piece_fields at (edge name c.args.single c.args.list.now)) =
    (λ j. map (λ (a : List ℕ). key j ++ a) (array_of [] (map row c.args.list.now))) ∙ sym (array_text name at c.args.list.now c.args.single no) in
    subst (λ (fs : List (List ℕ)). c.args.rows.now.limit < total c.args.rows.now.rows + length (with_fields c.args.rows.now.begun fs)) e (c.array_field.ensures.too_large row rows among err)
