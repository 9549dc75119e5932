use Rattle.std.proofs.Common.{◌≡◌, ℕ, ◌<◌, true, List, [], ◌∷◌, ◌++◌, map, length, rules, sym, ap, ◌∙◌, subst, append-nil}
use Rattle.std.specs.Prelude.{is_some}
use Rattle.dg_parse.specs.Keys.{key_of}
use Rattle.dg_tree.specs.Texts.{tree_text}
use Rattle.dg_level.specs.Aggregates.{aggregate}
use Rattle.dg_level.specs.Parts.{comma_behind, parts_text, has_parts}
use Rattle.dg_level.specs.PlannedAggregates.{object_where, objects_with}
use Rattle.dg_level.proofs.AggregateLaws.{some_found, some_values, no_values}
use Rattle.dg_level.proofs.AggregatePlans.{object_shown, one_part, comma_passes}
use Rattle.dg_level.proofs.aggregates.push_aggregate.Goals as goal

pub returns-in_err-mark-clause-too_large : goal.returns-in_err-mark-clause-too_large
returns-in_err-mark-clause-too_large c = λ values is e.
    let key = key_of c.args.field.now in
    let value = aggregate c.args.op values in
    let out = c.args.out.now in
    let wrote = c.args.wrote in
    let object = object_where key value in
    let some : 0 < length values = some_values values c.args.found.now is (search rules) in
    let there : is_some value ≡ true = some_found c.args.op values some in
    let parts : map tree_text (objects_with key value) ≡ object ∷ [] = object_shown key value there in
    let above : 16777216 < length (out ++ comma_behind wrote) = subst (λ (t : List ℕ). 16777216 < length (out ++ t)) c.comma_behind.ensures (c.mark.ensures.too_large (search rules)) in
    subst (λ (ps : List (List ℕ)). 16777216 < length (out ++ parts_text wrote ps)) (sym parts) (comma_passes wrote out object 16777216 above)

pub returns-in_err-push_object-clause-too_large : goal.returns-in_err-push_object-clause-too_large
returns-in_err-push_object-clause-too_large c = λ values is e.
    let key = key_of c.args.field.now in
    let value = aggregate c.args.op values in
    let out = c.args.out.now in
    let wrote = c.args.wrote in
    let object = object_where key value in
    let some : 0 < length values = some_values values c.args.found.now is (search rules) in
    let there : is_some value ≡ true = some_found c.args.op values some in
    let parts : map tree_text (objects_with key value) ≡ object ∷ [] = object_shown key value there in
    let named : c.as_str.result.now ≡ key = c.as_str.ensures ∙ c.in_ok-key.ensures in
    let comma : c.mark.new.self ≡ out ++ comma_behind wrote = c.in_ok-mark.ensures.ok ∙ ap (λ t. out ++ t) c.comma_behind.ensures in
    let above : 16777216 < length (c.mark.new.self ++ object_where c.as_str.result.now value) = c.push_object.ensures.too_large values some is (search rules) in
    let whole : c.mark.new.self ++ object_where c.as_str.result.now value ≡ out ++ parts_text wrote (map tree_text (objects_with key value)) =
    one_part wrote out object _ (λ i. comma i ++ object_where (named i) value) ∙ ap (λ ps. out ++ parts_text wrote ps) (sym parts) in
    subst (λ (t : List ℕ). 16777216 < length t) whole above

pub returns-clause-ok : goal.returns-clause-ok
returns-clause-ok c = λ values is.
    let key = key_of c.args.field.now in
    let value = aggregate c.args.op values in
    let out = c.args.out.now in
    let wrote = c.args.wrote in
    let object = object_where key value in
    let some : 0 < length values = some_values values c.args.found.now is (search rules) in
    let there : is_some value ≡ true = some_found c.args.op values some in
    let parts : map tree_text (objects_with key value) ≡ object ∷ [] = object_shown key value there in
    let named : c.as_str.result.now ≡ key = c.as_str.ensures ∙ c.in_ok-key.ensures in
    let comma : c.mark.new.self ≡ out ++ comma_behind wrote = c.in_ok-mark.ensures.ok ∙ ap (λ t. out ++ t) c.comma_behind.ensures in
    one_part wrote out object c.push_object.new.out (c.in_ok-push_object.ensures.ok values some is ∙ (λ i. comma i ++ object_where (named i) value)) ∙ ap (λ ps. out ++ parts_text wrote ps) (sym parts)

pub returns-clause-wrote : goal.returns-clause-wrote
returns-clause-wrote c = λ values is.
    let key = key_of c.args.field.now in
    let value = aggregate c.args.op values in
    let out = c.args.out.now in
    let wrote = c.args.wrote in
    let object = object_where key value in
    let some : 0 < length values = some_values values c.args.found.now is (search rules) in
    let there : is_some value ≡ true = some_found c.args.op values some in
    let parts : map tree_text (objects_with key value) ≡ object ∷ [] = object_shown key value there in
    ap (has_parts wrote) (sym parts)

pub returns-then-is_none-clause-ok : goal.returns-then-is_none-clause-ok
returns-then-is_none-clause-ok c = λ values is. rw (no_values values c.args.found.now is (search rules)) (sym (append-nil c.args.out.now))

pub returns-then-is_none-clause-wrote : goal.returns-then-is_none-clause-wrote
returns-then-is_none-clause-wrote c = λ values is. rw (no_values values c.args.found.now is (search rules)) (search rules)
