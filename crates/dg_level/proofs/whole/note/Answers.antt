use Rattle.std.proofs.Common.{◌≡◌, false, true, [], ◌∷◌, ◌++◌, map, rules, sym, ap, ◌∙◌}
use Rattle.std.proofs.lemmas.List.{map-append}
use Rattle.dg_level.specs.Answers.{values_shown}
use Rattle.dg_level.specs.Shown.{some_trees}
use Rattle.dg_level.proofs.WholeLaws.{noted, not_noted}
use Rattle.dg_level.proofs.whole.note.Goals as goal

pub returns-then-not-shows_some-clause-found : goal.returns-then-not-shows_some-clause-found
returns-then-not-shows_some-clause-found c = λ list f same.
    let no : false ≡ c.shows_some.result = search rules in
    not_noted (λ n. some_trees (values_shown list (f n))) c.args.found.now.items c.args.node (no ∙ (c.shows_some.ensures list ∙ (λ i. some_trees (values_shown list ((c.as_slice.ensures.value ∙ same) i)))))

pub returns-clause-found : goal.returns-clause-found
returns-clause-found c = λ list f same.
    let yes : true ≡ c.shows_some.result = search rules in
    c.in_ok-push.ensures.items
    ∙ noted (λ n. some_trees (values_shown list (f n))) c.args.found.now.items c.args.node (yes ∙ (c.shows_some.ensures list ∙ (λ i. some_trees (values_shown list ((c.as_slice.ensures.value ∙ same) i)))))

pub returns-clause-all : goal.returns-clause-all
returns-clause-all c = λ f same are.
    c.in_ok-push-2.ensures.ok
    ∙ ((λ i. are i ++ (c.from_vec.ensures ∙ same) i ∷ []) ∙ (sym (map-append f c.args.found.now.items (c.args.node ∷ [])) ∙ ap (map f) (sym c.in_ok-push.ensures.items)))
