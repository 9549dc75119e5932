use Rattle.std.proofs.Common.{◌≡◌, ℕ, List, map, flat_map, rules, ap, subst, ◌∙◌}
use Rattle.std.proofs.lemmas.List.{nil_from_length}
use Rattle.std.specs.Prelude.{IfOk, filter}
use Rattle.std.specs.List.{list_all}
use Rattle.std.specs.Ordering.{nat_cmp}
use Rattle.dg_values.specs.Ascending.{ascending}
use Rattle.dg_uids.specs.Sets.{common}
use Rattle.dg_funcs.specs.Truth.{passes}
use Rattle.dg_level.proofs.ListLaws.{narrow, no_filters}
use Rattle.dg_level.proofs.lists.passing_lists.Goals as goal

pub returns-then-is_empty : goal.returns-then-is_empty
returns-then-is_empty g c = no_filters (g.S.Snapshot.graph c.args.snap.now) c.args.vars.now.variables c.args.filters.now c.args.lists.items (nil_from_length _ (search rules))

pub returns : goal.returns
returns g c =
    let graph = g.S.Snapshot.graph c.args.snap.now in
    let f = λ (n : ℕ). list_all (passes graph c.args.vars.now.variables n) c.args.filters.now in
    let ls = c.args.lists.items in
    let first : c.as_slice.result.now ≡ ls = c.as_slice.ensures.value in
    let second : c.as_slice-2.result.now ≡ ls = c.as_slice-2.ensures.value in
    let made : c.in_ok-pass.pass ≡ filter f (ascending nat_cmp (flat_map (λ l. l) ls)) =
    c.in_ok-pass.ensures ∙ ap (filter f) (c.in_ok-all.ensures ∙ (λ j. ascending nat_cmp (flat_map (λ l. l) (first j)))) in
    let e : map (λ cs. common cs c.in_ok-pass.pass) c.as_slice-2.result.now ≡ map (filter f) ls = (λ j. map (λ cs. common cs (made j)) (second j)) ∙ narrow f ls in
    subst (λ (xs : List (List ℕ)). IfOk c.narrowed.result (λ lists. lists.items ≡ xs)) e c.narrowed.ensures
