use Rattle.std.proofs.Common.{◌≡◌, ℕ, List, true, map, flat_map, ap, sym, subst, ◌∙◌, rules}
use Rattle.std.specs.Prelude.{IfOk}
use Rattle.std.specs.Ordering.{nat_cmp}
use Rattle.std.proofs.lemmas.List.Folds.{flat_map-map}
use Rattle.dg_values.specs.Ascending.{ascending}
use Rattle.dg_level.specs.Planned.{cut_to, planned_list, list_by}
use Rattle.dg_level.specs.Given.{nodes_in_braces}
use Rattle.dg_level.specs.Levels.{leads_to_nodes}
use Rattle.dg_level.proofs.GivenLaws.{all_under}
use Rattle.dg_level.proofs.given.level_under.Goals as goal

pub returns : goal.returns
returns g c =
    let graph = g.S.Snapshot.graph c.args.snap.now in
    let vars = c.args.vars.now.variables in
    let a = c.args in
    let list = list_by graph vars a.edge.now a.args.now a.sort a.orders.now a.filters.now in
    let yes : c.leads_to_nodes.result ≡ true = search rules in
    let leads : leads_to_nodes a.sort ≡ true = sym c.leads_to_nodes.ensures ∙ yes in
    let lists : c.as_slice.result.now ≡ map list a.nodes.now =
    c.as_slice.ensures.value ∙ (c.in_ok-lists.ensures ∙ (λ j. map (λ n. cut_to (c.is_single.ensures j) (planned_list graph vars a.edge.now a.args.now a.orders.now a.filters.now n)) a.nodes.now)) in
    let e : ascending nat_cmp (flat_map (λ (l : List ℕ). l) c.as_slice.result.now) ≡ nodes_in_braces a.sort list a.nodes.now =
    (λ j. ascending nat_cmp (flat_map (λ (l : List ℕ). l) (lists j)))
    ∙ (ap (ascending nat_cmp) (flat_map-map (λ (l : List ℕ). l) list a.nodes.now) ∙ all_under a.sort list a.nodes.now leads) in
    subst (λ (xs : List ℕ). IfOk c.nodes_below.result (λ uids. uids ≡ xs)) e c.nodes_below.ensures
