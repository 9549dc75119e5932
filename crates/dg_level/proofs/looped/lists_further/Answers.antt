use Rattle.std.proofs.Common.{◌≡◌, ℕ, Bool, true, List, map, sym, ap, ◌∙◌, rules}
use Rattle.std.specs.Prelude.{Some, option_copied, option_map}
use Rattle.dg_schema.specs.Definitions.{definition_of}
use Rattle.dg_level.specs.Shown.{sort_of}
use Rattle.dg_level.specs.Planned.{is_single, cut_to, planned_list}
use Rattle.dg_level.specs.Levels.{leads_to_nodes}
use Rattle.dg_level.specs.Looping.{lists_over}
use Rattle.dg_level.proofs.LoopLaws.{leads_edge}
use Rattle.dg_level.proofs.looped.lists_further.Goals as goal

abbrev both : Bool → List (List ℕ) → Bool × List (List ℕ)
both single lists = (single, lists)

pub returns : goal.returns
returns g c =
    let schema = g.S.Snapshot.declared c.args.snap.now in
    let graph = g.S.Snapshot.graph c.args.snap.now in
    let vars = c.args.vars.now.variables in
    let nodes = c.args.nodes.now in
    let b = c.in-Edge in
    let k = c.in-Edge-kept in
    let def : option_copied c.lookup.result ≡ definition_of schema b.edge.pred = c.lookup.ensures ∙ (λ j. definition_of (c.schema.ensures j) (c.as_str.ensures j)) in
    let sort : c.sort_of-sort.result ≡ sort_of (definition_of schema b.edge.pred) b.edge.back = c.sort_of-sort.ensures ∙ (λ j. sort_of (def j) b.edge.back) in
    let yes : c.leads_to_nodes.result ≡ true = search rules in
    let some : leads_to_nodes (sort_of (definition_of schema b.edge.pred) b.edge.back) ≡ true = sym (c.leads_to_nodes.ensures ∙ ap leads_to_nodes sort) ∙ yes in
    let further : c.args.further ≡ true = search rules in
    let single : c.is_single-single.result ≡ is_single (sort_of (definition_of schema b.edge.pred) b.edge.back) = c.is_single-single.ensures ∙ ap is_single sort in
    let lists : c.in_ok-lists.lists.items ≡ map (λ (n : ℕ). cut_to (is_single (sort_of (definition_of schema b.edge.pred) b.edge.back)) (planned_list graph vars b.edge b.args k.orders k.filters n)) nodes =
    c.in_ok-lists.ensures ∙ (λ j. map (λ (n : ℕ). cut_to (single j) (planned_list graph vars b.edge (c.as_slice.ensures j) (c.as_slice-2.ensures j) (c.as_slice-3.ensures j) n)) nodes) in
    (λ j. Some (both (single j) (lists j)))
    ∙ ap (option_map (lists_over nodes)) (sym (leads_edge schema graph vars c.args.further c.args.item.now c.args.kept.now b.edge b.args b.dirs b.fields k.orders k.filters k.fields further b.is k.is some))
