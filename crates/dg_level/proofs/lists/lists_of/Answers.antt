use Rattle.std.proofs.Common.{◌≡◌, ℕ, List, map, ap, subst, ◌∙◌}
use Rattle.std.specs.Prelude.{IfOk}
use Rattle.std.specs.Ordering.{nat_cmp}
use Rattle.dg_values.specs.Ascending.{ascending}
use Rattle.dg_funcs.specs.Truth.{nodes_along}
use Rattle.dg_shape.specs.Orders.{ordered, page}
use Rattle.dg_level.specs.Planned.{planned_keys, passed_each, cut_to, planned_list}
use Rattle.dg_level.proofs.ListLaws.{map_twice}
use Rattle.dg_level.proofs.lists.lists_of.Goals as goal

pub returns : goal.returns
returns g c =
    let graph = g.S.Snapshot.graph c.args.snap.now in
    let vars = c.args.vars.now.variables in
    let nodes = c.args.nodes.now in
    let put = λ (list : List ℕ). cut_to c.args.single (page c.args.args.now (ordered (planned_keys graph vars c.args.orders.now) list)) in
    let set = λ (n : ℕ). ascending nat_cmp (nodes_along graph c.args.edge.now n) in
    let pass = passed_each graph vars c.args.filters.now in
    let lists : c.as_slice.result.now ≡ map (λ n. pass (set n)) nodes =
    c.as_slice.ensures.value ∙ (c.in_ok-lists-2.ensures ∙ (ap (map pass) c.in_ok-lists.ensures ∙ map_twice pass set nodes)) in
    let e : map put c.as_slice.result.now ≡ map (λ n. cut_to c.args.single (planned_list graph vars c.args.edge.now c.args.args.now c.args.orders.now c.args.filters.now n)) nodes =
    ap (map put) lists ∙ map_twice put (λ n. pass (set n)) nodes in
    subst (λ (xs : List (List ℕ)). IfOk c.ordered_lists.result (λ made. made.items ≡ xs)) e c.ordered_lists.ensures
