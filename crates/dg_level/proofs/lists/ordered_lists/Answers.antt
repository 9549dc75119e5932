use Rattle.std.proofs.Common.{◌≡◌, ℕ, List, map, ap, subst, ◌∙◌}
use Rattle.std.specs.Prelude.{IfOk}
use Rattle.dg_shape.specs.Orders.{ordered, page, meant}
use Rattle.dg_level.specs.Planned.{planned_keys, cut_to}
use Rattle.dg_level.specs.OrderKeys.{compared_by, values_among, keyed, known_nodes}
use Rattle.dg_level.proofs.OrderLaws.{lists_alike}
use Rattle.dg_level.proofs.lists.ordered_lists.Goals as goal

pub returns : goal.returns
returns g c =
    let graph = g.S.Snapshot.graph c.args.snap.now in
    let vars = c.args.vars.now.variables in
    let orders = c.args.orders.now in
    let lists = c.args.lists.now in
    let cut = λ (nodes : List ℕ). cut_to c.args.single (page c.args.args.now nodes) in
    let values : c.as_slice.result.now ≡ map (λ key. values_among graph vars (known_nodes orders lists) (compared_by key)) orders =
    c.as_slice.ensures.value ∙ (c.in_ok-values.ensures ∙ λ j. map (λ key. values_among graph vars (c.in_ok-all.ensures j) (compared_by key)) orders) in
    let by : map meant c.as_slice-2.result.now ≡ keyed orders (map (λ key. values_among graph vars (known_nodes orders lists) (compared_by key)) orders) =
    ap (map meant) c.as_slice-2.ensures.value ∙ (c.in_ok-by.ensures ∙ ap (keyed orders) values) in
    let e : map (λ list. cut (ordered (map meant c.as_slice-2.result.now) list)) lists ≡ map (λ list. cut (ordered (planned_keys graph vars orders) list)) lists =
    (λ j. map (λ list. cut (ordered (by j) list)) lists) ∙ lists_alike graph vars cut orders lists in
    subst (λ (xs : List (List ℕ)). IfOk c.put_in_order.result (λ made. made.items ≡ xs)) e c.put_in_order.ensures
