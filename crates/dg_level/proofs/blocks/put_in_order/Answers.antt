use Rattle.std.proofs.Common.{◌≡◌, map, ap, ◌∙◌}
use Rattle.dg_shape.specs.Orders.{ordered, page, meant}
use Rattle.dg_level.specs.OrderKeys.{compared_by, values_among, keyed}
use Rattle.dg_level.proofs.OrderLaws.{ordered_alike}
use Rattle.dg_level.proofs.blocks.put_in_order.Goals as goal

pub returns : goal.returns
returns g c =
    let graph = g.S.Snapshot.graph c.args.snap.now in
    let vars = c.args.vars.now.variables in
    let orders = c.args.orders.now in
    let nodes = c.args.nodes.now in
    let values : c.as_slice.result.now ≡ map (λ key. values_among graph vars nodes (compared_by key)) orders = c.as_slice.ensures.value ∙ c.in_ok-values.ensures in
    let by : map meant c.as_slice-2.result.now ≡ keyed orders (map (λ key. values_among graph vars nodes (compared_by key)) orders) =
    ap (map meant) c.as_slice-2.ensures.value ∙ (c.in_ok-by.ensures ∙ ap (keyed orders) values) in
    c.page.ensures ∙ ap (page c.args.args.now) (c.in_ok-order.ensures ∙ ((λ i. ordered (by i) nodes) ∙ ordered_alike graph vars nodes orders nodes (λ u h. h)))
