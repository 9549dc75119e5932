use Rattle.std.proofs.Common.{◌≡◌, ◌<◌, [], ◌∷◌, ◌++◌, map, length, get_or, sym, ap, ◌∙◌, arith}
use Rattle.std.proofs.lemmas.List.{map-append}
use Rattle.dg_check.specs.Vars.{value_beside}
use Rattle.dg_shape.specs.Orders.{meant}
use Rattle.dg_level.specs.OrderKeys.{is_down}
use Rattle.dg_level.proofs.OrderLaws.{keyed_more}
use Rattle.dg_level.proofs.order_keys.keys_over.Goals as goal

pub loop-place-preserved : goal.loop-place-preserved
loop-place-preserved c =
    let orders = c.args.orders.now in
    let values = c.args.values.now in
    let i = c.loop-place.place in
    let o = c.index-orders-place.result in
    let v = c.index-values-place.result in
    let lt : i < length orders = omega (arith, c.loop-place-test.true) in
    let down : c.is_down.result ≡ is_down (get_or orders i o) = c.is_down.ensures ∙ ap is_down c.index-orders-place.is in
    ap (map meant) c.in_ok-push.ensures.items
    ∙ (map-append meant c.loop-place.by.items _
    ∙ ((λ j. c.loop-place.invariant j ++ (down j, value_beside (c.index-values-place.is j).nodes (c.index-values-place.is j).values) ∷ [])
    ∙ sym (keyed_more orders values i o v lt c.requires)))
