use Rattle.std.proofs.Common.{◌<◌, ◌∷◌, [], length, map, refl, arith, rules}
use Rattle.std.proofs.lemmas.List.{map-append}
use Rattle.dg_shape.specs.Normalize.{joined}
use Rattle.dg_level.specs.Flats.{weight}
use Rattle.dg_level.proofs.FlatCounts.{weight_first, none_for_all}
use Rattle.dg_level.proofs.flat_rows.push_part.Goals as goal

pub returns-in_err-left-clause-too_large : goal.returns-in_err-left-clause-too_large
returns-in_err-left-clause-too_large c = λ e.
    let l = c.loop-other in
    let both = joined c.args.object.now c.other-item.result in
    let lt : l.other-index < length c.args.others.now = omega (arith, c.loop-other-test.true) in
    let above : l.left < weight both = c.push_one.ensures.too_large (search rules) in
    none_for_all (map (joined c.args.object.now)) (map-append (joined c.args.object.now)) c.args.others.now l.other-index c.other-item.result lt c.other-item.is
    l.left c.args.room (both ∷ []) refl l.invariant.1 (omega (arith, above, weight_first both []))
