use Rattle.std.proofs.Common.{◌≡◌, ◌<◌, map, ap, ◌∙◌, arith, rules}
use Rattle.dg_shape.specs.Normalize.{joined}
use Rattle.dg_level.specs.Flats.{weight_in}
use Rattle.dg_level.proofs.FlatCounts.{times_one}
use Rattle.dg_level.proofs.flat_rows.followed.Goals as goal

pub returns-in_err-left-clause-too_large : goal.returns-in_err-left-clause-too_large
returns-in_err-left-clause-too_large c = λ e.
    let other = c.args.other.now in
    let above : c.args.room < weight_in (map (λ object. joined object other) c.as_mut_slice.result.now) = c.join_each.ensures.too_large (search rules) in
    let same : c.as_mut_slice.result.now ≡ c.flats.inside.objects.items = search rules in
    omega (arith, above, ap (λ objects. weight_in (map (λ object. joined object other) objects)) (same ∙ c.flats.view_is), ap weight_in (times_one c.args.flats other))
