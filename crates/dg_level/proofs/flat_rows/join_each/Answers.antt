use Rattle.std.proofs.Common.{◌≡◌, ◌<◌, ◌∷◌, [], get_or, length, map, set, refl, sym, ap, ◌∙◌, arith, rules}
use Rattle.std.proofs.lemmas.List.{map-append}
use Rattle.std.proofs.lemmas.List.Edits.{map_over_more}
use Rattle.dg_shape.specs.Normalize.{joined}
use Rattle.dg_level.specs.Flats.{weight}
use Rattle.dg_level.proofs.FlatCounts.{weight_first, none_for_all, left_for_more, still_there}
use Rattle.dg_level.proofs.flat_rows.join_each.Goals as goal

pub returns-in_err-left-clause-too_large : goal.returns-in_err-left-clause-too_large
returns-in_err-left-clause-too_large c = λ e.
    let l = c.loop-i in
    let more = c.args.more.now in
    let x = c.index-objects-i.result in
    let lt : l.i < length c.args.objects.now = omega (arith, c.loop-i-test.true) in
    let here : x ≡ get_or c.args.objects.now l.i x = still_there (λ object. joined object more) c.args.objects.now l.objects l.i x lt l.invariant.0 c.index-objects-i.is in
    let longer : l.left < weight (joined (get_or l.objects l.i x) more) = c.join_within.ensures.too_large (search rules) in
    let same = ap (λ object. weight (joined object more)) c.index-objects-i.is in
    let above : l.left < weight (joined x more) = omega (arith, longer, same) in
    none_for_all (map (λ object. joined object more)) (map-append (λ object. joined object more)) c.args.objects.now l.i x lt here
    l.left c.args.room (joined x more ∷ []) refl l.invariant.1 (omega (arith, above, weight_first (joined x more) []))

pub loop-i-preserved : goal.loop-i-preserved
loop-i-preserved c =
    let l = c.loop-i in
    let more = c.args.more.now in
    let x = c.index-objects-i.result in
    let lt : l.i < length c.args.objects.now = omega (arith, c.loop-i-test.true) in
    let here : x ≡ get_or c.args.objects.now l.i x = still_there (λ object. joined object more) c.args.objects.now l.objects l.i x lt l.invariant.0 c.index-objects-i.is in (
      ap (set l.objects l.i) (c.in_ok-left.ensures.ok ∙ ap (λ object. joined object more) (sym c.index-objects-i.is))
          ∙ map_over_more (λ object. joined object more) c.args.objects.now l.objects l.i x lt l.invariant.0 c.index-objects-i.is,
      left_for_more (map (λ object. joined object more)) (map-append (λ object. joined object more)) c.args.objects.now l.i x lt here l.left c.in_ok-left.left c.args.room (joined x more ∷ []) refl l.invariant.1
          (omega (arith, c.in_ok-left.ensures.left, ap (λ object. weight (joined object more)) c.index-objects-i.is, weight_first (joined x more) [])),
    )
