use Rattle.std.proofs.Common.{◌≡◌, ◌≤◌, ◌*◌, ◌+◌, ◌<◌, ℤ, ◌+ℤ◌, length, arith, ◌∙◌, ap, to_z, of_z, FitsSigned}
use Rattle.std.specs.Prelude.{unsigned_abs}
use Rattle.std.proofs.lemmas.Int.{to_z-of_z, fits_signed_from_abs}
use mir.Syntax.{w128}
use Rattle.dg_level.proofs.AggregateLaws.{sum_more, abs_sum}
use Rattle.dg_level.proofs.folds.sum_of.Goals as goal

pub loop-value-preserved : goal.loop-value-preserved
loop-value-preserved c =
    let values = c.args.values.now in
    let i = c.loop-value.value-index in
    let value = c.value-item.result in
    let lt : i < length values = omega (arith, c.loop-value-test.true) in
    let so_far : ℤ = to_z w128 c.loop-value.sum-bits in
    let n : ℤ = c.number_in-sum.result in
    let far : unsigned_abs so_far ≤ 9223372036854775808 * i = c.loop-value.invariant.1 in
    let bound : unsigned_abs (so_far +ℤ n) ≤ 9223372036854775808 * (i + 1) = omega (arith, far, c.number_in-sum.ensures.small, abs_sum so_far n) in
    let fits : FitsSigned w128 (so_far +ℤ n) = fits_signed_from_abs w128 (so_far +ℤ n) (omega (arith, bound, lt)) in
    let number : to_z w128 (of_z w128 n) ≡ n = to_z-of_z w128 n (fits_signed_from_abs w128 n (omega (arith, c.number_in-sum.ensures.small))) in
    let now : to_z w128 (of_z w128 (so_far +ℤ to_z w128 (of_z w128 n))) ≡ so_far +ℤ n = ap (λ m. to_z w128 (of_z w128 (so_far +ℤ m))) number ∙ to_z-of_z w128 (so_far +ℤ n) fits in
    rw now (ap (λ m. so_far +ℤ m) c.number_in-sum.ensures.number ∙ sum_more values i value lt c.value-item.is so_far c.loop-value.invariant.0, bound)
