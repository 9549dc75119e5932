use Rattle.std.proofs.Common.{◌<◌, length, arith, ap, ◌∙◌}
use Rattle.std.specs.Prelude.{Some}
use Rattle.dg_level.proofs.AggregateLaws.{greatest_more}
use Rattle.dg_level.proofs.folds.greatest.Goals as goal

pub loop-value-preserved : goal.loop-value-preserved
loop-value-preserved c =
    let values = c.args.values.now in
    let i = c.loop-value.value-index in
    let lt : i < length values = omega (arith, c.loop-value-test.true) in
    ap Some c.greater.ensures ∙ greatest_more values i c.value-item.result lt c.value-item.is _ c.loop-value.invariant
