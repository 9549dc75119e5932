use Rattle.std.proofs.Common.{◌<◌, length, arith}
use Rattle.std.specs.Prelude.{replicate}
use Rattle.dg_level.specs.Given.{unknown}
use Rattle.dg_level.proofs.GivenLaws.{one_run}
use Rattle.dg_level.proofs.variables.variables_in_order.Goals as goal

pub loop-at-preserved : goal.loop-at-preserved
loop-at-preserved g c =
    let schema = g.S.Snapshot.declared c.args.snap.now in
    let graph = g.S.Snapshot.graph c.args.snap.now in
    let i = c.loop-at.at-index in
    let order = c.args.order.now in
    let lt : i < length order = omega (arith, c.loop-at-test.true) in
    λ lawful. one_run schema graph c.args.blocks.now c.args.kept.now (replicate c.args.count unknown) order i lt c.loop-at.vars.variables c.in_ok-vars.vars.variables (c.loop-at.invariant lawful) (c.in_ok-vars.ensures lawful)
