use Rattle.std.proofs.Common.{◌<◌, length, arith}
use Rattle.dg_recurse.proofs.WayLaws.{one_more_on}
use Rattle.dg_recurse.proofs.blockers.add_all.Goals as goal

pub loop-node-preserved : goal.loop-node-preserved
loop-node-preserved c =
    let l = c.loop-node in
    let lt : l.node-index < length c.args.nodes.now = omega (arith, c.loop-node-test.true) in (
      λ n on. c.in_ok-add.ensures.kept n (l.invariant.0 n on),
      one_more_on l.blockers c.add.new.blockers c.args.nodes.now l.node-index lt c.in_ok-add.ensures.kept l.invariant.1 c.in_ok-add.ensures.there,
    )
