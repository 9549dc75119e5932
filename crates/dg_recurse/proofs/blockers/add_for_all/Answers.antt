use Rattle.std.proofs.Common.{◌<◌, length, arith}
use Rattle.dg_recurse.proofs.WayLaws.{node_more}
use Rattle.dg_recurse.proofs.blockers.add_for_all.Goals as goal

pub loop-node-preserved : goal.loop-node-preserved
loop-node-preserved c =
    let l = c.loop-node in
    let lt : l.node-index < length c.args.nodes.now = omega (arith, c.loop-node-test.true) in (
      λ n on. c.in_ok-add_for.ensures.kept n (l.invariant.0 n on),
      node_more c.args.reach.now.edges c.args.way.now.raised.items l.blockers c.add_for.new.blockers c.args.edges c.args.edges c.in_ok-add_for.ensures.kept (omega arith) c.args.nodes.now l.node-index lt l.invariant.1
          c.in_ok-add_for.ensures.far,
    )
