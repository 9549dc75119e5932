use Rattle.std.proofs.Common.{◌<◌, length, arith}
use Rattle.dg_recurse.proofs.WayLaws.{node_more}
use Rattle.dg_recurse.proofs.search.nearest_of.Goals as goal

pub loop-node-preserved : goal.loop-node-preserved
loop-node-preserved c =
    let l = c.loop-node in
    let near = c.nearer-best in
    let lt : l.node-index < length c.args.nodes.now = omega (arith, c.loop-node-test.true) in (
      omega (arith, near.ensures.edges, l.invariant.0),
      λ enough. node_more c.args.reach.now.edges c.args.way.now.raised.items c.args.way.now.path.items c.args.way.now.path.items near.result.edges l.best.edges (λ n on. on) near.ensures.edges c.args.nodes.now l.node-index lt
          (l.invariant.1 (omega (arith, enough, near.ensures.edges)))
          near.ensures.far,
    )
