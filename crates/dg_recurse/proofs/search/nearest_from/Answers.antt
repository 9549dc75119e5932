use Rattle.std.proofs.Common.{◌≡◌, ◌<◌, ℕ, List, true, length, ap, sym, ◌∙◌, arith}
use Rattle.dg_recurse.specs.Columns.{nodes_of}
use Rattle.dg_recurse.specs.Ways.{are_far}
use Rattle.dg_recurse.proofs.WayLaws.{column_more}
use Rattle.dg_recurse.proofs.search.nearest_from.Goals as goal

pub loop-column-preserved : goal.loop-column-preserved
loop-column-preserved c = λ enough.
    let l = c.loop-column in
    let way = c.args.way.now in
    let best = c.nearest_of-best in
    let lt : l.column-index < length c.args.columns.now = omega (arith, c.loop-column-test.true) in
    let far : are_far c.args.reach.now.edges way.path.items way.raised.items best.result.edges (nodes_of c.column-item.result c.args.place) ≡ true =
    ap (λ (nodes : List ℕ). are_far c.args.reach.now.edges way.path.items way.raised.items best.result.edges nodes) (sym c.nodes.ensures) ∙ best.ensures.far enough in
    column_more c.args.reach.now.edges way.raised.items way.path.items way.path.items best.result.edges l.best.edges (λ n on. on) best.ensures.edges c.args.place c.args.columns.now l.column-index c.column-item.result lt c.column-item.is (l.invariant (omega (arith, enough, best.ensures.edges))) far
