use Rattle.std.proofs.Common.{◌≡◌, ◌<◌, ℕ, List, true, length, ap, sym, ◌∙◌, arith}
use Rattle.dg_recurse.specs.Columns.{nodes_of}
use Rattle.dg_recurse.specs.Ways.{are_far}
use Rattle.dg_recurse.proofs.WayLaws.{column_more}
use Rattle.dg_recurse.proofs.blockers.blockers_of.Goals as goal

pub loop-column-preserved : goal.loop-column-preserved
loop-column-preserved c =
    let l = c.loop-column in
    let raised = c.args.way.now.raised.items in
    let blockers = c.add_for_all.new.blockers in
    let lt : l.column-index < length c.args.columns.now = omega (arith, c.loop-column-test.true) in
    let far : are_far c.args.reach.now.edges blockers raised c.args.edges (nodes_of c.column-item.result c.args.place) ≡ true =
    ap (λ (nodes : List ℕ). are_far c.args.reach.now.edges blockers raised c.args.edges nodes) (sym c.nodes.ensures) ∙ c.in_ok-add_for_all.ensures.far in
    column_more c.args.reach.now.edges raised l.blockers blockers c.args.edges c.args.edges c.in_ok-add_for_all.ensures.kept (omega arith) c.args.place c.args.columns.now l.column-index c.column-item.result lt c.column-item.is l.invariant far
