use Rattle.std.proofs.Common.{◌≡◌, ℕ, List, subst, ◌∙◌}
use Rattle.std.specs.Prelude.{◌&&◌, IfOk, Some}
use Rattle.std.specs.Ordering.{int_cmp, is_le, is_ge}
use Rattle.dg_graph.specs.Lookups.{by_count}
use Rattle.dg_funcs.specs.Numbers.{numbered}
use Rattle.dg_funcs.proofs.NumberLaws.{same_numbers}
use Rattle.dg_funcs.proofs.numbers.between.Goals as goal

pub returns : goal.returns
returns g c =
    let graph = g.S.Snapshot.graph c.args.snap.now in
    let edge = c.args.edge.now in
    let from = c.counted_from-from.result in
    let to = c.counted_from-to.result in
    let e : by_count graph c.as_str.result.now edge.back from (Some to) ≡ numbered graph edge (λ k. is_ge (int_cmp k c.args.low.now) && is_le (int_cmp k c.args.high.now)) =
    (λ i. by_count graph (c.as_str.ensures i) edge.back from (Some to))
    ∙ same_numbers graph edge from (Some to) (λ k. is_ge (int_cmp k c.args.low.now) && is_le (int_cmp k c.args.high.now)) (λ k l. λ i. c.counted_from-from.ensures.from k i && c.counted_from-to.ensures.up_to k l i) in
    subst (λ (ys : List ℕ). IfOk c.by_count.result (λ uids. uids ≡ ys)) e c.by_count.ensures.nodes
