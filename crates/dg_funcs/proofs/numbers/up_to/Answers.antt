use Rattle.std.proofs.Common.{◌≡◌, ℕ, List, subst, ◌∙◌}
use Rattle.std.specs.Prelude.{IfOk, Some}
use Rattle.std.specs.Ordering.{int_cmp, is_le}
use Rattle.dg_graph.specs.Lookups.{by_count}
use Rattle.dg_funcs.specs.Numbers.{numbered}
use Rattle.dg_funcs.proofs.NumberLaws.{from_one}
use Rattle.dg_funcs.proofs.numbers.up_to.Goals as goal

pub returns : goal.returns
returns g c =
    let graph = g.S.Snapshot.graph c.args.snap.now in
    let edge = c.args.edge.now in
    let high = c.counted_from-high.result in
    let e : by_count graph c.as_str.result.now edge.back 1 (Some high) ≡ numbered graph edge (λ k. is_le (int_cmp k c.args.n.now)) =
    (λ i. by_count graph (c.as_str.ensures i) edge.back 1 (Some high)) ∙ from_one graph edge (Some high) (λ k. is_le (int_cmp k c.args.n.now)) c.counted_from-high.ensures.up_to in
    subst (λ (ys : List ℕ). IfOk c.by_count.result (λ uids. uids ≡ ys)) e c.by_count.ensures.nodes
