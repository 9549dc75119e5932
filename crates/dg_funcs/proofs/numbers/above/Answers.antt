use Rattle.std.proofs.Common.{◌≡◌, ℕ, List, subst, ◌∙◌}
use Rattle.std.specs.Prelude.{IfOk, None}
use Rattle.std.specs.Ordering.{int_cmp, is_gt}
use Rattle.dg_graph.specs.Lookups.{by_count}
use Rattle.dg_funcs.specs.Numbers.{numbered}
use Rattle.dg_funcs.proofs.NumberLaws.{without_end}
use Rattle.dg_funcs.proofs.numbers.above.Goals as goal

pub returns : goal.returns
returns g c =
    let graph = g.S.Snapshot.graph c.args.snap.now in
    let edge = c.args.edge.now in
    let low = c.counted_above-low.result in
    let e : by_count graph c.as_str.result.now edge.back low None ≡ numbered graph edge (λ k. is_gt (int_cmp k c.args.n.now)) =
    (λ i. by_count graph (c.as_str.ensures i) edge.back low None) ∙ without_end graph edge low (λ k. is_gt (int_cmp k c.args.n.now)) c.counted_above-low.ensures in
    subst (λ (ys : List ℕ). IfOk c.by_count.result (λ uids. uids ≡ ys)) e c.by_count.ensures.nodes
