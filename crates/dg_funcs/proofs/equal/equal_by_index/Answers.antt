use Rattle.std.proofs.Common.{◌≡◌, ℕ, List, subst, ◌∙◌}
use Rattle.std.specs.Prelude.{IfOk}
use Rattle.dg_values.specs.Order.{value_cmp}
use Rattle.dg_values.specs.Ascending.{ascending}
use Rattle.dg_funcs.specs.Equal.{filed_nodes}
use Rattle.dg_funcs.proofs.EqualLaws.{filed_are_equal, equal_once, all_filed}
use Rattle.dg_funcs.proofs.equal.equal_by_index.Goals as goal

pub returns-clause-nodes : goal.returns-clause-nodes
returns-clause-nodes g c =
    let graph = g.S.Snapshot.graph c.args.snap.now in
    let p = c.args.p.now in
    let values = c.args.values.now in
    let asked : c.as_slice.result.now ≡ ascending value_cmp values = c.as_slice.ensures.value ∙ c.in_ok-asked.ensures in
    subst (λ (nodes : List ℕ). IfOk c.filed.result (λ uids. uids ≡ nodes))
    ((λ i. filed_nodes graph p c.args.tokenizer (asked i)) ∙ (filed_are_equal graph p c.args.tokenizer (ascending value_cmp values) (all_filed c.args.tokenizer values c.requires.filed) ∙ equal_once graph p values))
    c.filed.ensures.nodes
