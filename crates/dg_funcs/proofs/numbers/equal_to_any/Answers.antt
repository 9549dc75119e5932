use Rattle.std.proofs.Common.{◌≡◌, ℕ, List, flat_map, subst, ◌∙◌}
use Rattle.std.specs.Prelude.{IfOk}
use Rattle.std.specs.Ordering.{nat_cmp}
use Rattle.dg_values.specs.Order.{value_cmp}
use Rattle.dg_values.specs.Ascending.{ascending}
use Rattle.dg_funcs.specs.Numbers.{numbered_as}
use Rattle.dg_funcs.proofs.NumberLaws.{any_number}
use Rattle.dg_funcs.proofs.numbers.equal_to_any.Goals as goal

pub returns : goal.returns
returns g c =
    let graph = g.S.Snapshot.graph c.args.snap.now in
    let edge = c.args.edge.now in
    let values = c.args.values.now in
    let asked : c.as_slice.result.now ≡ ascending value_cmp values = c.as_slice.ensures.value ∙ c.in_ok-asked.ensures in
    subst (λ (ys : List ℕ). IfOk c.equal_to_each.result (λ uids. uids ≡ ys))
    ((λ i. ascending nat_cmp (flat_map (numbered_as graph edge) (asked i))) ∙ any_number graph edge values) c.equal_to_each.ensures
