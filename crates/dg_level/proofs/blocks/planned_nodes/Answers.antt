use Rattle.std.proofs.Common.{◌≡◌, ℕ, List, ◌∙◌, subst}
use Rattle.std.specs.Prelude.{IfOk}
use Rattle.dg_shape.specs.Orders.{ordered, page}
use Rattle.dg_level.specs.Planned.{planned_keys, passed_each}
use Rattle.dg_level.specs.PlannedBlocks.{planned_root}
use Rattle.dg_level.proofs.blocks.planned_nodes.Goals as goal

pub returns : goal.returns
returns g c = λ lawful.
    let graph = g.S.Snapshot.graph c.args.snap.now in
    let vars = c.args.vars.now.variables in
    let kept = c.args.kept.now in
    let nodes : c.in_ok-nodes-2.nodes ≡ passed_each graph vars kept.filters (planned_root graph vars kept.root) =
    c.in_ok-nodes-2.ensures ∙ (λ i. passed_each graph vars (c.as_slice.ensures i) (c.in_ok-nodes.ensures lawful i)) in
    subst (λ (list : List ℕ). IfOk c.put_in_order.result (λ v. v.items ≡ list)) (λ i. page c.args.args.now (ordered (planned_keys graph vars (c.as_slice-2.ensures i)) (nodes i))) c.put_in_order.ensures
