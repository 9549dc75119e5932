use Rattle.std.proofs.Common.{List, ℕ, ◌≡◌, ◌∙◌, subst}
use Rattle.std.specs.Prelude.{IfOk}
use Rattle.dg_level.specs.PlannedBlocks.{planned_nodes}
use Rattle.dg_level.proofs.BlockMeanings.{nodes_are}
use Rattle.dg_level.proofs.blocks.nodes_of.Goals as goal

pub returns : goal.returns
returns g c = λ ds lawful kinds is.
    let schema = g.S.Snapshot.declared c.args.snap.now in
    let graph = g.S.Snapshot.graph c.args.snap.now in
    let vars = c.args.vars.now.variables in
    let kept = c.args.kept.now in
    subst (λ (list : List ℕ). IfOk c.planned_nodes.result (λ v. v.items ≡ list))
    ((λ i. planned_nodes graph vars (c.as_slice.ensures i) kept) ∙ nodes_are schema ds graph vars lawful kinds c.meanings.ensures.filters c.meanings.ensures.roots c.args.block.now kept is)
    (c.planned_nodes.ensures lawful)
