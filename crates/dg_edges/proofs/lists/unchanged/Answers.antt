use Rattle.std.proofs.Common.{subst, sym, ◌∙◌}
use Rattle.dg_values.specs.Ascending.{Ascends}
use Rattle.dg_values.specs.Order.{posting_cmp}
use Rattle.dg_edges.proofs.ListLaws.{objects_at_ascend}
use Rattle.dg_edges.proofs.lists.unchanged.Goals as goal

pub invariant_of-result : goal.invariant_of-result
invariant_of-result g c =
    let a = objects_at_ascend (g.S.Snapshot.graph c.args.snap.now) c.args.key.now c.requires.ascend in
    let before = c.in_ok-before.ensures.items in
    let after = c.in_ok-after.ensures ∙ (c.as_slice.ensures.value ∙ before) in
    (subst (Ascends posting_cmp) (sym before) a, subst (Ascends posting_cmp) (sym after) a)
