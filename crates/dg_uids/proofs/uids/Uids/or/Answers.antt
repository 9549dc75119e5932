use Rattle.std.proofs.Common.{sym, subst}
use Rattle.std.specs.Ordering.{nat_cmp}
use Rattle.dg_values.specs.Ascending.{Ascends}
use Rattle.dg_sets.proofs.MadeOrders.{nat_order}
use Rattle.dg_sets.proofs.Sets.{ascends_more}
use Rattle.dg_uids.proofs.uids.Uids.or.Goals as goal

pub invariant_of-result : goal.invariant_of-result
invariant_of-result c =
    let ascend = subst (Ascends nat_cmp) (sym c.as_slice.ensures.items) c.as_slice.ensures.ascend in
    subst (Ascends nat_cmp) (sym c.in_ok-items.ensures) (ascends_more nat_cmp nat_order c.as_slice.result.now c.as_slice-2.result.now ascend)
