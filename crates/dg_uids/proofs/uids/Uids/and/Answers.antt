use Rattle.std.proofs.Common.{sym, subst}
use Rattle.std.specs.Ordering.{nat_cmp}
use Rattle.dg_values.specs.Ascending.{Ascends, has}
use Rattle.dg_sets.proofs.MadeOrders.{nat_order}
use Rattle.dg_sets.proofs.Sets.{ascends_passed}
use Rattle.dg_uids.proofs.uids.Uids.and.Goals as goal

pub invariant_of-result : goal.invariant_of-result
invariant_of-result c =
    let ascend = subst (Ascends nat_cmp) (sym c.as_slice.ensures.items) c.as_slice.ensures.ascend in
    subst (Ascends nat_cmp) (sym c.in_ok-items.ensures) (ascends_passed nat_cmp nat_order (has nat_cmp c.as_slice-2.result.now) c.as_slice.result.now ascend)
