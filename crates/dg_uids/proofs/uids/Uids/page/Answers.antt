use Rattle.std.proofs.Common.{sym, subst}
use Rattle.std.specs.Prelude.{nat_lt}
use Rattle.std.specs.Ordering.{nat_cmp}
use Rattle.dg_values.specs.Ascending.{Ascends}
use Rattle.dg_sets.proofs.MadeOrders.{nat_order}
use Rattle.dg_sets.proofs.Sets.{ascends_passed}
use Rattle.dg_sets.proofs.Merges.{ascends_left}
use Rattle.dg_uids.proofs.Paging.{ascends_chosen}
use Rattle.dg_uids.proofs.uids.Uids.page.Goals as goal

pub invariant_of-result : goal.invariant_of-result
invariant_of-result c =
    let ascend = subst (Ascends nat_cmp) (sym c.as_slice.ensures.items) c.as_slice.ensures.ascend in
    let above = subst (Ascends nat_cmp) (sym c.above.ensures) (ascends_passed nat_cmp nat_order (λ uid. nat_lt c.args.after uid) c.as_slice.result.now ascend) in
    let behind = subst (Ascends nat_cmp) (sym c.behind.ensures) (ascends_left nat_cmp c.args.offset c.above.result.now above) in
    let page = subst (Ascends nat_cmp) (sym c.chosen-page.ensures) (ascends_chosen c.args.first c.behind.result.now behind) in
    subst (Ascends nat_cmp) (sym c.in_ok-items.ensures.items) page
