use Rattle.std.proofs.Common.{◌≡◌, ◌++◌, ◌∷◌, ◌+◌, get_or, drop, ap, subst, sym, ◌∙◌, arith}
use Rattle.std.specs.Ordering.{nat_cmp}
use Rattle.dg_values.specs.Ascending.{Ascends}
use Rattle.dg_sets.proofs.MadeOrders.{nat_order}
use Rattle.dg_sets.proofs.Merges.{left_from, ascends_left}
use Rattle.dg_uids.specs.Sets.{lacking}
use Rattle.dg_uids.proofs.Filters.{at_place, lacking_end_others}
use Rattle.dg_uids.proofs.Runs.{above_ascends, cut_one}
use Rattle.dg_uids.proofs.differences.cut.Goals as goal

pub loop-uid-preserved : goal.loop-uid-preserved
loop-uid-preserved c =
    let few = c.args.few.now in
    let k = c.loop-uid.uid-index in
    let x = get_or few k 0 in
    let later = drop (k + 1) few in
    let left : drop k few ≡ x ∷ later = left_from few k x c.loop-uid-test.true (at_place few k c.loop-uid-test.true) in
    let rest = c.loop-uid.rest.now in
    let below = c.around.result.0.now in
    let above = c.around.result.2.now in
    let cut : Ascends nat_cmp (x ∷ later) = subst (Ascends nat_cmp) left (ascends_left nat_cmp k few c.requires.few) in
    let all = lacking c.args.many.now few in
    record {
      ascends = above_ascends nat_cmp nat_order x later rest below above cut c.loop-uid.invariant.ascends c.around.ensures.put;
      so_far = rw c.in_ok-extend_from_slice.ensures.items (cut_one nat_cmp nat_order x later rest below above cut c.loop-uid.invariant.ascends c.around.ensures.put c.loop-uid.list.items all c.around.ensures.taken (ap (λ zs. c.loop-uid.list.items ++ lacking rest zs) (sym left) ∙ c.loop-uid.invariant.so_far));
    }

pub returns : goal.returns
returns c =
    c.in_ok-extend_from_slice-2.ensures.items
    ∙ lacking_end_others nat_cmp nat_order c.loop-uid.rest.now c.args.few.now c.loop-uid.list.items (lacking c.args.many.now c.args.few.now) 0 c.loop-uid.uid-index (omega arith) c.loop-uid.invariant.so_far
