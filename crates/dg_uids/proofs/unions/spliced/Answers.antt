use Rattle.std.proofs.Common.{◌≡◌, ◌++◌, ◌∷◌, ◌+◌, get_or, drop, ap, subst, sym, ◌∙◌}
use Rattle.std.specs.Ordering.{nat_cmp}
use Rattle.dg_values.specs.Ascending.{Ascends}
use Rattle.dg_sets.proofs.MadeOrders.{nat_order}
use Rattle.dg_sets.proofs.Merges.{left_from, ascends_left}
use Rattle.dg_uids.specs.Sets.{either}
use Rattle.dg_uids.proofs.Filters.{at_place}
use Rattle.dg_uids.proofs.Runs.{above_ascends, splice_one}
use Rattle.dg_uids.proofs.unions.spliced.Goals as goal

pub loop-uid-preserved : goal.loop-uid-preserved
loop-uid-preserved c =
    let few = c.args.few.now in
    let k = c.loop-uid.uid-index in
    let x = get_or few k 0 in
    let later = drop (k + 1) few in
    let left : drop k few ≡ x ∷ later = left_from few k x c.loop-uid-test.true (at_place few k c.loop-uid-test.true) in
    let rest = c.loop-uid.rest.now in
    let below = c.around.result.0.now in
    let above = c.around.result.2.now in
    let cut : Ascends nat_cmp (x ∷ later) = subst (Ascends nat_cmp) left (ascends_left nat_cmp k few c.requires.few) in
    let all = either c.args.many.now few in
    record {
      ascends = above_ascends nat_cmp nat_order x later rest below above cut c.loop-uid.invariant.ascends c.around.ensures.put;
      so_far = rw (c.in_ok-push.ensures.items, c.in_ok-extend_from_slice.ensures.items) (splice_one nat_cmp nat_order x later rest below above cut c.loop-uid.invariant.ascends c.around.ensures.put c.loop-uid.list.items all (ap (λ zs. c.loop-uid.list.items ++ either rest zs) (sym left) ∙ c.loop-uid.invariant.so_far));
    }
