use Rattle.std.proofs.Common.{◌≡◌, ◌++◌, ◌∷◌, ◌+◌, get_or, drop, ap, subst, sym, ◌∙◌}
use Rattle.std.specs.Prelude.{not}
use Rattle.std.specs.Ordering.{nat_cmp}
use Rattle.dg_values.specs.Ascending.{Ascends}
use Rattle.dg_sets.proofs.MadeOrders.{nat_order}
use Rattle.dg_sets.proofs.Merges.{left_from, ascends_left}
use Rattle.dg_uids.specs.Sets.{lacking}
use Rattle.dg_uids.proofs.Filters.{at_place}
use Rattle.dg_uids.proofs.Runs.{above_ascends, kept_one, left_one}
use Rattle.dg_uids.proofs.differences.missing.Goals as goal
use Rattle.dg_uids.proofs.differences.missing.Goals.{then-not-is_there+in_ok-push, else-not-is_there}

pub loop-uid-preserved : goal.loop-uid-preserved
loop-uid-preserved c =
    let few = c.args.few.now in
    let k = c.loop-uid.uid-index in
    let x = get_or few k 0 in
    let later = drop (k + 1) few in
    let left : drop k few ≡ x ∷ later = left_from few k x c.loop-uid-test.true (at_place few k c.loop-uid-test.true) in
    let rest = c.loop-uid.rest.now in
    let below = c.around-is_there.result.0.now in
    let above = c.around-is_there.result.2.now in
    let cut : Ascends nat_cmp (x ∷ later) = subst (Ascends nat_cmp) left (ascends_left nat_cmp k few c.requires.few) in
    let done = c.loop-uid.list.items in
    let all = lacking few c.args.many.now in
    let so_far : done ++ lacking (x ∷ later) rest ≡ all = ap (λ zs. done ++ lacking zs rest) (sym left) ∙ c.loop-uid.invariant.so_far in
    record {
      ascends = above_ascends nat_cmp nat_order x later rest below above cut c.loop-uid.invariant.ascends c.around-is_there.ensures.put;
      so_far = elim c.if-not-is_there.branch [
        | then-not-is_there+in_ok-push w ↦ rw (w.list-is, w.in_ok-push.ensures.items) (kept_one nat_cmp nat_order x later rest below above cut c.loop-uid.invariant.ascends c.around-is_there.ensures.put not done all (ap not (sym c.around-is_there.ensures.there) ∙ ap not w.if-not-is_there.true) so_far)
        | else-not-is_there w ↦ rw w.list-is (left_one nat_cmp nat_order x later rest below above cut c.loop-uid.invariant.ascends c.around-is_there.ensures.put not done all (ap not (sym c.around-is_there.ensures.there) ∙ ap not w.if-not-is_there.false) so_far)
      ];
    }
