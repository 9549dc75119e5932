use Rattle.std.proofs.Common.{◌≡◌, ℕ, ◌<◌, false, length, get_or, ap, ◌∙◌, arith}
use Rattle.std.specs.Ordering.{nat_cmp, is_eq}
use Rattle.std.proofs.lemmas.List.{get_or_default}
use Rattle.dg_sets.proofs.MadeOrders.{nat_order}
use Rattle.dg_sets.proofs.Places.{stands, belongs}
use Rattle.dg_uids.proofs.Galloping.{is_same, is_other}
use Rattle.dg_uids.proofs.sides.place_of.Goals.{else-place-uids-via-then-place-uids+else-uids-place, else-place-uids-via-else-place-uids}
use Rattle.dg_uids.proofs.sides.place_of.Goals as goal

pub returns-then-uids-place-clause-there : goal.returns-then-uids-place-clause-there
returns-then-uids-place-clause-there c =
    let uids = c.args.uids.now in
    let place = c.below-place.result in
    stands nat_cmp nat_order c.args.uid uids place 0 c.requires c.if-place-uids.true c.below-place.ensures.point.0 (is_same (get_or uids place 0) c.args.uid c.if-uids-place.true)

pub returns-else-place-uids-clause-missing : goal.returns-else-place-uids-clause-missing
returns-else-place-uids-clause-missing c =
    belongs nat_cmp nat_order c.args.uid c.args.uids.now c.below-place.result c.requires c.below-place.ensures.within c.below-place.ensures.point.0 c.below-place.ensures.point.1 other
  where
    other : (d : ℕ) → c.below-place.result < length c.args.uids.now → is_eq (nat_cmp (get_or c.args.uids.now c.below-place.result d) c.args.uid) ≡ false
    other d lt = elim c.else-place-uids.branch [
      | else-place-uids-via-then-place-uids+else-uids-place w ↦ ap (λ x. is_eq (nat_cmp x c.args.uid)) (get_or_default c.args.uids.now c.below-place.result d 0 lt) ∙ is_other (get_or c.args.uids.now c.below-place.result 0) c.args.uid w.if-uids-place.false
      | else-place-uids-via-else-place-uids w ↦ absurd (omega (arith, w.if-place-uids.false, lt))
    ]
