use Rattle.std.proofs.Common.{◌<◌, ◌≡◌, false, true, length, get_or, rules, sym, ap, ◌∙◌, arith}
use Rattle.std.specs.Ordering.{is_eq}
use Rattle.std.proofs.lemmas.List.{get_or_default}
use Rattle.dg_sets.proofs.Places.{stands, belongs}
use Rattle.dg_sets.proofs.ordered.place_of.Goals.{else-place-items-via-then-place-items+else-is_eq, else-place-items-via-else-place-items}
use Rattle.dg_sets.proofs.ordered.place_of.Goals as goal

pub returns-then-is_eq-clause-there : goal.returns-then-is_eq-clause-there
returns-then-is_eq-clause-there g c =
    let lt : c.below-place.result < length c.args.items.now = c.if-place-items.true in
    let is : is_eq (g.T.InOrder.order (get_or c.args.items.now c.below-place.result c.index-items-place.result) c.args.item.now) ≡ true = search rules in
    stands g.T.InOrder.order g.met.T.InOrder.total c.args.item.now c.args.items.now c.below-place.result c.index-items-place.result c.requires.ascend lt c.below-place.ensures.point.0 is

pub returns-else-place-items-clause-missing : goal.returns-else-place-items-clause-missing
returns-else-place-items-clause-missing g c =
    belongs g.T.InOrder.order g.met.T.InOrder.total c.args.item.now c.args.items.now c.below-place.result c.requires.ascend c.below-place.ensures.within c.below-place.ensures.point.0 c.below-place.ensures.point.1 other
  where
    other : (d : g.row.T.Denot) → c.below-place.result < length c.args.items.now → is_eq (g.T.InOrder.order (get_or c.args.items.now c.below-place.result d) c.args.item.now) ≡ false
    other d lt = elim c.else-place-items.branch [
      | else-place-items-via-then-place-items+else-is_eq w ↦
          let at : get_or c.args.items.now c.below-place.result d ≡ w.index-items-place.result = get_or_default c.args.items.now c.below-place.result d w.index-items-place.result lt ∙ sym w.index-items-place.is in
          ap (λ y. is_eq (g.T.InOrder.order y c.args.item.now)) at ∙ (ap is_eq (sym w.compare.ensures) ∙ (sym w.is_eq.ensures ∙ w.if-is_eq.false))
      | else-place-items-via-else-place-items w ↦ absurd (omega (arith, w.if-place-items.false, lt))
    ]
