use Rattle.std.proofs.Common.{◌<◌, ◌≡◌, false, true, length, get_or, sym, ap, ◌∙◌, arith}
use Rattle.std.specs.Prelude.{Some}
use Rattle.std.proofs.lemmas.List.{get_or_default}
use Rattle.dg_keys.specs.declared.record.Tablet.{Tablet}
use Rattle.dg_zero.proofs.TabletPlaces.{is_tablet_of, found, missing}
use Rattle.dg_zero.proofs.named.tablet_of.Goals.{else-place-tablets-via-then-place-tablets+else-is_of, else-place-tablets-via-else-place-tablets}
use Rattle.dg_zero.proofs.named.tablet_of.Goals as goal

pub returns-then-is_of : goal.returns-then-is_of
returns-then-is_of c =
    let cs = c.args.tablets.now in
    let place = c.below-place.result in
    let d = c.index-tablets-place-then-is_of.result in
    let same : get_or cs place d ≡ c.index-tablets-place.result = get_or_default cs place d c.index-tablets-place.result c.if-place-tablets.true ∙ sym c.index-tablets-place.is in
    let is : is_tablet_of c.args.pred.now (get_or cs place d) ≡ true = ap (is_tablet_of c.args.pred.now) same ∙ (sym c.is_of.ensures ∙ c.if-is_of.true) in
    ap Some c.index-tablets-place-then-is_of.is ∙ sym (found c.args.pred.now cs place d c.if-place-tablets.true c.below-place.ensures.point.0 is)

pub returns-else-place-tablets : goal.returns-else-place-tablets
returns-else-place-tablets c =
    sym (missing c.args.pred.now c.args.tablets.now c.below-place.result c.below-place.ensures.within c.requires c.below-place.ensures.point.0 c.below-place.ensures.point.1 other)
  where
    other : (d : Tablet) → c.below-place.result < length c.args.tablets.now → is_tablet_of c.args.pred.now (get_or c.args.tablets.now c.below-place.result d) ≡ false
    other d lt = elim c.else-place-tablets.branch [
      | else-place-tablets-via-then-place-tablets+else-is_of w ↦
          let at : get_or c.args.tablets.now c.below-place.result d ≡ w.index-tablets-place.result = get_or_default c.args.tablets.now c.below-place.result d w.index-tablets-place.result lt ∙ sym w.index-tablets-place.is in
          ap (is_tablet_of c.args.pred.now) at ∙ (sym w.is_of.ensures ∙ w.if-is_of.false)
      | else-place-tablets-via-else-place-tablets w ↦ absurd (omega (arith, w.if-place-tablets.false, lt))
    ]
