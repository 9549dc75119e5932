use Rattle.std.proofs.Common.{◌<◌, ◌≡◌, false, true, length, get_or, sym, ap, ◌∙◌, arith}
use Rattle.std.specs.Prelude.{Some}
use Rattle.std.proofs.lemmas.List.{get_or_default}
use Rattle.dg_group.specs.declared.copied.Copied.{Copied}
use Rattle.dg_group.specs.Groups.{is_copy_of}
use Rattle.dg_group.proofs.CopyPlaces.{found, missing}
use Rattle.dg_group.proofs.copied.find.Goals.{else-place-copies-via-then-place-copies+else-is_of, else-place-copies-via-else-place-copies}
use Rattle.dg_group.proofs.copied.find.Goals as goal

pub returns-then-is_of : goal.returns-then-is_of
returns-then-is_of c =
    let cs = c.args.copies.now in
    let place = c.below-place.result in
    let d = c.index-copies-place-then-is_of.result in
    let same : get_or cs place d ≡ c.index-copies-place.result = get_or_default cs place d c.index-copies-place.result c.if-place-copies.true ∙ sym c.index-copies-place.is in
    let is : is_copy_of c.args.pred.now (get_or cs place d) ≡ true = ap (is_copy_of c.args.pred.now) same ∙ (sym c.is_of.ensures ∙ c.if-is_of.true) in
    ap Some c.index-copies-place-then-is_of.is ∙ sym (found c.args.pred.now cs place d c.if-place-copies.true c.below-place.ensures.point.0 is)

pub returns-else-place-copies : goal.returns-else-place-copies
returns-else-place-copies c =
    sym (missing c.args.pred.now c.args.copies.now c.below-place.result c.below-place.ensures.within c.requires c.below-place.ensures.point.0 c.below-place.ensures.point.1 other)
  where
    other : (d : Copied) → c.below-place.result < length c.args.copies.now → is_copy_of c.args.pred.now (get_or c.args.copies.now c.below-place.result d) ≡ false
    other d lt = elim c.else-place-copies.branch [
      | else-place-copies-via-then-place-copies+else-is_of w ↦
          let at : get_or c.args.copies.now c.below-place.result d ≡ w.index-copies-place.result = get_or_default c.args.copies.now c.below-place.result d w.index-copies-place.result lt ∙ sym w.index-copies-place.is in
          ap (is_copy_of c.args.pred.now) at ∙ (sym w.is_of.ensures ∙ w.if-is_of.false)
      | else-place-copies-via-else-place-copies w ↦ absurd (omega (arith, w.if-place-copies.false, lt))
    ]
