use Rattle.std.proofs.Common.{rules, ◌<◌, ◌≡◌, false, true, length, get_or, sym, ap, ◌∙◌, arith}
use Rattle.std.proofs.lemmas.List.{get_or_default}
use Rattle.dg_keys.specs.Keys.{pred_of}
use Rattle.dg_group.specs.declared.copied.Copied.{Copied}
use Rattle.dg_group.specs.Groups.{is_copy_of}
use Rattle.dg_group.proofs.CopyPlaces.{only, missing}
use Rattle.dg_group.proofs.applying.place_for.Goals.{else-place-copies-via-then-place-copies+else-is_of, else-place-copies-via-else-place-copies}
use Rattle.dg_group.proofs.applying.place_for.Goals as goal

pub returns-then-is_of-clause-there : goal.returns-then-is_of-clause-there
returns-then-is_of-clause-there c =
    let cs = c.args.copies.now in
    let place = c.below-place.result in
    let pred : c.as_str-pred.result.now ≡ pred_of c.args.part.now.key = search rules in
    let is : is_copy_of c.as_str-pred.result.now (get_or cs place c.index-copies-place.result) ≡ true = ap (is_copy_of c.as_str-pred.result.now) (sym c.index-copies-place.is) ∙ (sym c.is_of.ensures ∙ c.if-is_of.true) in
    rw (← pred) (only c.as_str-pred.result.now cs place c.index-copies-place.result c.if-place-copies.true c.requires c.below-place.ensures.point.0 is)

pub returns-else-place-copies-clause-none : goal.returns-else-place-copies-clause-none
returns-else-place-copies-clause-none c =
    let pred : c.as_str-pred.result.now ≡ pred_of c.args.part.now.key = search rules in
    rw (← pred) (missing c.as_str-pred.result.now c.args.copies.now c.below-place.result c.below-place.ensures.within c.requires c.below-place.ensures.point.0 c.below-place.ensures.point.1 other)
  where
    other : (d : Copied) → c.below-place.result < length c.args.copies.now → is_copy_of c.as_str-pred.result.now (get_or c.args.copies.now c.below-place.result d) ≡ false
    other d lt = elim c.else-place-copies.branch [
      | else-place-copies-via-then-place-copies+else-is_of w ↦
          let at : get_or c.args.copies.now c.below-place.result d ≡ w.index-copies-place.result = get_or_default c.args.copies.now c.below-place.result d w.index-copies-place.result lt ∙ sym w.index-copies-place.is in
          ap (is_copy_of c.as_str-pred.result.now) at ∙ (sym w.is_of.ensures ∙ w.if-is_of.false)
      | else-place-copies-via-else-place-copies w ↦ absurd (omega (arith, w.if-place-copies.false, lt))
    ]
