use Rattle.std.proofs.Common.{length, flat_map, sym, ap, ◌∙◌}
use Rattle.std.proofs.lemmas.List.{take_all}
use Rattle.std.proofs.lemmas.List.Folds.{flat_map-map}
use Rattle.dg_shape.specs.Asked.{asked_by}
use Rattle.dg_shape.specs.Strip.{count_object, shown_below}
use Rattle.dg_shape.proofs.counting.counts.Goals as goal

pub returns : goal.returns
returns c =
    c.loop-field.invariant
    ∙ (ap (flat_map (λ field. count_object (length c.args.items.now) (asked_by shown_below field))) (take_all c.loop-field.field-index c.args.fields.now c.loop-field-test.false)
    ∙ sym (flat_map-map (count_object (length c.args.items.now)) (asked_by shown_below) c.args.fields.now))
