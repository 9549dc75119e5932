use Rattle.std.proofs.Common.{set, sym, ap, ◌∙◌}
use Rattle.std.proofs.lemmas.List.Edits.{map_over_more}
use Rattle.dg_shape.specs.Normalize.{with_pair}
use Rattle.dg_shape.proofs.flats.add_to_each.Goals as goal

pub loop-i-preserved : goal.loop-i-preserved
loop-i-preserved c =
    ap (set c.loop-i.objects c.loop-i.i) (c.in_ok-add.ensures ∙ ap (λ object. with_pair object c.args.pair.now) (sym c.index-objects-i.is))
    ∙ map_over_more (λ object. with_pair object c.args.pair.now) c.args.objects.now c.loop-i.objects c.loop-i.i c.index-objects-i.result c.loop-i-test.true c.loop-i.invariant c.index-objects-i.is
