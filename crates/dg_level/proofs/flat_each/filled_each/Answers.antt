use Rattle.std.proofs.Common.{set, sym, ap, ◌∙◌}
use Rattle.std.specs.Prelude.{filter}
use Rattle.std.proofs.lemmas.List.Edits.{map_over_more}
use Rattle.dg_shape.specs.Normalize.{has_pair}
use Rattle.dg_level.proofs.flat_each.filled_each.Goals as goal

pub loop-i-preserved : goal.loop-i-preserved
loop-i-preserved c =
    ap (set c.loop-i.made c.loop-i.i) (c.fill.ensures ∙ ap (filter has_pair) (sym c.index-made-i.is))
    ∙ map_over_more (filter has_pair) c.args.made.now c.loop-i.made c.loop-i.i c.index-made-i.result c.loop-i-test.true c.loop-i.invariant c.index-made-i.is
