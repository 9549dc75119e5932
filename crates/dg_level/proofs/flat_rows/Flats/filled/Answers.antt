use Rattle.std.proofs.Common.{sym, ap, ◌∙◌}
use Rattle.dg_level.specs.Flats.{weight_in}
use Rattle.dg_level.proofs.FlatCounts.{filled_weight}
use Rattle.dg_level.proofs.flat_rows.Flats.filled.Goals as goal

pub invariant_of-result : goal.invariant_of-result
invariant_of-result c = c.self.invariant ∙ sym (filled_weight c.self.inside.objects.items) ∙ ap weight_in (sym c.with_pairs-objects.ensures)
