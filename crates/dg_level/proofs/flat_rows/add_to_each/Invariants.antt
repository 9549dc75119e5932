use Rattle.std.proofs.Common.{◌≡◌, ◌+◌, ◌++◌, take, drop}
use Rattle.std.specs.Prelude.{map}
use Rattle.std.specs.Arc.{arc_value}
use Rattle.dg_shape.specs.Normalize.{with_pair}
use Rattle.dg_level.specs.Flats.{weight_in}
use Rattle.dg_level.proofs.flat_rows.add_to_each.Given as goal

abbrev pub invariant-loop-i : goal.invariant-loop-i
invariant-loop-i l =
    (l.objects ≡ map (λ object. with_pair object (arc_value l.pair)) (take l.i l.initial.objects) ++ drop l.i l.initial.objects)
    × (l.left + weight_in (map (λ object. with_pair object (arc_value l.pair)) (take l.i l.initial.objects)) ≡ l.room)
