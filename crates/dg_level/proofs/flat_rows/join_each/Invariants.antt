use Rattle.std.proofs.Common.{◌≡◌, ◌+◌, ◌++◌, take, drop}
use Rattle.std.specs.Prelude.{map}
use Rattle.dg_shape.specs.Normalize.{joined}
use Rattle.dg_level.specs.Flats.{weight_in}
use Rattle.dg_level.proofs.flat_rows.join_each.Given as goal

abbrev pub invariant-loop-i : goal.invariant-loop-i
invariant-loop-i l =
    (l.objects ≡ map (λ object. joined object l.more) (take l.i l.initial.objects) ++ drop l.i l.initial.objects)
    × (l.left + weight_in (map (λ object. joined object l.more) (take l.i l.initial.objects)) ≡ l.room)
