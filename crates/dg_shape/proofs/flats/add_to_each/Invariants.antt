use Rattle.std.proofs.Common.{◌≡◌, ◌++◌, take, drop}
use Rattle.std.specs.Prelude.{map}
use Rattle.dg_shape.specs.Normalize.{with_pair}
use Rattle.dg_shape.proofs.flats.add_to_each.Given as goal

abbrev pub invariant-loop-i : goal.invariant-loop-i
invariant-loop-i l = l.objects ≡ map (λ object. with_pair object l.pair) (take l.i l.initial.objects) ++ drop l.i l.initial.objects
