use Rattle.std.proofs.Common.{◌≡◌, ◌++◌, take, drop}
use Rattle.std.specs.Prelude.{map, filter}
use Rattle.dg_shape.specs.Normalize.{has_pair}
use Rattle.dg_level.proofs.flat_each.filled_each.Given as goal

abbrev pub invariant-loop-i : goal.invariant-loop-i
invariant-loop-i l = l.made ≡ map (filter has_pair) (take l.i l.initial.made) ++ drop l.i l.initial.made
