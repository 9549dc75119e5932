use Rattle.std.proofs.Common.{◌≡◌, take}
use Rattle.std.specs.Prelude.{map}
use Rattle.std.specs.Arc.{arc_value}
use Rattle.dg_shape.specs.Normalize.{joined}
use Rattle.dg_level.proofs.flats.Flat.join.Given as goal

abbrev pub invariant-loop-pair : goal.invariant-loop-pair
invariant-loop-pair l = l.self ≡ joined l.initial.self (map arc_value (take l.pair-index l.pair-items))
