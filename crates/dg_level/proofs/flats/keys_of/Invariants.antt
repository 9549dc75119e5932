use Rattle.std.proofs.Common.{take}
use Rattle.std.specs.Prelude.{map}
use Rattle.std.specs.Arc.{arc_value}
use Rattle.dg_level.specs.Flats.{HasKeys}
use Rattle.dg_level.proofs.flats.keys_of.Given as goal

abbrev pub invariant-loop-pair : goal.invariant-loop-pair
invariant-loop-pair l = HasKeys l.keys (map arc_value (take l.pair-index l.pairs))
