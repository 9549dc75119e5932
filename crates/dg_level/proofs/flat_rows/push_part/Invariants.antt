use Rattle.std.proofs.Common.{◌≡◌, ◌+◌, ◌++◌, take}
use Rattle.std.specs.Prelude.{map}
use Rattle.dg_shape.specs.Normalize.{joined}
use Rattle.dg_level.specs.Flats.{weight_in}
use Rattle.dg_level.proofs.flat_rows.push_part.Given as goal

abbrev pub invariant-loop-other : goal.invariant-loop-other
invariant-loop-other l = (l.out.items ≡ l.initial.out.items ++ map (joined l.object) (take l.other-index l.others)) × (l.left + weight_in (map (joined l.object) (take l.other-index l.others)) ≡ l.room)
