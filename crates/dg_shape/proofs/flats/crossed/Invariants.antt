use Rattle.std.proofs.Common.{◌≡◌, take, flat_map}
use Rattle.std.specs.Prelude.{map}
use Rattle.dg_shape.specs.Normalize.{joined}
use Rattle.dg_shape.proofs.flats.crossed.Given as goal

abbrev pub invariant-loop-object : goal.invariant-loop-object
invariant-loop-object l = l.out.items ≡ flat_map (λ object. map (joined object) l.others) (take l.object-index l.objects)
