use Rattle.std.proofs.Common.{◌≡◌, take}
use Rattle.std.specs.Prelude.{map}
use Rattle.dg_shape.proofs.ordering.without_values.Given as goal

abbrev pub invariant-loop-valued : goal.invariant-loop-valued
invariant-loop-valued l = l.out.items ≡ map (λ valued. valued.0) (take l.valued-index l.all)
