use Rattle.std.proofs.Common.{◌≡◌, take}
use Rattle.std.specs.Prelude.{map}
use Rattle.dg_check.specs.Vars.{value_beside}
use Rattle.dg_shape.proofs.ordering.with_values.Given as goal

abbrev pub invariant-loop-node : goal.invariant-loop-node
invariant-loop-node l = l.out.items ≡ map (λ n. (n, value_beside l.values.nodes l.values.values n)) (take l.node-index l.nodes)
