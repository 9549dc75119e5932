use Rattle.std.proofs.Common.{◌≡◌, map, take}
use Rattle.dg_level.specs.OrderKeys.{compared_by, values_among}
use Rattle.dg_level.proofs.order_keys.key_values.Given as goal

abbrev pub invariant-loop-key : goal.invariant-loop-key
invariant-loop-key g l = l.made.items ≡ map (λ key. values_among (g.S.Snapshot.graph l.snap) l.vars.variables l.nodes (compared_by key)) (take l.key-index l.orders)
