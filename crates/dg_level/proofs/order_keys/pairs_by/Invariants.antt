use Rattle.std.proofs.Common.{◌≡◌, take}
use Rattle.std.specs.Prelude.{filter, filter_map, is_some}
use Rattle.dg_level.specs.Planned.{value_by}
use Rattle.dg_level.proofs.order_keys.pairs_by.Given as goal

abbrev pub invariant-loop-node : goal.invariant-loop-node
invariant-loop-node g l =
    (l.pairs.nodes.items ≡ filter (λ n. is_some (value_by (g.S.Snapshot.graph l.snap) l.vars.variables l.key n)) (take l.node-index l.nodes))
    × (l.pairs.values.items ≡ filter_map (value_by (g.S.Snapshot.graph l.snap) l.vars.variables l.key) (take l.node-index l.nodes))
