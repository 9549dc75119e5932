use Rattle.std.proofs.Common.{◌≡◌, map, take}
use Rattle.std.specs.Ordering.{nat_cmp}
use Rattle.dg_values.specs.Ascending.{ascending}
use Rattle.dg_funcs.specs.Truth.{nodes_along}
use Rattle.dg_level.proofs.lists.sets_along.Given as goal

abbrev pub invariant-loop-node : goal.invariant-loop-node
invariant-loop-node g l = l.lists.items ≡ map (λ n. ascending nat_cmp (nodes_along (g.S.Snapshot.graph l.snap) l.edge n)) (take l.node-index l.nodes)
