use Rattle.std.proofs.Common.{◌≡◌, take}
use Rattle.std.specs.Prelude.{filter}
use Rattle.std.specs.List.{list_any}
use Rattle.std.specs.Ordering.{nat_cmp}
use Rattle.dg_values.specs.Ascending.{has}
use Rattle.dg_funcs.specs.Truth.{nodes_along}
use Rattle.dg_funcs.proofs.held.held_leading.Given as goal

abbrev pub invariant-loop-node : goal.invariant-loop-node
invariant-loop-node g l = l.found.items ≡ filter (λ n. list_any (has nat_cmp l.ends) (nodes_along (g.S.Snapshot.graph l.snap) l.edge n)) (take l.node-index l.node-items)
