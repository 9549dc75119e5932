use Rattle.std.proofs.Common.{◌≡◌, take}
use Rattle.std.specs.Prelude.{filter, nat_le}
use Rattle.dg_funcs.specs.Truth.{count_along}
use Rattle.dg_funcs.proofs.held.held_with.Given as goal

abbrev pub invariant-loop-node : goal.invariant-loop-node
invariant-loop-node g l = l.found.items ≡ filter (λ n. nat_le 1 (count_along (g.S.Snapshot.graph l.snap) l.edge n)) (take l.node-index l.node-items)
