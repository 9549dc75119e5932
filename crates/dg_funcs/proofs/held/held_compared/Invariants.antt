use Rattle.std.proofs.Common.{◌≡◌, take}
use Rattle.std.specs.Prelude.{filter}
use Rattle.std.specs.List.{list_any}
use Rattle.dg_funcs.specs.Truth.{stands_to_any, compared}
use Rattle.dg_funcs.proofs.held.held_compared.Given as goal

abbrev pub invariant-loop-node : goal.invariant-loop-node
invariant-loop-node g l = l.found.items ≡ filter (λ n. list_any (stands_to_any l.op l.values) (compared (g.S.Snapshot.graph l.snap) l.vars.variables l.of n)) (take l.node-index l.node-items)
