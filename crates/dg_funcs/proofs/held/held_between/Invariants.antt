use Rattle.std.proofs.Common.{◌≡◌, take}
use Rattle.std.specs.Prelude.{filter}
use Rattle.std.specs.List.{list_any}
use Rattle.dg_funcs.specs.Truth.{is_between, compared}
use Rattle.dg_funcs.proofs.held.held_between.Given as goal

abbrev pub invariant-loop-node : goal.invariant-loop-node
invariant-loop-node g l = l.found.items ≡ filter (λ n. list_any (is_between l.values) (compared (g.S.Snapshot.graph l.snap) l.vars.variables l.of n)) (take l.node-index l.node-items)
