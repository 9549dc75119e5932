use Rattle.std.proofs.Common.{◌≡◌, map, take}
use Rattle.std.specs.Prelude.{pos}
use Rattle.dg_values.specs.declared.value.Value.TheVariants as kinds
use Rattle.dg_funcs.specs.Truth.{count_along}
use Rattle.dg_level.proofs.given.counts_along.Given as goal

-- those so far
abbrev pub invariant-loop-node : goal.invariant-loop-node
invariant-loop-node g l = l.made.items ≡ map (λ n. kinds.Int (pos (count_along (g.S.Snapshot.graph l.snap) l.edge n))) (take l.node-index l.nodes)
