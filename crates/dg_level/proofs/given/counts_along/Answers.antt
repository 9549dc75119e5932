use Rattle.std.proofs.Common.{ℕ, ◌<◌, length, rules, arith}
use Rattle.std.specs.Prelude.{pos}
use Rattle.std.proofs.lemmas.List.{map_more}
use Rattle.dg_values.specs.declared.value.Value.TheVariants as kinds
use Rattle.dg_funcs.specs.Truth.{count_along}
use Rattle.dg_level.proofs.given.counts_along.Goals as goal

pub loop-node-preserved : goal.loop-node-preserved
loop-node-preserved g c =
    let f = λ (n : ℕ). kinds.Int (pos (count_along (g.S.Snapshot.graph c.args.snap.now) c.args.edge.now n)) in
    let lt : c.loop-node.node-index < length c.args.nodes.now = omega (arith, c.loop-node-test.true) in
    search (rules, map_more f c.args.nodes.now c.loop-node.node-index 0 lt)
