use Rattle.std.proofs.Common.{◌≤◌, length, ◌∙◌, arith}
use Rattle.std.specs.Prelude.{is_some}
use Rattle.dg_check.specs.Vars.{value_at}
use Rattle.dg_funcs.proofs.IndexLaws.{gathered_is}
use Rattle.dg_level.proofs.whole.nodes_valued.Goals as goal

pub returns : goal.returns
returns c =
    let xs = c.as_slice-node-items.result.now in
    let i = c.loop-node.node-index in
    let past : length xs ≤ i = omega (arith, c.loop-node-test.false) in
    c.gathered.ensures.nodes ∙ gathered_is (λ n. is_some (value_at c.args.vars.now.variables c.args.place n)) c.loop-node.found.items xs c.args.nodes.now i c.loop-node.invariant past c.as_slice-node-items.ensures.items c.as_slice-node-items.ensures.ascend
