use Rattle.std.proofs.Common.{◌≤◌, length, ◌∙◌, arith}
use Rattle.std.specs.List.{list_any}
use Rattle.dg_funcs.specs.Tests.{has_asked}
use Rattle.dg_funcs.specs.Truth.{texts_at}
use Rattle.dg_funcs.proofs.IndexLaws.{gathered_is}
use Rattle.dg_funcs.proofs.held.held_terms.Goals as goal

pub returns : goal.returns
returns g c =
    let graph = g.S.Snapshot.graph c.args.snap.now in
    let xs = c.as_slice-node-items.result.now in
    let i = c.loop-node.node-index in
    let past : length xs ≤ i = omega (arith, c.loop-node-test.false) in
    c.gathered.ensures.nodes ∙ gathered_is (λ n. list_any (has_asked c.args.all c.args.asked.now) (texts_at graph c.args.p.now n)) c.loop-node.found.items xs c.args.nodes.now i
    c.loop-node.invariant past c.as_slice-node-items.ensures.items c.as_slice-node-items.ensures.ascend
