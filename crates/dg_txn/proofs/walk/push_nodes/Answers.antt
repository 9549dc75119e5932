use Rattle.std.proofs.Common.{◌<◌, ◌++◌, [], length, take, sym, ap, ◌∙◌, append_assoc, arith}
use Rattle.std.specs.Prelude.{filter_map}
use Rattle.std.specs.List.{cons_option}
use Rattle.dg_graph.specs.Lookups.{node_in}
use Rattle.dg_txn.proofs.FoundNodes.{nodes_more}
use Rattle.dg_txn.proofs.walk.push_nodes.Goals as goal

pub loop-posting-preserved : goal.loop-posting-preserved
loop-posting-preserved c =
    let xs = c.args.list.now in
    let i = c.loop-posting.posting-index in
    let x = c.posting-item.result in
    let before = c.args.found.now.items in
    let lt : i < length xs = omega (arith, c.loop-posting-test.true) in
    c.in_ok-push_node.ensures
    ∙ (ap (λ ys. ys ++ cons_option (node_in x) []) c.loop-posting.invariant
    ∙ (append_assoc before (filter_map node_in (take i xs)) (cons_option (node_in x) []) ∙ ap (λ ys. before ++ ys) (sym (nodes_more xs i x lt c.posting-item.is))))
