use Rattle.std.proofs.Common.{◌<◌, ◌++◌, length, ap, ◌∙◌, arith}
use Rattle.std.specs.Prelude.{option_to_list}
use Rattle.dg_graph.specs.Lookups.{node_in}
use Rattle.dg_funcs.proofs.RootLaws.{one_more_of}
use Rattle.dg_funcs.proofs.roots.nodes_among.Goals as goal

pub loop-object-preserved : goal.loop-object-preserved
loop-object-preserved c =
    let i = c.loop-object.object-index in
    let lt : i < length c.args.objects.now = omega (arith, c.loop-object-test.true) in
    c.in_ok-add_node.ensures ∙ (ap (λ ys. ys ++ option_to_list (node_in c.object-item.result)) c.loop-object.invariant
    ∙ one_more_of node_in c.args.objects.now i c.object-item.result lt c.object-item.is)
