use Rattle.std.proofs.Common.{sym, ◌∙◌}
use Rattle.std.specs.Prelude.{filter_map, if◌then◌else◌}
use Rattle.std.specs.List.{list_any}
use Rattle.std.specs.Ordering.{nat_cmp}
use Rattle.dg_values.specs.Ascending.{has}
use Rattle.dg_values.specs.declared.value.Posting.TheVariants.{Uid}
use Rattle.dg_graph.specs.Graphs.{objects}
use Rattle.dg_graph.specs.Lookups.{node_in, subjects_of}
use Rattle.dg_funcs.specs.Tests.{is_node_among}
use Rattle.dg_funcs.proofs.TestLaws.{any_nodes}
use Rattle.dg_funcs.proofs.following.leads_to.Goals as goal

pub returns-in_ok-objects : goal.returns-in_ok-objects
returns-in_ok-objects g c =
    let graph = g.S.Snapshot.graph c.args.snap.now in
    let edge = c.args.edge.now in
    let nodes = c.args.nodes.now in
    let back = sym c.if-edge.false in
    let e = c.as_slice-else-edge.ensures.value ∙ (c.in_ok-objects.ensures.items ∙ λ i. objects graph (c.as_str-else-edge.ensures i) c.args.node) in
    c.any_object_among.ensures ∙ ((λ i. list_any (is_node_among nodes) (e i))
    ∙ (any_nodes nodes (objects graph edge.pred c.args.node)
    ∙ λ i. list_any (has nat_cmp nodes) (if back i then subjects_of graph edge.pred (Uid c.args.node) else filter_map node_in (objects graph edge.pred c.args.node))))
