use Rattle.std.proofs.Common.{◌≤◌, length, sym, ◌∙◌, arith}
use Rattle.std.specs.List.{list_any}
use Rattle.dg_graph.specs.Graphs.{objects}
use Rattle.dg_graph.specs.Lookups.{holders}
use Rattle.dg_graph.proofs.LookUpLaws.{holders_ascend}
use Rattle.dg_funcs.specs.Tests.{is_node}
use Rattle.dg_funcs.proofs.IndexLaws.{gathered_is, where_is_filter}
use Rattle.dg_funcs.proofs.following.subjects_by_search.Goals as goal

pub returns : goal.returns
returns g c =
    let graph = g.S.Snapshot.graph c.args.snap.now in
    let p = c.args.p.now in
    let xs = c.as_slice-subject-items.result.now in
    let i = c.loop-subject.subject-index in
    let past : length xs ≤ i = omega (arith, c.loop-subject-test.false) in
    c.gathered.ensures.nodes
    ∙ (gathered_is (λ n. list_any (is_node c.args.node) (objects graph p n)) c.loop-subject.found.items xs (holders graph p) i
    c.loop-subject.invariant past (c.as_slice-subject-items.ensures.items ∙ c.in_ok-all.ensures.nodes) (holders_ascend graph p)
    ∙ sym (where_is_filter graph p (is_node c.args.node)))
