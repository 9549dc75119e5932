use Rattle.std.proofs.Common.{◌≤◌, flat_map, length, ◌∙◌, arith}
use Rattle.std.specs.Prelude.{filter_map}
use Rattle.std.specs.Ordering.{nat_cmp}
use Rattle.std.proofs.lemmas.List.{take_all}
use Rattle.dg_values.specs.Ascending.{ascending}
use Rattle.dg_graph.specs.Graphs.{objects}
use Rattle.dg_graph.specs.Lookups.{node_in}
use Rattle.dg_funcs.proofs.RootLaws.{ends_are}
use Rattle.dg_funcs.proofs.roots.pointed_to.Goals as goal

pub returns : goal.returns
returns g c =
    let graph = g.S.Snapshot.graph c.args.snap.now in
    let p = c.args.p.now in
    let xs = c.as_slice-subject-items.result.now in
    let i = c.loop-subject.subject-index in
    let past : length xs ≤ i = omega (arith, c.loop-subject-test.false) in
    c.gathered.ensures.nodes
    ∙ ((λ j. ascending nat_cmp (c.loop-subject.invariant j))
    ∙ ((λ j. ascending nat_cmp (flat_map (λ n. filter_map node_in (objects graph p n)) ((take_all i xs past ∙ (c.as_slice-subject-items.ensures.items ∙ c.in_ok-all.ensures.nodes)) j)))
    ∙ ends_are graph p))
