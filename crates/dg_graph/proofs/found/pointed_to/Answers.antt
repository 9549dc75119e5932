use Rattle.std.proofs.Common.{◌<◌, ◌∷◌, [], ◌++◌, length, sym, ap, ◌∙◌, arith}
use Rattle.dg_graph.specs.Lookups.{pointed_by}
use Rattle.dg_graph.proofs.Passing.{filter_map_some, filter_map_none}
use Rattle.dg_graph.proofs.found.pointed_to.Goals as goal
use Rattle.dg_graph.proofs.found.pointed_to.Goals.{in-Some+in_ok-push-in-Some, in-None}

pub loop-triple-preserved : goal.loop-triple-preserved
loop-triple-preserved c =
    let f = pointed_by c.args.p.now in
    let i = c.loop-triple.triple-index in
    let x = c.triple-item.result in
    let lt : i < length c.args.triples.now = omega (arith, c.loop-triple-test.true) in
    let it = ap f (sym c.triple-item.is) ∙ sym c.pointed_by.ensures in
    elim c.match-pointed_by.branch [
      | in-Some+in_ok-push-in-Some w ↦ rw w.found-is (w.in_ok-push-in-Some.ensures.items ∙ (ap (λ ys. ys ++ w.in-Some.n ∷ []) c.loop-triple.invariant ∙ sym (filter_map_some f c.args.triples.now i x w.in-Some.n lt (it ∙ w.in-Some.is))))
      | in-None w ↦ rw w.found-is (c.loop-triple.invariant ∙ sym (filter_map_none f c.args.triples.now i x lt (it ∙ w.in-None.is)))
    ]
