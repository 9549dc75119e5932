use Rattle.std.proofs.Common.{List}
use Rattle.dg_values.specs.Ascending.{Ascends, with_one}
use Rattle.dg_sets.proofs.Sets.{ascends_with, ascends_passed}
use Rattle.dg_graph.specs.Graphs.{triple_cmp}
use Rattle.dg_graph.specs.Subjects.{without_subject}
use Rattle.dg_graph.specs.declared.change.Triple.{Triple}
use Rattle.dg_graph.proofs.GraphLaws.{triple_order}
use Rattle.dg_graph.proofs.EitherWay.{either_way}
use Rattle.dg_graph.proofs.runs.put_alone.Goals as goal
use Rattle.std.proofs.Common.{◌≡◌, ◌∷◌, ◌++◌, take, drop, sym, rules}

pub returns-clause-ascends : goal.returns-clause-ascends
returns-clause-ascends c =
    let t : Triple = c.args.triple in
    let ts : List Triple = c.args.triples.now.items in
    let put : with_one triple_cmp (without_subject t.p t.s ts) t ≡ take c.run_of-first.result.0 ts ++ t ∷ drop c.run_of-first.result.1 ts = search (rules, c.run_of-first.ensures.run.replaced t.o) in
    either_way (Ascends triple_cmp) _ _ _ _ c.put_over.ensures.ok c.put_over.ensures.err
    (rw (sym put) (ascends_with triple_cmp triple_order (without_subject t.p t.s ts) t (ascends_passed triple_cmp triple_order _ ts c.requires.ascend)))
    c.requires.ascend
