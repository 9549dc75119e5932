use Rattle.dg_graph.specs.Subjects.{IsRun}
use Rattle.dg_graph.proofs.SubjectRuns.{run}
use Rattle.dg_graph.proofs.runs.run_of.Goals as goal

pub returns : goal.returns
returns c =
    let r : IsRun c.args.p.now c.args.s c.args.triples.now c.first.result c.behind.result = run c.args.p.now c.args.s c.args.triples.now c.first.result c.behind.result c.first.ensures.within c.behind.ensures.within c.first.ensures.point.0 c.first.ensures.point.1 c.behind.ensures.point.0 c.behind.ensures.point.1 in
    record { order = r.order; within = r.within; run = r }
