use Rattle.dg_oracle.proofs.Views.{last_with_run}
use Rattle.dg_oracle.proofs.history.last_in.Goals as goal

pub loop-run-preserved : goal.loop-run-preserved
loop-run-preserved g c =
    rw c.later-last.ensures (last_with_run g.K.Ord.cmp c.args.start c.args.key.now c.args.runs.now c.loop-run.run-index c.run-item.result c.loop-run.last c.last.result c.loop-run-test.true c.run-item.is c.loop-run.invariant c.last.ensures)
