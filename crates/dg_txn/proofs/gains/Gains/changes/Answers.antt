use Rattle.std.proofs.Common.{ap, ◌∙◌}
use Rattle.dg_pages.specs.Entries.{change_of, changes_of}
use Rattle.dg_txn.proofs.OwnSteps.{change_more}
use Rattle.dg_txn.proofs.gains.Gains.changes.Goals as goal

pub loop-part-preserved : goal.loop-part-preserved
loop-part-preserved c =
    ap changes_of c.in_ok-push.ensures.items
    ∙ change_more change_of c.args.self.now c.args.step.now c.loop-part.changes.items c.in_ok-change.field-0 c.loop-part.part-index c.part-item.result c.loop-part-test.true c.part-item.is c.loop-part.invariant c.in_ok-change.ensures
