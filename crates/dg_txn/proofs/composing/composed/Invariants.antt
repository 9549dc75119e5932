use Rattle.std.proofs.Common.{◌+◌, ◌-◌, length}
use Rattle.dg_txn.proofs.ComposedOps.{IsPassing}
use Rattle.dg_txn.proofs.composing.composed.Given as goal

abbrev pub invariant-loop-before : goal.invariant-loop-before
invariant-loop-before l = IsPassing l.own l.step l.ops.items l.before l.after

abbrev pub decreases-loop-before : goal.decreases-loop-before
decreases-loop-before l = (length l.own - l.before) + (length l.step - l.after)
