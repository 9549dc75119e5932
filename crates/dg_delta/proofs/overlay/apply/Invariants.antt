use Rattle.std.proofs.Common.{length, drop, ◌-◌, ◌+◌, ◌≡◌, ◌≤◌, ◌++◌}
use Rattle.dg_delta.specs.Ops.{after_ops}
use Rattle.dg_delta.proofs.overlay.apply.Given as goal

abbrev pub invariant-loop-at : goal.invariant-loop-at
invariant-loop-at l = record {
  at_in : l.at ≤ length l.postings;
  done_in : l.done ≤ length l.ops;
  so_far : l.list.items ++ after_ops (drop l.at l.postings) (drop l.done l.ops) ≡ after_ops l.postings l.ops;
}

abbrev pub decreases-loop-at : goal.decreases-loop-at
decreases-loop-at l = (length l.postings - l.at) + (length l.ops - l.done)
