use Rattle.std.proofs.Common.{length, drop, ◌-◌, ◌+◌, ◌≡◌, ◌≤◌, ◌++◌}
use Rattle.dg_sets.proofs.Merges.{joined}
use Rattle.dg_delta.specs.Ops.{op_cmp}
use Rattle.dg_delta.proofs.merge.merge_ops.Given as goal

abbrev pub invariant-loop-old : goal.invariant-loop-old
invariant-loop-old l = record {
  old_in : l.old ≤ length l.older;
  new_in : l.new ≤ length l.newer;
  so_far : l.merged.items ++ joined op_cmp (drop l.old l.older) (drop l.new l.newer) ≡ joined op_cmp l.older l.newer;
}

abbrev pub decreases-loop-old : goal.decreases-loop-old
decreases-loop-old l = (length l.older - l.old) + (length l.newer - l.new)
