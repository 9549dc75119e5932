use Rattle.std.proofs.Common.{length, ◌-◌, ◌≡◌, ◌≤◌, true}
use Rattle.std.specs.List.{AllWithin}
use Rattle.std.specs.Ordering.{nat_cmp, is_lt}
use Rattle.dg_uids.proofs.sides.passed.Given as goal

abbrev pub invariant-loop-from : goal.invariant-loop-from
invariant-loop-from l = record {
  within : l.from ≤ length l.uids;
  below : AllWithin (λ y. is_lt (nat_cmp y l.uid) ≡ true) l.uids 0 l.from;
}

abbrev pub decreases-loop-from : goal.decreases-loop-from
decreases-loop-from l = length l.uids - l.from
