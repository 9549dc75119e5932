use Rattle.std.proofs.Common.{length, drop, ◌-◌, ◌+◌, ◌≡◌, ◌≤◌, ◌++◌}
use Rattle.dg_uids.specs.Sets.{either}
use Rattle.dg_uids.proofs.unions.merged.Given as goal

abbrev pub invariant-loop-beside : goal.invariant-loop-beside
invariant-loop-beside l = record {
  at_in : l.at ≤ length l.uids;
  beside_in : l.beside ≤ length l.others;
  so_far : l.list.items ++ either (drop l.at l.uids) (drop l.beside l.others) ≡ either l.uids l.others;
}

abbrev pub decreases-loop-beside : goal.decreases-loop-beside
decreases-loop-beside l = (length l.uids - l.at) + (length l.others - l.beside)
