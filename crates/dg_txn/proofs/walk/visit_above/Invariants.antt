use Rattle.std.proofs.Common.{◌≤◌, length}
use Rattle.dg_keys.specs.Keys.{key_cmp}
use Rattle.dg_pages.specs.Entries.{entries_above}
use Rattle.dg_txn.proofs.StoredWalk.{IsOnWay}
use Rattle.dg_txn.proofs.walk.visit_above.Given as goal

abbrev pub invariant-loop-last : goal.invariant-loop-last
invariant-loop-last g l = IsOnWay l.span l.at l.gains l.store l.initial.found.items l.start l.after l.found.items × (l.initial.reads ≤ l.reads)

abbrev pub decreases-loop-last : goal.decreases-loop-last
decreases-loop-last g l = length (entries_above key_cmp l.after l.store)
