use Rattle.std.proofs.Common.{◌≤◌}
use Rattle.std.specs.Prelude.{option_copied}
use Rattle.dg_txn.specs.Own.{seen}
use Rattle.dg_txn.specs.Walks.{part_keys, changed_lists}
use Rattle.dg_txn.proofs.Walking.{Walked, left_from}
use Rattle.dg_txn.proofs.walk.own_shown.Given as goal

abbrev pub invariant-loop-next : goal.invariant-loop-next
invariant-loop-next g l = Walked l.span (changed_lists (seen l.base.schema l.base.graph l.gains) l.gains) (part_keys l.gains) (option_copied l.next) l.found.items × (l.initial.reads ≤ l.reads)

abbrev pub decreases-loop-next : goal.decreases-loop-next
decreases-loop-next g l = left_from (part_keys l.gains) (option_copied l.next)
