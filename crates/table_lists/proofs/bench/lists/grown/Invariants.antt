use Rattle.std.proofs.Common.{◌≡◌, ◌≤◌}
use Rattle.dg_list.specs.Lists.{newest_ts}
use Rattle.table_lists.proofs.bench.lists.grown.Given as goal

abbrev pub invariant-loop-before : goal.invariant-loop-before
invariant-loop-before l = (newest_ts l.list ≤ l.before) × (l.list.base_ts ≡ 0)
