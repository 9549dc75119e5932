use Rattle.std.proofs.Common.{◌≤◌}
use Rattle.table_zero.proofs.bench.oracle.clear_keys.Given as goal

abbrev pub invariant-loop-number : goal.invariant-loop-number
invariant-loop-number l = l.clear ≤ l.number
