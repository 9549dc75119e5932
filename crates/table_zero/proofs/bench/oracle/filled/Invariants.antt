use Rattle.std.proofs.Common.{◌≡◌}
use Rattle.table_zero.proofs.bench.oracle.filled.Given as goal

abbrev pub invariant-loop-number : goal.invariant-loop-number
invariant-loop-number l = l.oracle.line ≡ 0
