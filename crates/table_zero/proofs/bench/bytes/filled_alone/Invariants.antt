use Rattle.std.proofs.Common.{◌≡◌}
use Rattle.table_zero.proofs.bench.bytes.filled_alone.Given as goal

abbrev pub invariant-loop-turn : goal.invariant-loop-turn
invariant-loop-turn l = l.filled.line ≡ 0
