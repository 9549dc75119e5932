use Rattle.std.proofs.Common.{◌≤◌}
use Rattle.std.specs.Prelude.{string_len}
use Rattle.table_text.proofs.bench.body.Given as goal

abbrev pub invariant-loop-number : goal.invariant-loop-number
invariant-loop-number l = string_len l.text ≤ 1048576
