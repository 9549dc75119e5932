use Rattle.std.proofs.Common.{◌≡◌, length}
use Rattle.dg_check.proofs.numbers.numbers_of.Given as goal

abbrev pub invariant-loop-number : goal.invariant-loop-number
invariant-loop-number l = length l.numbers.items ≡ length l.deps
