use Rattle.table_zero.specs.Mirrors.{IsBare}
use Rattle.table_zero.proofs.bench.alters.alter_each.Given as goal

abbrev pub invariant-loop-turn : goal.invariant-loop-turn
invariant-loop-turn g l = IsBare l.zero
