use Rattle.table_zero.specs.Mirrors.{IsMirror}
use Rattle.table_zero.proofs.bench.begins.pass.Given as goal

abbrev pub invariant-loop-turn : goal.invariant-loop-turn
invariant-loop-turn l = IsMirror l.mirror.zero l.mirror.at
