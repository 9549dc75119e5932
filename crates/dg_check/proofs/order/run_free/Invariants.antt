use Rattle.std.proofs.Common.{◌≡◌, [], true}
use Rattle.dg_check.specs.RunOrder.{are_ready}
use Rattle.dg_check.proofs.order.run_free.Given as goal

abbrev pub invariant-loop-turn : goal.invariant-loop-turn
invariant-loop-turn l = are_ready l.deps [] l.ran ≡ true
