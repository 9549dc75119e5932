use Rattle.std.proofs.Common.{◌≡◌, [], true}
use Rattle.dg_check.specs.RunOrder.{are_ready}
use Rattle.dg_check.proofs.order.run_in_turn.Given as goal

abbrev pub invariant-loop-at : goal.invariant-loop-at
invariant-loop-at l = are_ready l.deps [] l.ran ≡ true
