use Rattle.std.proofs.Common.{◌≡◌, ◌++◌, length}
use Rattle.table_turn.proofs.visits.visit_often.Given as goal

abbrev pub invariant-loop : goal.invariant-loop
invariant-loop g l = record {
  turn : l.caller.turn ≡ l.fn.caller.turn;
  number : l.caller.number ≡ l.fn.caller.number;
  places : l.caller.mine ≡ l.fn.caller.mine ++ l.places.items;
  more : length l.places.items ≡ l.counter;
}
