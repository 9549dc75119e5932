use Rattle.dg_check.proofs.SearchLaws.{IsFound}
use Rattle.dg_check.proofs.search.add_led.Given as goal

-- what was found so far, and that what the first so many need was
abbrev pub invariant-loop-i : goal.invariant-loop-i
invariant-loop-i l = IsFound l.deps l.initial.found l.found l.i
