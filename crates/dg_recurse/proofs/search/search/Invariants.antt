use Rattle.dg_recurse.specs.Ways.{IsKept}
use Rattle.dg_recurse.proofs.search.search.Given as goal

-- what was learned is so
abbrev pub invariant-loop-step : goal.invariant-loop-step
invariant-loop-step l = IsKept l.columns l.initial.way l.way
