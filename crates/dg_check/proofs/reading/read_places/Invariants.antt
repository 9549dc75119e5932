use Rattle.std.proofs.Common.{take}
use Rattle.dg_check.specs.Places.{places_met}
use Rattle.dg_check.specs.Patterns.{IsFrontOf}
use Rattle.dg_check.proofs.PlanLaws.{IsSoFar}
use Rattle.dg_check.proofs.reading.read_places.Given as goal

-- what is read of the places so far, and the list has only grown
abbrev pub invariant-loop-place : goal.invariant-loop-place
invariant-loop-place g l = record {
  so : IsSoFar l.literals.schema.now l.literals.variables (places_met (take l.place-index l.places)) l.out.items;
  grows : IsFrontOf (g.P.Patterns.refused l.fn.patterns) (g.P.Patterns.refused l.patterns);
}
