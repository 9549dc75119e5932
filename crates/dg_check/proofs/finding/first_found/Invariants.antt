use Rattle.std.proofs.Common.{◌≡◌, drop}
use Rattle.dg_check.specs.Places.{places_met}
use Rattle.dg_check.specs.Faults.{first_of}
use Rattle.dg_check.proofs.finding.first_found.Given as goal

-- what is left decides
abbrev pub invariant-loop-place : goal.invariant-loop-place
invariant-loop-place g l = first_of (g.C.Check.finds l.check) (places_met (drop l.place-index l.places)) ≡ first_of (g.C.Check.finds l.check) (places_met l.places)
