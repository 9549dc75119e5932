use Rattle.std.proofs.Common.{◌≡◌, take}
use Rattle.std.specs.Prelude.{map}
use Rattle.dg_zero.specs.Places.{fresh_place}
use Rattle.dg_zero.proofs.fresh.places_of.Given as goal

abbrev pub invariant-loop-tablet : goal.invariant-loop-tablet
invariant-loop-tablet l = l.places.items ≡ map fresh_place (take l.tablet-index l.tablets)
