use Rattle.std.proofs.Common.{◌≡◌, drop}
use Rattle.dg_check.specs.Search.{with_new}
use Rattle.dg_check.proofs.search.add_new.Given as goal

-- what is left leads to the whole
abbrev pub invariant-loop-place : goal.invariant-loop-place
invariant-loop-place l = with_new l.found (drop l.place-index l.places) ≡ with_new l.initial.found l.places
