use Rattle.std.proofs.Common.{◌≡◌, ℕ, ◌<◌, true}
use Rattle.dg_check.specs.Cycles.{is_place_in}
use Rattle.dg_check.proofs.order.have_all_run.Given as goal

abbrev pub invariant-loop-at : goal.invariant-loop-at
invariant-loop-at l = (k : ℕ) → k < l.at → is_place_in l.ran k ≡ true
