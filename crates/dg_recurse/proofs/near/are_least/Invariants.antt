use Rattle.std.proofs.Common.{◌≡◌, ℕ, ◌<◌, true}
use Rattle.dg_recurse.specs.Near.{is_least}
use Rattle.dg_recurse.proofs.near.are_least.Given as goal

-- so of all places so far
abbrev pub invariant-loop-place : goal.invariant-loop-place
invariant-loop-place l = (place : ℕ) → place < l.place → is_least l.near l.columns place ≡ true
