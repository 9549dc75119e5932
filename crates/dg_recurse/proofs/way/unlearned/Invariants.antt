use Rattle.std.proofs.Common.{◌≡◌, ℕ, get_or}
use Rattle.dg_recurse.specs.Ways.{no_raise}
use Rattle.dg_recurse.proofs.way.unlearned.Given as goal

-- nothing is learned of any place so far
abbrev pub invariant-loop-place : goal.invariant-loop-place
invariant-loop-place l = (n : ℕ) → get_or l.raised.items n no_raise ≡ no_raise
