use Rattle.std.proofs.Common.{◌≡◌, drop}
use Rattle.dg_check.specs.Numbers.{are_falling}
use Rattle.dg_check.proofs.suspects.are_falling.Given as goal

-- what is left decides
abbrev pub invariant-loop-at : goal.invariant-loop-at
invariant-loop-at l = are_falling l.numbers l.at (drop l.at l.deps) ≡ are_falling l.numbers 0 l.deps
