use Rattle.std.proofs.Common.{◌≡◌, ◌++◌, drop}
use Rattle.dg_check.specs.RunOrder.{blocks_under}
use Rattle.dg_check.specs.Numbers.{suspects_from}
use Rattle.dg_check.proofs.suspects.used_alike.Given as goal

-- what was found, and what is found in what is left
abbrev pub invariant-loop-at : goal.invariant-loop-at
invariant-loop-at l = l.names ++ suspects_from l.numbers (blocks_under l.under) l.at (drop l.at l.blocks) ≡ suspects_from l.numbers (blocks_under l.under) 0 l.blocks
