use Rattle.std.proofs.Common.{◌≡◌, ℕ, List, ◌++◌, drop}
use Rattle.dg_check.specs.Cycles.{definers_from, definers}
use Rattle.dg_check.specs.RunOrder.{blocks_under}
use Rattle.dg_check.proofs.needs.all_definers.Given as goal

-- what was found, and what is found in what is left
abbrev pub invariant-loop-at : goal.invariant-loop-at
invariant-loop-at l = (x : List ℕ) → blocks_under l.under x ++ definers_from x l.at (drop l.at l.blocks) ≡ definers l.blocks x
