use Rattle.std.proofs.Common.{◌≡◌, map, take}
use Rattle.dg_level.specs.Folded.{found_of}
use Rattle.dg_level.proofs.folds.all_found.Given as goal

-- what was found so far
abbrev pub invariant-loop-variable : goal.invariant-loop-variable
invariant-loop-variable l = l.all.items ≡ map found_of (take l.variable-index l.variables)
