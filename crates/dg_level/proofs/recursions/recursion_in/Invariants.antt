use Rattle.std.proofs.Common.{◌≡◌, drop}
use Rattle.dg_level.specs.Recursions.{recursion_in}
use Rattle.dg_level.proofs.recursions.recursion_in.Given as goal

abbrev pub invariant-loop-dir : goal.invariant-loop-dir
invariant-loop-dir l = recursion_in (drop l.dir-index l.dirs) ≡ recursion_in l.dirs
