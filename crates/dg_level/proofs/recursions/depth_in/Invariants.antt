use Rattle.std.proofs.Common.{◌≡◌, drop}
use Rattle.dg_level.specs.Recursions.{depth_in}
use Rattle.dg_level.proofs.recursions.depth_in.Given as goal

abbrev pub invariant-loop-option : goal.invariant-loop-option
invariant-loop-option l = depth_in (drop l.option-index l.options) ≡ depth_in l.options
