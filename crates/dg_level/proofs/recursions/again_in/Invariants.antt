use Rattle.std.proofs.Common.{◌≡◌, drop}
use Rattle.dg_level.specs.Recursions.{again_in}
use Rattle.dg_level.proofs.recursions.again_in.Given as goal

abbrev pub invariant-loop-option : goal.invariant-loop-option
invariant-loop-option l = again_in (drop l.option-index l.options) ≡ again_in l.options
