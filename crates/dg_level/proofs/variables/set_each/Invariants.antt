use Rattle.std.proofs.Common.{◌≡◌, fold}
use Rattle.dg_level.specs.Given.{with_known}
use Rattle.dg_level.proofs.variables.set_each.Given as goal

-- those so far stand at their places
abbrev pub invariant-loop-place : goal.invariant-loop-place
invariant-loop-place l = l.variables.items ≡ fold with_known l.initial.variables.items l.yielded
