use Rattle.std.proofs.Common.{◌≡◌}
use Rattle.std.specs.Prelude.{replicate}
use Rattle.dg_level.specs.Given.{unknown}
use Rattle.dg_level.proofs.variables.all_unknown.Given as goal

-- so many so far
abbrev pub invariant-loop-made : goal.invariant-loop-made
invariant-loop-made l = l.made.items ≡ replicate l._made unknown
