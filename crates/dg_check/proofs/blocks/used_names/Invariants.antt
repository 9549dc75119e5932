use Rattle.std.proofs.Common.{◌≡◌, map, take}
use Rattle.dg_check.specs.Variables.{uses_met}
use Rattle.dg_check.proofs.blocks.used_names.Given as goal

abbrev pub invariant-loop-used : goal.invariant-loop-used
invariant-loop-used l = l.names ≡ map (λ u. u.name) (uses_met (take l.used-index l.uses))
