use Rattle.std.proofs.Common.{◌≡◌, take}
use Rattle.dg_level.proofs.known.copied_values.Given as goal

-- those so far
abbrev pub invariant-loop-value : goal.invariant-loop-value
invariant-loop-value l = l.made.items ≡ take l.value-index l.values
