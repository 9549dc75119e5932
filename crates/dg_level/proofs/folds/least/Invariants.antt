use Rattle.std.proofs.Common.{◌≡◌, take}
use Rattle.std.specs.Prelude.{option_copied}
use Rattle.dg_values.specs.Ascending.{ascending}
use Rattle.dg_values.specs.Order.{value_cmp}
use Rattle.dg_level.specs.Lists.{first_value}
use Rattle.dg_level.proofs.folds.least.Given as goal

-- the least so far
abbrev pub invariant-loop-value : goal.invariant-loop-value
invariant-loop-value l = option_copied l.least ≡ first_value (ascending value_cmp (take l.value-index l.values))
