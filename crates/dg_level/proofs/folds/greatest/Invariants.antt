use Rattle.std.proofs.Common.{◌≡◌, take}
use Rattle.std.specs.Prelude.{option_copied, reverse}
use Rattle.dg_values.specs.Ascending.{ascending}
use Rattle.dg_values.specs.Order.{value_cmp}
use Rattle.dg_level.specs.Lists.{first_value}
use Rattle.dg_level.proofs.folds.greatest.Given as goal

-- the greatest so far
abbrev pub invariant-loop-value : goal.invariant-loop-value
invariant-loop-value l = option_copied l.greatest ≡ first_value (reverse (ascending value_cmp (take l.value-index l.values)))
