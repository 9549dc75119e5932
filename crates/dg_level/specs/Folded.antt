-- What aggregates give of values, found once for all of them.
use Rattle.std.specs.Prelude.{List, flat_map, reverse}
use Rattle.dg_values.specs.declared.value.Value.{Value}
use Rattle.dg_values.specs.Ascending.{ascending}
use Rattle.dg_values.specs.Order.{value_cmp}
use Rattle.dg_check.specs.declared.vars.Variable.{Variable}
use Rattle.dg_level.specs.declared.folds.Found.{Found}
use Rattle.dg_level.specs.Aggregates.{number_in, sum_of}
use Rattle.dg_level.specs.Lists.{first_value}

-- of values: the least, the greatest, and the sum of those that are numbers
abbrev pub found_in : List Value → Found
found_in values = record {
  least = first_value (ascending value_cmp values);
  greatest = first_value (reverse (ascending value_cmp values));
  sum = sum_of (flat_map number_in values);
}

-- of a variable
abbrev pub found_of : Variable → Found
found_of v = found_in v.values
