use Rattle.std.proofs.Common.{◌≡◌, ◌++◌}
use Rattle.std.specs.Prelude.{filter_map}
use Rattle.dg_funcs.specs.Truth.{value_in}
use Rattle.dg_funcs.proofs.equal.values_of.Given as goal

-- those so far, and those that are left, are all
abbrev pub invariant-loop-object : goal.invariant-loop-object
invariant-loop-object l = l.values.items ++ filter_map value_in l.object-iterator.rest.items ≡ filter_map value_in l.fn.objects.items
