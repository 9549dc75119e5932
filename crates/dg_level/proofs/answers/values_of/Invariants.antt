use Rattle.std.proofs.Common.{◌≡◌, flat_map}
use Rattle.dg_level.specs.Answers.{value_of}
use Rattle.dg_level.proofs.answers.values_of.Given as goal

abbrev pub invariant-loop-object : goal.invariant-loop-object
invariant-loop-object l = l.values.items ≡ flat_map value_of l.yielded
