use Rattle.std.proofs.Common.{◌≡◌, map}
use Rattle.dg_level.specs.Answers.{value_tree}
use Rattle.dg_level.proofs.answers.value_trees.Given as goal

abbrev pub invariant-loop-value : goal.invariant-loop-value
invariant-loop-value l = l.trees ≡ map value_tree l.yielded
