use Rattle.std.proofs.Common.{◌≡◌, map}
use Rattle.dg_zero.specs.Places.{groups}
use Rattle.dg_node.specs.Owning.{new_group}
use Rattle.dg_node.proofs.current.new_groups.Given as goal

abbrev pub invariant-loop-before : goal.invariant-loop-before
invariant-loop-before l = l.made.items ≡ map new_group (groups l.before)
