use Rattle.std.proofs.Common.{◌≡◌, length}
use Rattle.dg_group.specs.Stands.{IsInStep, records_above}
use Rattle.dg_node.proofs.current.bring_up.Given as goal

abbrev pub invariant-loop-rec : goal.invariant-loop-rec
invariant-loop-rec l = IsInStep l.group l.zero.history × (l.group.number ≡ l.fn.group.number)

abbrev pub decreases-loop-rec : goal.decreases-loop-rec
decreases-loop-rec l = length (records_above l.zero.history l.group.last)
