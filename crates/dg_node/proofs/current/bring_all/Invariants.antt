use Rattle.dg_node.proofs.Bringing.{AreBrought}
use Rattle.dg_node.proofs.current.bring_all.Given as goal

abbrev pub invariant-loop-group : goal.invariant-loop-group
invariant-loop-group l = AreBrought l.zero.history l.initial.group-items l.group-items l.group-index
