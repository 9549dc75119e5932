use Rattle.std.proofs.Common.{◌≡◌, take}
use Rattle.dg_node.proofs.current.shared.Given as goal

abbrev pub invariant-loop-group : goal.invariant-loop-group
invariant-loop-group l = l.pins.items ≡ take l.group-index l.groups
