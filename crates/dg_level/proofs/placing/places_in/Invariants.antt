use Rattle.std.proofs.Common.{take}
use Rattle.dg_level.specs.Placing.{ArePlaces}
use Rattle.dg_level.proofs.placing.places_in.Given as goal

abbrev pub invariant-loop-node : goal.invariant-loop-node
invariant-loop-node l = ArePlaces l.set (take l.node-index l.nodes) l.places
