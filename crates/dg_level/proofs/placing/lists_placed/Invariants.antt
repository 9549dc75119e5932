use Rattle.std.proofs.Common.{◌≡◌, List, map, take}
use Rattle.std.specs.Prelude.{Some, slice_get}
use Rattle.dg_graph.specs.declared.change.Triple.{Triple}
use Rattle.dg_check.specs.declared.vars.Variable.{Variable}
use Rattle.dg_level.specs.Looping.{PieceOf}
use Rattle.dg_level.specs.Placing.{leads_from, AllPlaces}
use Rattle.dg_level.specs.Reaching.{is_near, AreSteps}
use Rattle.dg_level.proofs.placing.lists_placed.Given as goal

abbrev pub invariant-loop-node : goal.invariant-loop-node
invariant-loop-node l =
    (graph : List Triple) (vars : List Variable) (pieces : List PieceOf) (piece : PieceOf) → AreSteps graph vars pieces l.steps → slice_get pieces l.field ≡ Some piece
    → AllPlaces l.set (map (leads_from (is_near l.steps) piece) (take l.node-index l.set)) l.made.items
