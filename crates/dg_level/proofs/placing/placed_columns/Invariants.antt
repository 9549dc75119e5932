use Rattle.std.proofs.Common.{List, [], take}
use Rattle.dg_level.specs.Looping.{PieceOf, AreFetched}
use Rattle.dg_level.specs.Placing.{ArePlaced}
use Rattle.dg_level.specs.Reaching.{is_near, AreSteps}
use Rattle.dg_level.proofs.placing.placed_columns.Given as goal

abbrev pub invariant-loop-field : goal.invariant-loop-field
invariant-loop-field g l =
    let graph = g.S.Snapshot.graph l.snap in
    let vars = l.vars.variables in
    (pieces : List PieceOf) → AreSteps graph vars pieces l.found.steps.items → AreFetched graph vars [] l.all pieces → ArePlaced (is_near l.found.steps.items) l.found.set l.columns.items (take l.field pieces)
