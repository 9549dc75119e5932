use Rattle.std.proofs.Common.{◌≡◌, fold, take}
use Rattle.std.specs.Prelude.{replicate}
use Rattle.dg_graph.specs.Graphs.{IsLawful}
use Rattle.dg_level.specs.Given.{unknown}
use Rattle.dg_level.specs.PlannedGiven.{planned_at_place}
use Rattle.dg_level.proofs.variables.variables_in_order.Given as goal

-- what they stand for once the blocks so far have run
abbrev pub invariant-loop-at : goal.invariant-loop-at
invariant-loop-at g l =
    let schema = g.S.Snapshot.declared l.snap in
    let graph = g.S.Snapshot.graph l.snap in
    IsLawful schema graph → l.vars.variables ≡ fold (planned_at_place schema graph l.blocks l.kept) (replicate l.fn.count unknown) (take l.at-index l.order)
