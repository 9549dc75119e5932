use Rattle.std.proofs.Common.{true}
use Rattle.dg_level.specs.Looping.{planned_pieces, pieces_by}
use Rattle.dg_level.specs.Reaching.{is_near, AreSteps}
use Rattle.dg_level.proofs.ReachLaws.{Spread, Nearer}
use Rattle.dg_level.proofs.reaching.reached.Given as goal

-- all so many edges away are found, all but the new ones are near, and of those that are near was fetched
abbrev pub invariant-loop-round : goal.invariant-loop-round
invariant-loop-round g l =
    let graph = g.S.Snapshot.graph l.snap in
    let pieces = planned_pieces true (g.S.Snapshot.declared l.snap) graph l.vars.variables l.fields l.kept in
    Spread (pieces_by pieces) l.roots l._round l.set l.fresh
    × Nearer (pieces_by pieces) l.roots l._round l.set l.fresh (is_near l.steps.items)
    × AreSteps graph l.vars.variables pieces l.steps.items
