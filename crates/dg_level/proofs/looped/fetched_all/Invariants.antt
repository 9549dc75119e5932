use Rattle.std.proofs.Common.{take}
use Rattle.dg_level.specs.Looping.{planned_pieces, AreFetched}
use Rattle.dg_level.proofs.looped.fetched_all.Given as goal

abbrev pub invariant-loop-place : goal.invariant-loop-place
invariant-loop-place g l =
    AreFetched (g.S.Snapshot.graph l.snap) l.vars.variables l.nodes l.all.items (take l.place (planned_pieces l.further (g.S.Snapshot.declared l.snap) (g.S.Snapshot.graph l.snap) l.vars.variables l.fields l.kept))
