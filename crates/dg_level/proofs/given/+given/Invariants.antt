use Rattle.std.proofs.Common.{◌≡◌, ◌++◌, drop}
use Rattle.dg_level.specs.PlannedGiven.{planned_fields}
use Rattle.dg_level.proofs.given.+given.Given as goal

-- what is known so far and what the fields behind make known is the whole
abbrev pub invariant-push_given-loop-place : goal.invariant-push_given-loop-place
invariant-push_given-loop-place g l =
    let schema = g.S.Snapshot.declared l.snap in
    let graph = g.S.Snapshot.graph l.snap in
    let vars = l.vars.variables in
    l.out.items ++ planned_fields schema graph vars (drop l.place l.fields) (drop l.place l.kept) l.nodes ≡ l.initial.out.items ++ planned_fields schema graph vars l.fields l.kept l.nodes
