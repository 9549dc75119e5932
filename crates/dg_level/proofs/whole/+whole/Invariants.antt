use Rattle.std.proofs.Common.{◌≡◌, drop, length}
use Rattle.std.specs.Prelude.{filter}
use Rattle.dg_level.specs.Planned.{planned_there}
use Rattle.dg_level.specs.Left.{AreLeft}
use Rattle.dg_level.proofs.whole.+whole.Given as goal

-- what the fields behind leave of these is what all leave, and what is known of them under those so far is so
abbrev pub invariant-whole_nodes-loop-place : goal.invariant-whole_nodes-loop-place
invariant-whole_nodes-loop-place g l =
    let schema = g.S.Snapshot.declared l.snap in
    let graph = g.S.Snapshot.graph l.snap in
    let vars = l.vars.variables in
    (filter (planned_there schema graph vars (drop l.place l.fields) (drop l.place l.kept)) l.left ≡ filter (planned_there schema graph vars l.fields l.kept) l.fn.nodes)
    × AreLeft schema graph vars l.fields l.kept l.left l.inside
    × (length l.inside ≡ l.place)
