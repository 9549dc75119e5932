use Rattle.std.proofs.Common.{◌≡◌, ◌≤◌, take, drop}
use Rattle.std.specs.Vec.Iter.{into_iter_items}
use Rattle.dg_level.specs.Columns.{AreShown}
use Rattle.dg_level.specs.Left.{AreLeft}
use Rattle.dg_level.specs.Levels.{all_trees, all_fields, all_bytes}
use Rattle.dg_level.proofs.columns.+level.Given as goal

-- a column for each field so far, what is used of the limit, and what is known under the fields behind
abbrev pub invariant-columns_of-loop-place : goal.invariant-columns_of-loop-place
invariant-columns_of-loop-place g l =
    let schema = g.S.Snapshot.declared l.snap in
    let graph = g.S.Snapshot.graph l.snap in
    let vars = l.vars.variables in
    (AreLeft schema graph vars l.fields l.kept l.nodes l.fn.left
    → AreShown graph vars l.nodes l.columns.items (take l.place (all_fields schema graph vars l.cascade l.fields l.kept))
    × (l.used ≤ all_bytes (take l.place (all_trees schema graph vars l.cascade l.fields l.kept)) l.nodes))
    × (l.used ≤ l.limit)
    × (into_iter_items l.known ≡ drop l.place l.fn.left)
