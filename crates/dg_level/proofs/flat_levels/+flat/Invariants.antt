use Rattle.std.proofs.Common.{◌≡◌, ◌≤◌, map, take, drop}
use Rattle.std.specs.Vec.Iter.{into_iter_items}
use Rattle.std.specs.Prelude.{sum_by}
use Rattle.dg_level.specs.Flats.{weight_in}
use Rattle.dg_level.specs.Left.{AreLeft}
use Rattle.dg_level.specs.FlatLevels.{behind_fields}
use Rattle.dg_level.proofs.flat_levels.+flat.Given as goal

-- the objects behind the fields so far, how many bytes they take, and what is known under the fields behind
abbrev pub invariant-behind_fields-loop-place : goal.invariant-behind_fields-loop-place
invariant-behind_fields-loop-place g l =
    let schema = g.S.Snapshot.declared l.snap in
    let graph = g.S.Snapshot.graph l.snap in
    (AreLeft schema graph l.vars.variables l.fields l.kept l.nodes l.fn.left → l.made.items ≡ map (behind_fields schema graph l.vars.variables l.cascade (take l.place l.fields) (take l.place l.kept)) l.nodes)
    × (sum_by weight_in l.made.items ≤ 16777216)
    × (into_iter_items l.known ≡ drop l.place l.fn.left)
