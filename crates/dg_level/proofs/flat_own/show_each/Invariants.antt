use Rattle.std.proofs.Common.{◌≡◌, ◌≤◌, map, take}
use Rattle.std.specs.Prelude.{sum_by}
use Rattle.dg_parse.specs.declared.query.QItem.TheViews.{out-QItem}
use Rattle.dg_check.specs.declared.parts.Item.TheViews.{out-Item}
use Rattle.dg_level.specs.Known.{KnowsItem}
use Rattle.dg_level.specs.Flats.{weight_in}
use Rattle.dg_level.specs.FlatLevels.{FlatsOf, changed, own_trees, with_trees}
use Rattle.dg_level.proofs.flat_own.show_each.Given as goal

-- the objects of the nodes so far, and how many bytes they take
abbrev pub invariant-loop-place : goal.invariant-loop-place
invariant-loop-place g l =
    let schema = g.S.Snapshot.declared l.snap in
    let graph = g.S.Snapshot.graph l.snap in
    (KnowsItem graph l.item l.left → (f : FlatsOf) → l.initial.made ≡ map f l.nodes → l.made ≡ changed (λ n. with_trees l.key (own_trees schema graph l.vars.variables (out-QItem l.item) (out-Item l.kept) n) (f n)) f l.place l.nodes)
    × (l.used ≡ sum_by weight_in (take l.place l.made))
    × (l.used ≤ 16777216)
