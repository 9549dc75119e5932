use Rattle.std.proofs.Common.{◌≡◌, Bool, map, take}
use Rattle.std.specs.Prelude.{filter}
use Rattle.dg_level.specs.Answers.{values_shown}
use Rattle.dg_level.specs.Known.{values_by}
use Rattle.dg_level.specs.Shown.{some_trees}
use Rattle.dg_level.proofs.whole.nodes_read.Given as goal

-- those so far, and their values
abbrev pub invariant-loop-node : goal.invariant-loop-node
invariant-loop-node g l =
    let graph = g.S.Snapshot.graph l.snap in
    ((list : Bool) → l.found.items ≡ filter (λ n. some_trees (values_shown list (values_by graph l.pred n))) (take l.node-index l.node-items)) × (l.values ≡ map (values_by graph l.pred) l.found.items)
