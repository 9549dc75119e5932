use Rattle.std.proofs.Common.{◌≡◌, ℕ, ◌≤◌, List, map, flat_map, take}
use Rattle.std.specs.Prelude.{sum_by}
use Rattle.std.specs.Ordering.{nat_cmp}
use Rattle.dg_values.specs.Ascending.{ascending}
use Rattle.dg_shape.specs.Normalize.{times}
use Rattle.dg_level.specs.Flats.{weight_in}
use Rattle.dg_level.specs.FlatLevels.{FlatsOf, changed}
use Rattle.dg_level.proofs.flat_each.times_each.Given as goal

-- the objects of the nodes so far, and how many bytes they take
abbrev pub invariant-loop-place : goal.invariant-loop-place
invariant-loop-place l =
    ((g f : FlatsOf) (list : ℕ → List ℕ) (nodes : List ℕ) → l.initial.made ≡ map g nodes → l.lists ≡ map list nodes → l.level ≡ ascending nat_cmp (flat_map list nodes) → l.below ≡ map f l.level
    → l.made ≡ changed (λ n. times (g n) (flat_map f (list n))) g l.place nodes)
    × (l.used ≡ sum_by weight_in (take l.place l.made))
    × (l.used ≤ 16777216)
