use Rattle.std.proofs.Common.{◌≡◌, ℕ, ◌+◌, ◌*◌, List, map, flat_map, take, length}
use Rattle.std.specs.Prelude.{sum_by}
use Rattle.std.specs.Ordering.{nat_cmp}
use Rattle.dg_values.specs.Ascending.{ascending}
use Rattle.dg_level.specs.Flats.{weight_in}
use Rattle.dg_level.specs.FlatLevels.{FlatsOf}
use Rattle.dg_level.proofs.flat_room.check_room.Given as goal

-- the room that is left behind the nodes so far
abbrev pub invariant-loop-place : goal.invariant-loop-place
invariant-loop-place l = (g f : FlatsOf) (list : ℕ → List ℕ) (nodes : List ℕ) → l.made ≡ map g nodes → l.lists ≡ map list nodes → l.level ≡ ascending nat_cmp (flat_map list nodes) → l.below ≡ map f l.level
    → l.left + sum_by (λ n. length (g n) * weight_in (flat_map f (list n))) (take l.place nodes) ≡ 16777216
