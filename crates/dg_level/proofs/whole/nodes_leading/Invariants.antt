use Rattle.std.proofs.Common.{◌≡◌, ℕ, List, map, take}
use Rattle.std.specs.Prelude.{filter}
use Rattle.std.specs.List.{list_any}
use Rattle.std.specs.Ordering.{nat_cmp}
use Rattle.dg_values.specs.Ascending.{has}
use Rattle.dg_level.proofs.whole.nodes_leading.Given as goal

-- those so far
abbrev pub invariant-loop-place : goal.invariant-loop-place
invariant-loop-place l = (list : ℕ → List ℕ) → l.lists ≡ map list l.uids → l.found.items ≡ filter (λ n. list_any (has nat_cmp l.whole) (list n)) (take l.place l.uids)
