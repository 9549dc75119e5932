-- Keys that ascend are sorted.
use Rattle.std.proofs.Common.{◌≡◌, ℕ, zero, suc, ◌+◌, ◌<◌, false, List, [], ◌∷◌, length, slice_index_or, refl, arith}
use Rattle.std.specs.declared.cmp.Ordering.{Ordering}
use Rattle.std.specs.Ordering.{is_lt}
use Rattle.std.specs.List.Sorted.{IsSorted}
use Rattle.dg_values.specs.Ascending.{Ascends}
use Rattle.dg_values.specs.Order.{IsOrder}
use Rattle.dg_keys.specs.declared.conflict.ConflictKey.{ConflictKey}
use Rattle.dg_keys.specs.Conflicts.{conflict_cmp}
use Rattle.dg_keys.specs.KeyOrder.{conflict_order}

each_is_above : {X : Type 0} (cmp : X → X → Ordering) → IsOrder cmp → (xs : List X) → Ascends cmp xs → (k : ℕ) (d : X) → suc k < length xs → is_lt (cmp (slice_index_or xs (suc k) d) (slice_index_or xs k d)) ≡ false
each_is_above cmp o [] a k d lt = absurd (omega arith)
each_is_above cmp o (x ∷ []) a k d lt = absurd (omega arith)
each_is_above cmp o (x ∷ y ∷ xs) a zero d lt = rw (o.antisymm y x, a.0.0) refl
each_is_above cmp o (x ∷ y ∷ xs) a (suc k) d lt = each_is_above cmp o (y ∷ xs) a.1 k d (omega arith)

-- what ascends strictly by an order is sorted by it
pub sorted_by_order : {X : Type 0} (cmp : X → X → Ordering) → IsOrder cmp → (xs : List X) → Ascends cmp xs → IsSorted cmp xs
sorted_by_order cmp o xs a = λ k d low lt. let e : k + 1 ≡ suc k = omega arith in rw e (each_is_above cmp o xs a k d (omega arith))

pub sorted_from_ascends : (keys : List ConflictKey) → Ascends conflict_cmp keys → IsSorted conflict_cmp keys
sorted_from_ascends keys a = sorted_by_order conflict_cmp conflict_order keys a
