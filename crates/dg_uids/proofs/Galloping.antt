-- Places in an ascending list of uids that is searched from the front by steps.
use Rattle.std.proofs.Common.{◌≡◌, ℕ, ◌+◌, ◌-◌, ◌<◌, ◌≤◌, Bool, true, false, cond, List, length, get_or, refl, ap, sym, ◌∙◌, arith}
use Rattle.std.proofs.lemmas.Bool.{true≢false}
use Rattle.std.proofs.lemmas.Bool.Decides.{nat_tests}
use Rattle.std.proofs.lemmas.List.{get_or_default}
use Rattle.std.proofs.lemmas.List.Edits.{get_or-between, length-between}
use Rattle.std.specs.Prelude.{nat_eq, nat_lt}
use Rattle.std.specs.List.{AllWithin, between}
use Rattle.std.specs.List.Sorted.{IsPartitionedBy, IsPartitionPoint}
use Rattle.std.specs.declared.cmp.Ordering.TheVariants.{Less, Equal, Greater}
use Rattle.std.specs.Ordering.{nat_cmp, is_lt, is_eq}
use Rattle.dg_values.specs.Ascending.{Ascends}
use Rattle.dg_sets.proofs.MadeOrders.{nat_order}
use Rattle.dg_sets.proofs.Sets.{is_itself, is_one}
use Rattle.dg_sets.proofs.Places.{parted}

pub is_less : (x t : ℕ) → is_lt (nat_cmp x t) ≡ nat_lt x t
is_less x t = by (nat_lt x t) (nat_eq x t)
  where
    by : (v w : Bool) → is_lt (cond v Less (cond w Equal Greater)) ≡ v
    by true w = refl
    by false true = refl
    by false false = refl

from_less : (x t : ℕ) → x < t → nat_lt x t ≡ true
from_less x t l = grind (arith, nat_tests)

from_more : (x t : ℕ) → t ≤ x → nat_lt x t ≡ false
from_more x t l = grind (arith, nat_tests)

-- those up to one that is below are below
pub further : (t : ℕ) (xs : List ℕ) (i : ℕ) → Ascends nat_cmp xs → i < length xs → get_or xs i 0 < t → AllWithin (λ y. is_lt (nat_cmp y t) ≡ true) xs 0 (i + 1)
further t xs i a lt b k d l h =
    let at : get_or xs i d ≡ get_or xs i 0 = get_or_default xs i d 0 lt in
    parted nat_cmp nat_order t xs a k i d (omega arith) lt (is_less (get_or xs i d) t ∙ ap (λ y. nat_lt y t) at ∙ from_less (get_or xs i 0) t b)

-- those from one on that isn't below aren't below
pub no_further : (t : ℕ) (xs : List ℕ) (i : ℕ) → Ascends nat_cmp xs → (i < length xs → t ≤ get_or xs i 0) → AllWithin (λ y. is_lt (nat_cmp y t) ≡ false) xs i (length xs)
no_further t xs i a b k d l h =
    let lt : i < length xs = omega arith in
    let at : get_or xs i d ≡ get_or xs i 0 = get_or_default xs i d 0 lt in
    let isnt : is_lt (nat_cmp (get_or xs i d) t) ≡ false = is_less (get_or xs i d) t ∙ ap (λ y. nat_lt y t) at ∙ from_more (get_or xs i 0) t (b lt) in
    by (is_lt (nat_cmp (get_or xs k d) t)) refl isnt
  where
    by : (v : Bool) → is_lt (nat_cmp (get_or xs k d) t) ≡ v → is_lt (nat_cmp (get_or xs i d) t) ≡ false → v ≡ false
    by true y e = absurd (true≢false (sym (parted nat_cmp nat_order t xs a i k d l h y) ∙ e))
    by false y e = refl

-- the last step, and the place in it
module _ (t : ℕ) (xs : List ℕ) (start stop : ℕ) (a : Ascends nat_cmp xs) (most : stop ≤ length xs) where
  item_at : (k d : ℕ) → start + k < stop → get_or (between start stop xs) k d ≡ get_or xs (start + k) d
  item_at k d h = get_or-between xs start stop k d h

  in_step : (k : ℕ) → k < length (between start stop xs) → start + k < stop
  in_step k h = omega (arith, length-between xs start stop most)

  pub parted_step : IsPartitionedBy (λ y. nat_lt y t) (between start stop xs)
  parted_step i j d l h e =
      let hj : start + j < stop = in_step j h in
      let there : is_lt (nat_cmp (get_or xs (start + j) d) t) ≡ true = is_less (get_or xs (start + j) d) t ∙ ap (λ y. nat_lt y t) (sym (item_at j d hj)) ∙ e in
      let here : is_lt (nat_cmp (get_or xs (start + i) d) t) ≡ true = parted nat_cmp nat_order t xs a (start + i) (start + j) d (omega arith) (omega arith) there in
      ap (λ y. nat_lt y t) (item_at i d (omega arith)) ∙ sym (is_less (get_or xs (start + i) d) t) ∙ here

  -- a test of an item of the step is that of the item of all
  moved : (v : Bool) (k d : ℕ) → start ≤ k → k < stop → nat_lt (get_or (between start stop xs) (k - start) d) t ≡ v → is_lt (nat_cmp (get_or xs k d) t) ≡ v
  moved v k d l h e =
      let k_is : start + (k - start) ≡ k = omega arith in
      let same : get_or (between start stop xs) (k - start) d ≡ get_or xs k d = item_at (k - start) d (omega arith) ∙ ap (λ n. get_or xs n d) k_is in
      is_less (get_or xs k d) t ∙ ap (λ y. nat_lt y t) (sym same) ∙ e

  pub point_of_all : (place : ℕ) → start ≤ stop → place ≤ length (between start stop xs) → AllWithin (λ y. is_lt (nat_cmp y t) ≡ true) xs 0 start → AllWithin (λ y. is_lt (nat_cmp y t) ≡ false) xs stop (length xs) → IsPartitionPoint (λ y. nat_lt y t ≡ true) (λ y. nat_lt y t ≡ false) (between start stop xs) place → IsPartitionPoint (λ y. is_lt (nat_cmp y t) ≡ true) (λ y. is_lt (nat_cmp y t) ≡ false) xs (start + place)
  point_of_all place le within before behind point = (front, back)
    where
      long : length (between start stop xs) ≡ stop - start
      long = length-between xs start stop most

      front : AllWithin (λ y. is_lt (nat_cmp y t) ≡ true) xs 0 (start + place)
      front k d l h = by (nat_lt k start) refl
        where
          by : (v : Bool) → nat_lt k start ≡ v → is_lt (nat_cmp (get_or xs k d) t) ≡ true
          by true e = before k d l (grind (arith, nat_tests))
          by false e =
              let from_start : start ≤ k = grind (arith, nat_tests) in
              moved true k d from_start (omega (arith, long)) (point.0 (k - start) d (omega arith) (omega arith))

      back : AllWithin (λ y. is_lt (nat_cmp y t) ≡ false) xs (start + place) (length xs)
      back k d l h = by (nat_lt k stop) refl
        where
          by : (v : Bool) → nat_lt k stop ≡ v → is_lt (nat_cmp (get_or xs k d) t) ≡ false
          by true e =
              let in_front : k < stop = grind (arith, nat_tests) in
              moved false k d (omega arith) in_front (point.1 (k - start) d (omega arith) (omega (arith, long)))
          by false e = behind k d (grind (arith, nat_tests)) h

-- ---- whether a uid stands at its place

pub is_same : (x t : ℕ) → x ≡ t → is_eq (nat_cmp x t) ≡ true
is_same x t e = ap (λ y. is_eq (nat_cmp x y)) (sym e) ∙ is_itself nat_cmp nat_order x

pub is_other : (x t : ℕ) → (x ≡ t → ⊥) → is_eq (nat_cmp x t) ≡ false
is_other x t n = by (is_eq (nat_cmp x t)) refl
  where
    by : (v : Bool) → is_eq (nat_cmp x t) ≡ v → v ≡ false
    by true e = absurd (n (is_one nat_cmp nat_order x t e))
    by false e = refl
