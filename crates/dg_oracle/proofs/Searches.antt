-- The last mark of a key in marks that ascend.
use Rattle.std.proofs.Common.{◌≡◌, ℕ, zero, suc, ◌-◌, ◌<◌, ◌≤◌, Bool, true, false, cond, List, [], ◌∷◌, length, get_or, refl, ap, subst, sym, ◌∙◌, arith}
use Rattle.std.specs.Prelude.{◌==◌, ◌||◌, nat_lt}
use Rattle.std.specs.List.{AllByRecursion, list_any}
use Rattle.std.specs.List.Sorted.{IsPartitionedBy, IsPartitionPoint}
use Rattle.std.specs.declared.cmp.Ordering.{Ordering}
use Rattle.std.specs.declared.cmp.Ordering.TheVariants.{Less, Equal, Greater}
use Rattle.std.specs.Cmp.{IsTotalOrder}
use Rattle.std.specs.Ordering.{is_le, is_eq, is_gt, nat_cmp, ordering_reverse, ordering_then}
use Rattle.std.proofs.lemmas.Cmp.{nat_cmp_total, on_total, then_total, tied_itself, upto}
use Rattle.std.proofs.lemmas.Grind.{common_steps}
use Rattle.std.proofs.lemmas.List.{get_or_default}
use Rattle.dg_oracle.specs.declared.mark.Mark.{Mark}
use Rattle.dg_oracle.specs.Histories.{mark_cmp, IsUpTo, Ascending, keys_at, is_marked}

-- what the answers of a comparison are not
not_equal : (o : Ordering) → is_le o ≡ false → is_eq o ≡ false
not_equal Less e = absurd (cc)
not_equal Equal e = absurd (cc)
not_equal Greater e = refl

le_not_gt : (o : Ordering) → is_le o ≡ true → is_gt o ≡ false
le_not_gt Less e = refl
le_not_gt Equal e = refl
le_not_gt Greater e = absurd (cc)

not_gt_le : (o : Ordering) → is_gt o ≡ false → is_le o ≡ true
not_gt_le Less e = refl
not_gt_le Equal e = refl
not_gt_le Greater e = absurd (cc)

first_not_gt : (o p : Ordering) → is_gt (ordering_then o p) ≡ false → is_gt o ≡ false
first_not_gt Less p e = refl
first_not_gt Equal p e = refl
first_not_gt Greater p e = absurd (cc)

not_later : (n m : ℕ) → is_gt (nat_cmp n m) ≡ false → n ≤ m
not_later n m e = grind (arith, common_steps)

-- one of all
pub all_at : {X : Type 0} (P : X → Type 0) (xs : List X) (j : ℕ) (d : X) → j < length xs → AllByRecursion P xs → P (get_or xs j d)
all_at P [] j d lt a = absurd (omega arith)
all_at P (x ∷ xs) zero d lt a = a.0
all_at P (x ∷ xs) (suc j) d lt a = all_at P xs j d (omega arith) a.1

module _ {K : Type 0} (cmp : K → K → Ordering) (total : IsTotalOrder cmp) where
  -- marks are in a total order too
  pub marks_total : IsTotalOrder (mark_cmp cmp)
  marks_total = then_total (on_total (λ (m : Mark K). m.key) total) (on_total (λ (m : Mark K). m.ts) nat_cmp_total)

  -- no mark is above a later one
  pub ascends_far : (ms : List (Mark K)) → Ascending cmp ms → (i j : ℕ) (d : Mark K) → i ≤ j → j < length ms → is_gt (mark_cmp cmp (get_or ms i d) (get_or ms j d)) ≡ false
  ascends_far [] a i j d le lt = absurd (omega arith)
  ascends_far (m ∷ ms) a zero zero d le lt = ap is_gt (tied_itself marks_total m)
  ascends_far (m ∷ ms) a zero (suc j) d le lt = all_at (IsUpTo cmp m) ms j d (omega arith) a.0
  ascends_far (m ∷ ms) a (suc i) zero d le lt = absurd (omega arith)
  ascends_far (m ∷ ms) a (suc i) (suc j) d le lt = ascends_far ms a.1 i j d (omega arith) (omega arith)

  module _ (key : K) where
    -- those with a key up to this one come first
    pub parted : (ms : List (Mark K)) → Ascending cmp ms → IsPartitionedBy (λ m. is_le (cmp m.key key)) ms
    parted ms a i j d le lt e =
        not_gt_le _ (upto total (get_or ms i d).key (get_or ms j d).key key (first_not_gt _ _ (ascends_far ms a i j d le lt)) (le_not_gt _ e))

    -- where no mark above a number has the key
    pub none_marked : (low : ℕ) (ms : List (Mark K)) → ((j : ℕ) (d : Mark K) → j < length ms → low < (get_or ms j d).ts → is_eq (cmp (get_or ms j d).key key) ≡ false) → (ts : ℕ) → low < ts → is_marked cmp ms key ts ≡ false
    none_marked low [] f ts lt = refl
    none_marked low (m ∷ ms) f ts lt = by (m.ts == ts) (λ e. first (grind (arith, common_steps))) (none_marked low ms (λ j d l. f (suc j) d (omega arith)) ts lt)
      where
        first : m.ts ≡ ts → is_eq (cmp m.key key) ≡ false
        first e = f 0 m (omega arith) (omega arith)

        by : (b : Bool) → (b ≡ true → is_eq (cmp m.key key) ≡ false) → is_marked cmp ms key ts ≡ false → list_any (λ k. is_eq (cmp k key)) (cond b (m.key ∷ keys_at ts ms) (keys_at ts ms)) ≡ false
        by true g rest = rw (g refl) rest
        by false g rest = rest

    -- where a mark has the key
    pub is_marked_there : (ms : List (Mark K)) (j : ℕ) (d : Mark K) → j < length ms → is_eq (cmp (get_or ms j d).key key) ≡ true → is_marked cmp ms key (get_or ms j d).ts ≡ true
    is_marked_there [] j d lt e = absurd (omega arith)
    is_marked_there (m ∷ ms) zero d lt e = let s : (m.ts == m.ts) ≡ true = grind (arith, common_steps) in rw (s, e) refl
    is_marked_there (m ∷ ms) (suc j) d lt e = by (m.ts == (get_or ms j d).ts) (is_marked_there ms j d (omega arith) e)
      where
        either : (b c : Bool) → c ≡ true → (b || c) ≡ true
        either true c e = refl
        either false c e = e

        by : (b : Bool) → is_marked cmp ms key (get_or ms j d).ts ≡ true → list_any (λ k. is_eq (cmp k key)) (cond b (m.key ∷ keys_at (get_or ms j d).ts ms) (keys_at (get_or ms j d).ts ms)) ≡ true
        by true rest = either (is_eq (cmp m.key key)) (is_marked cmp ms key (get_or ms j d).ts) rest
        by false rest = rest

    -- a mark that is not above another, which is not above the key
    no_later : (m n : Mark K) (low : ℕ) → is_gt (mark_cmp cmp m n) ≡ false → is_le (cmp n.key key) ≡ true → (is_eq (cmp n.key key) ≡ true → n.ts ≤ low) → low < m.ts → is_eq (cmp m.key key) ≡ false
    no_later m n low up le at lt = by (cmp m.key key) refl
      where
        same : (o : Ordering) → cmp n.key key ≡ o → cmp m.key key ≡ Equal → is_gt (ordering_then (ordering_reverse o) (nat_cmp m.ts n.ts)) ≡ false → is_le o ≡ true → (is_eq o ≡ true → n.ts ≤ low) → ⊥
        same Less e f up le at = cc
        same Equal e f up le at = let a : m.ts ≤ n.ts = not_later m.ts n.ts up in let b : n.ts ≤ low = at refl in omega arith
        same Greater e f up le at = cc

        turned : cmp m.key key ≡ Equal → cmp m.key n.key ≡ ordering_reverse (cmp n.key key)
        turned f = total.congr m.key key n.key f ∙ total.antisymm key n.key

        by : (o : Ordering) → cmp m.key key ≡ o → is_eq o ≡ false
        by Less e = refl
        by Equal e = absurd (same (cmp n.key key) refl e (rw (turned e) at up) le at)
        by Greater e = refl

    -- what a search by halves finds
    pub last_there : (ms : List (Mark K)) → Ascending cmp ms → (end low : ℕ) (m : Mark K) → 0 < end → end ≤ length ms → IsPartitionPoint (λ n. is_le (cmp n.key key) ≡ true) (λ n. is_le (cmp n.key key) ≡ false) ms end → m ≡ get_or ms (end - 1) m → (is_eq (cmp m.key key) ≡ true → m.ts ≤ low) → (ts : ℕ) → low < ts → is_marked cmp ms key ts ≡ false
    last_there ms a end low m pos within point is at = none_marked low ms (λ j d lt over. by j d lt over (nat_lt j end) refl)
      where
        last : (d : Mark K) → get_or ms (end - 1) d ≡ m
        last d = get_or_default ms (end - 1) d m (omega arith) ∙ sym is

        by : (j : ℕ) (d : Mark K) → j < length ms → low < (get_or ms j d).ts → (b : Bool) → nat_lt j end ≡ b → is_eq (cmp (get_or ms j d).key key) ≡ false
        by j d lt over true e =
            let l : j < end = grind (arith, common_steps) in
            let up : is_gt (mark_cmp cmp (get_or ms j d) m) ≡ false = subst (λ (n : Mark K). is_gt (mark_cmp cmp (get_or ms j d) n) ≡ false) (last d) (ascends_far ms a j (end - 1) d (omega arith) (omega arith)) in
            let le : is_le (cmp m.key key) ≡ true = subst (λ (n : Mark K). is_le (cmp n.key key) ≡ true) (last d) (point.0 (end - 1) d (omega arith) (omega arith)) in
            no_later (get_or ms j d) m low up le at over
        by j d lt over false e = let l : end ≤ j = grind (arith, common_steps) in not_equal _ (point.1 j d l lt)

    -- where all keys are above it
    pub none_there : (ms : List (Mark K)) (start : ℕ) → IsPartitionPoint (λ n. is_le (cmp n.key key) ≡ true) (λ n. is_le (cmp n.key key) ≡ false) ms 0 → (ts : ℕ) → start < ts → is_marked cmp ms key ts ≡ false
    none_there ms start point = none_marked start ms (λ j d lt over. not_equal _ (point.1 j d (omega arith) lt))
