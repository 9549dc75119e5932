-- Parts of ascending lists of uids.
use Rattle.std.proofs.Common.{◌≡◌, ℕ, zero, suc, ◌-◌, ◌<◌, ◌≤◌, Bool, true, false, cond, List, [], ◌∷◌, length, get_or, take, drop, refl, ap, arith, ℤ, pos, negsuc}
use Rattle.std.proofs.lemmas.Bool.Decides.{nat_tests}
use Rattle.std.specs.Prelude.{Option, Some, None, filter, nat_eq, nat_le, nat_lt}
use Rattle.std.specs.List.{AllByRecursion, AllWithin}
use Rattle.std.specs.List.Sorted.{IsPartitionedBy}
use Rattle.std.specs.declared.cmp.Ordering.TheVariants.{Less, Equal, Greater}
use Rattle.std.specs.Ordering.{nat_cmp}
use Rattle.dg_values.specs.Ascending.{Ascends}
use Rattle.dg_sets.proofs.Merges.{all_at, ascends_left}
use Rattle.dg_uids.specs.Sets.{first_or_last}

below_from : (a b : ℕ) → nat_cmp a b ≡ Less → a < b
below_from a b e = by (nat_lt a b) refl e
  where
    by : (v : Bool) → nat_lt a b ≡ v → cond v Less (cond (nat_eq a b) Equal Greater) ≡ Less → a < b
    by true l e = grind (arith, nat_tests)
    by false l e = other (nat_eq a b) e
      where
        other : (v : Bool) → cond v Equal Greater ≡ Less → a < b
        other true e = absurd (cc)
        other false e = absurd (cc)

up_to : (t a b : ℕ) → a < b → nat_le b t ≡ true → nat_le a t ≡ true
up_to t a b l e = grind (arith, nat_tests)

pub not_above : (t a : ℕ) → nat_le a t ≡ true → nat_lt t a ≡ false
not_above t a e = grind (arith, nat_tests)

pub is_above : (t a : ℕ) → nat_le a t ≡ false → nat_lt t a ≡ true
is_above t a e = grind (arith, nat_tests)

-- those at or below a uid come first
pub parted : (t : ℕ) (xs : List ℕ) → Ascends nat_cmp xs → IsPartitionedBy (λ x. nat_le x t) xs
parted t [] a i j d le lt e = absurd (omega arith)
parted t (x ∷ xs) a zero zero d le lt e = e
parted t (x ∷ xs) a zero (suc j) d le lt e = up_to t x (get_or xs j d) (below_from x (get_or xs j d) (all_at (λ y. nat_cmp x y ≡ Less) xs j d a.0 (omega arith))) e
parted t (x ∷ xs) a (suc i) zero d le lt e = absurd (omega arith)
parted t (x ∷ xs) a (suc i) (suc j) d le lt e = parted t xs a.1 i j d (omega arith) (omega arith) e

-- what is left behind those that fail, where all that is left passes
pub filter_is_tail : (t : ℕ) (xs : List ℕ) (i : ℕ) → i ≤ length xs → AllWithin (λ x. nat_le x t ≡ true) xs 0 i → AllWithin (λ x. nat_le x t ≡ false) xs i (length xs) → drop i xs ≡ filter (λ x. nat_lt t x) xs
filter_is_tail t [] zero le f p = refl
filter_is_tail t [] (suc i) le f p = absurd (omega arith)
filter_is_tail t (x ∷ xs) zero le f p =
    let yes : nat_lt t x ≡ true = is_above t x (p zero x (omega arith) (omega arith)) in
    let rest : xs ≡ filter (λ y. nat_lt t y) xs = filter_is_tail t xs zero (omega arith) (λ k d l h. absurd (omega arith)) (λ k d l h. p (suc k) d (omega arith) (omega arith)) in
    rw yes (ap (λ ys. x ∷ ys) rest)
filter_is_tail t (x ∷ xs) (suc i) le f p =
    let no : nat_lt t x ≡ false = not_above t x (f zero x (omega arith) (omega arith)) in
    let rest : drop i xs ≡ filter (λ y. nat_lt t y) xs = filter_is_tail t xs i (omega arith) (λ k d l h. f (suc k) d (omega arith) (omega arith)) (λ k d l h. p (suc k) d (omega arith) (omega arith)) in
    rw no rest

-- ---- parts ascend

all_taken : (P : ℕ → Type 0) (n : ℕ) (xs : List ℕ) → AllByRecursion P xs → AllByRecursion P (take n xs)
all_taken P zero xs a = tt
all_taken P (suc n) [] a = tt
all_taken P (suc n) (x ∷ xs) a = (a.0, all_taken P n xs a.1)

ascends_taken : (n : ℕ) (xs : List ℕ) → Ascends nat_cmp xs → Ascends nat_cmp (take n xs)
ascends_taken zero xs a = tt
ascends_taken (suc n) [] a = tt
ascends_taken (suc n) (x ∷ xs) a = (all_taken (λ y. nat_cmp x y ≡ Less) n xs a.0, ascends_taken n xs a.1)

pub ascends_chosen : (first : Option ℤ) (xs : List ℕ) → Ascends nat_cmp xs → Ascends nat_cmp (first_or_last first xs)
ascends_chosen None xs a = a
ascends_chosen (Some (pos most)) xs a = ascends_taken most xs a
ascends_chosen (Some (negsuc n)) xs a = ascends_left nat_cmp (length xs - suc n) xs a
