-- The parts of one predicate, among parts that ascend by key.
use Rattle.std.proofs.Common.{◌≡◌, ◌∙◌, sym, ap, arith, refl, ℕ, zero, suc, List, [], ◌∷◌, ◌++◌, Bool, true, false, cond, take, drop}
use Rattle.std.specs.Prelude.{filter}
use Rattle.std.specs.List.{AllByRecursion}
use Rattle.std.specs.List.Sorted.{IsPartitionedBy}
use Rattle.std.specs.Cmp.{IsTotalOrder}
use Rattle.std.specs.declared.cmp.Ordering.{Ordering}
use Rattle.std.specs.declared.cmp.Ordering.TheVariants.{Less, Greater}
use Rattle.std.specs.Ordering.{is_lt, is_le, ordering_then}
use Rattle.std.proofs.lemmas.Cmp.{alike_right, tied_back}
use Rattle.std.proofs.lemmas.List.{take-append-drop, append-nil}
use Rattle.dg_values.specs.Order.{text_cmp}
use Rattle.dg_values.specs.Ascending.{Ascends}
use Rattle.dg_sets.proofs.MadeOrders.{text_order, total_from}
use Rattle.dg_sets.proofs.Merges.{all_at}
use Rattle.dg_sets.proofs.Sets.{all_with}
use Rattle.dg_keys.specs.Keys.{part_cmp, pred_of}
use Rattle.dg_keys.specs.declared.record.Part.{Part}
use Rattle.dg_pages.proofs.Cases.{by_order}
use Rattle.dg_store.specs.Stores.{is_held, held_parts}

-- ---- a test that falls once

abbrev Falling : {X : Type 0} → (X → Bool) → List X → Type 0
Falling t [] = Unit {0}
Falling t (x ∷ xs) = AllByRecursion (λ y. t y ≡ true → t x ≡ true) xs × Falling t xs

parted : {X : Type 0} (t : X → Bool) (xs : List X) → Falling t xs → IsPartitionedBy t xs
parted t [] f i j d le lt e = absurd (omega arith)
parted t (x ∷ xs) f zero zero d le lt e = e
parted t (x ∷ xs) f zero (suc j) d le lt e = all_at (λ y. t y ≡ true → t x ≡ true) xs j d f.0 (omega arith) e
parted t (x ∷ xs) f (suc i) zero d le lt e = absurd (omega arith)
parted t (x ∷ xs) f (suc i) (suc j) d le lt e = parted t xs f.1 i j d (omega arith) (omega arith) e

falling : (t : Part → Bool) → ((x y : Part) → part_cmp x y ≡ Less → t y ≡ true → t x ≡ true) → (parts : List Part) → Ascends part_cmp parts → Falling t parts
falling t h [] a = tt
falling t h (x ∷ parts) a = (all_with (λ y. part_cmp x y ≡ Less) (λ y. t y ≡ true → t x ≡ true) parts (λ y l. h x y l) a.0, falling t h parts a.1)

-- ---- predicates along parts

text_total : IsTotalOrder text_cmp
text_total = total_from text_cmp text_order

abbrev pred : Part → List ℕ
pred part = pred_of part.key

abbrev pub is_below : List ℕ → Part → Bool
is_below p part = is_lt (text_cmp (pred part) p)

abbrev pub is_upto : List ℕ → Part → Bool
is_upto p part = is_le (text_cmp (pred part) p)

not_less : (o : Ordering) → ordering_then Greater o ≡ Less → ⊥
not_less o e = cc

below_before : (p : List ℕ) (x y : Part) → part_cmp x y ≡ Less → is_below p y ≡ true → is_below p x ≡ true
below_before p x y l e =
    by_order (text_cmp (pred x) (pred y))
    (λ q. by_order (text_cmp (pred y) p)
    (λ r. ap is_lt (text_total.trans (pred x) (pred y) p q r))
    (λ r. let bad : false ≡ true = rw r at e in cc)
    (λ r. let bad : false ≡ true = rw r at e in cc))
    (λ q. ap is_lt (text_total.congr (pred x) (pred y) p q) ∙ e)
    (λ q. let bad : Greater ≡ Less = rw q at l in cc)

upto_before : (p : List ℕ) (x y : Part) → part_cmp x y ≡ Less → is_upto p y ≡ true → is_upto p x ≡ true
upto_before p x y l e =
    by_order (text_cmp (pred x) (pred y))
    (λ q. by_order (text_cmp (pred y) p)
    (λ r. ap is_le (text_total.trans (pred x) (pred y) p q r))
    (λ r. ap is_le (sym (alike_right text_total (pred y) p (pred x) r) ∙ q))
    (λ r. let bad : false ≡ true = rw r at e in cc))
    (λ q. ap is_le (text_total.congr (pred x) (pred y) p q) ∙ e)
    (λ q. let bad : Greater ≡ Less = rw q at l in cc)

pub below_parted : (p : List ℕ) (parts : List Part) → Ascends part_cmp parts → IsPartitionedBy (is_below p) parts
below_parted p parts a = parted (is_below p) parts (falling (is_below p) (below_before p) parts a)

pub upto_parted : (p : List ℕ) (parts : List Part) → Ascends part_cmp parts → IsPartitionedBy (is_upto p) parts
upto_parted p parts a = parted (is_upto p) parts (falling (is_upto p) (upto_before p) parts a)

-- ---- those that pass a test

none_pass : {X : Type 0} (t : X → Bool) (xs : List X) → AllByRecursion (λ x. t x ≡ false) xs → filter t xs ≡ []
none_pass t [] a = refl
none_pass t (x ∷ xs) a = rw a.0 (none_pass t xs a.1)

all_pass : {X : Type 0} (t : X → Bool) (xs : List X) → AllByRecursion (λ x. t x ≡ true) xs → filter t xs ≡ xs
all_pass t [] a = refl
all_pass t (x ∷ xs) a = rw a.0 (ap (λ ys. x ∷ ys) (all_pass t xs a.1))

pass_both : {X : Type 0} (t : X → Bool) (xs ys : List X) → filter t (xs ++ ys) ≡ filter t xs ++ filter t ys
pass_both t [] ys = refl
pass_both t (x ∷ xs) ys = by (t x) (pass_both t xs ys)
  where
    by : (b : Bool) → filter t (xs ++ ys) ≡ filter t xs ++ filter t ys → cond b (x ∷ filter t (xs ++ ys)) (filter t (xs ++ ys)) ≡ cond b (x ∷ filter t xs) (filter t xs) ++ filter t ys
    by true e = ap (λ zs. x ∷ zs) e
    by false e = e

taken : {X : Type 0} (P : X → Type 0) (i : ℕ) (xs : List X) → AllByRecursion P xs → AllByRecursion P (take i xs)
taken P zero xs a = tt
taken P (suc i) [] a = tt
taken P (suc i) (x ∷ xs) a = (a.0, taken P i xs a.1)

module _ (p : List ℕ) where
  below_out : (part : Part) → is_below p part ≡ true → is_held (p ∷ []) part ≡ false
  below_out part e =
      by_order (text_cmp p (pred part))
      (λ q. rw q refl)
      (λ q. let bad : false ≡ true = rw (tied_back text_total p (pred part) q) at e in cc)
      (λ q. rw q refl)

  above_out : (part : Part) → is_upto p part ≡ false → is_held (p ∷ []) part ≡ false
  above_out part e =
      by_order (text_cmp p (pred part))
      (λ q. rw q refl)
      (λ q. let bad : true ≡ false = rw (tied_back text_total p (pred part) q) at e in cc)
      (λ q. rw q refl)

  between_in : (part : Part) → is_below p part ≡ false → is_upto p part ≡ true → is_held (p ∷ []) part ≡ true
  between_in part e f =
      by_order (text_cmp (pred part) p)
      (λ q. let bad : true ≡ false = rw q at e in cc)
      (λ q. rw (tied_back text_total (pred part) p q) refl)
      (λ q. let bad : false ≡ true = rw q at f in cc)

  all_in : (parts : List Part) → AllByRecursion (λ x. is_below p x ≡ false) parts → AllByRecursion (λ x. is_upto p x ≡ true) parts → AllByRecursion (λ x. is_held (p ∷ []) x ≡ true) parts
  all_in [] a b = tt
  all_in (x ∷ parts) a b = (between_in x a.0 b.0, all_in parts a.1 b.1)

  pub parts_are : (parts : List Part) (i j : ℕ) → AllByRecursion (λ x. is_below p x ≡ true) (take i parts) → AllByRecursion (λ x. is_below p x ≡ false) (drop i parts) → AllByRecursion (λ x. is_upto p x ≡ true) (take j (drop i parts)) → AllByRecursion (λ x. is_upto p x ≡ false) (drop j (drop i parts)) → take j (drop i parts) ≡ held_parts (p ∷ []) parts
  parts_are parts i j a b c d =
      let rest = drop i parts in
      let held = is_held (p ∷ []) in
      let front : filter held (take i parts) ≡ [] = none_pass held (take i parts) (all_with (λ x. is_below p x ≡ true) (λ x. held x ≡ false) (take i parts) below_out a) in
      let middle : filter held (take j rest) ≡ take j rest = all_pass held (take j rest) (all_in (take j rest) (taken (λ x. is_below p x ≡ false) j rest b) c) in
      let back : filter held (drop j rest) ≡ [] = none_pass held (drop j rest) (all_with (λ x. is_upto p x ≡ false) (λ x. held x ≡ false) (drop j rest) above_out d) in
      sym (
      ap (filter held) (sym (take-append-drop i parts)) ∙ pass_both held (take i parts) rest ∙ ap (λ xs. xs ++ filter held rest) front
      ∙ ap (filter held) (sym (take-append-drop j rest)) ∙ pass_both held (take j rest) (drop j rest)
      ∙ (λ k. middle k ++ back k) ∙ append-nil (take j rest)
      )
