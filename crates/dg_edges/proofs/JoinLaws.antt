-- Parts sorted by their keys, where no two have one key.
use Rattle.std.proofs.Common.{◌≡◌, ◌≤◌, Bool, true, false, cond, List, [], ◌∷◌, length, refl, ap, subst, sym, ◌∙◌, arith}
use Rattle.std.specs.Prelude.{◌&&◌, not, filter}
use Rattle.std.specs.List.{dedup, dedup_from}
use Rattle.std.specs.List.Sorted.{IsStable, IsSorted, IsStrictlySortedBy, ties}
use Rattle.std.specs.declared.cmp.Ordering.{Ordering}
use Rattle.std.specs.declared.cmp.Ordering.TheVariants.{Less, Equal, Greater}
use Rattle.std.specs.Ordering.{is_eq, is_lt, eq_by_cmp, ordering_reverse}
use Rattle.std.specs.Cmp.{IsTotalOrder, on_total}
use Rattle.std.proofs.lemmas.List.Kept.{IsStrictlySortedBy-dedup}
use Rattle.dg_values.specs.Ascending.{Ascends}
use Rattle.dg_sets.proofs.MadeOrders.{total_from}
use Rattle.dg_sets.proofs.Sets.{is_itself}
use Rattle.dg_keys.specs.declared.key.Key.{Key}
use Rattle.dg_keys.specs.declared.record.Part.{Part}
use Rattle.dg_keys.specs.Keys.{key_cmp, part_cmp}
use Rattle.dg_keys.specs.KeyOrder.{key_order}

pub part_total : IsTotalOrder part_cmp
part_total = on_total (λ (p : Part). p.key) (total_from key_cmp key_order)

-- the parts at a key
abbrev pub parts_of_key : List Part → Key → List Part
parts_of_key parts key = filter (λ part. is_eq (key_cmp part.key key)) parts

tied : (a b : Ordering) → a ≡ ordering_reverse b → (not (is_lt a) && not (is_lt b)) ≡ is_eq b
tied a Less e = ap (λ v. not (is_lt v) && false) e
tied a Equal e = ap (λ v. not (is_lt v) && true) e
tied a Greater e = ap (λ v. not (is_lt v) && true) e

ties_at : (key : Key) (part : Part) → ties (λ x y. is_lt (part_cmp x y)) (record { key = key; ops = [] }) part ≡ is_eq (key_cmp part.key key)
ties_at key part = tied (key_cmp key part.key) (key_cmp part.key key) (key_order.antisymm key part.key)

alike : (test other : Part → Bool) (parts : List Part) → ((p : Part) → test p ≡ other p) → filter test parts ≡ filter other parts
alike test other [] e = refl
alike test other (p ∷ parts) e = λ i. cond (e p i) (p ∷ alike test other parts e i) (alike test other parts e i)

pub same_at : (old sorted : List Part) (key : Key) → IsStable part_cmp old sorted → parts_of_key sorted key ≡ parts_of_key old key
same_at old sorted key s =
    sym (alike (ties (λ x y. is_lt (part_cmp x y)) (record { key = key; ops = [] })) (λ p. is_eq (key_cmp p.key key)) sorted (ties_at key))
    ∙ (s (record { key = key; ops = [] })
    ∙ alike (ties (λ x y. is_lt (part_cmp x y)) (record { key = key; ops = [] })) (λ p. is_eq (key_cmp p.key key)) old (ties_at key))

-- ---- strictly

strictly : (parts : List Part) → IsStrictlySortedBy part_cmp parts → Ascends part_cmp parts
unfolding IsStrictlySortedBy
strictly [] h = tt
strictly (p ∷ parts) h = (h.0, strictly parts h.1)

-- no two of these have one key
abbrev pub AreApart : List Part → Type 0
AreApart parts = (key : Key) → length (parts_of_key parts key) ≤ 1

later_apart : (p : Part) (parts : List Part) → AreApart (p ∷ parts) → AreApart parts
later_apart p parts a key = by (is_eq (key_cmp p.key key)) (a key)
  where
    by : (v : Bool) → length (cond v (p ∷ parts_of_key parts key) (parts_of_key parts key)) ≤ 1 → length (parts_of_key parts key) ≤ 1
    by true le = omega (arith, le)
    by false le = le

first_apart : (p q : Part) (parts : List Part) → AreApart (p ∷ q ∷ parts) → is_eq (part_cmp q p) ≡ false
first_apart p q parts a = by (is_eq (key_cmp q.key p.key)) (is_eq (key_cmp p.key p.key)) (is_itself key_cmp key_order p.key) (a p.key)
  where
    by : (v w : Bool) → w ≡ true → length (cond w (p ∷ cond v (q ∷ parts_of_key parts p.key) (parts_of_key parts p.key)) (cond v (q ∷ parts_of_key parts p.key) (parts_of_key parts p.key))) ≤ 1 → v ≡ false
    by false w e le = refl
    by true true e le = absurd (omega (arith, le))
    by true false e le = absurd (cc)

once_from : (p : Part) (parts : List Part) → AreApart (p ∷ parts) → dedup_from (eq_by_cmp part_cmp) p parts ≡ p ∷ parts
once_from p [] a = refl
once_from p (q ∷ parts) a = by (is_eq (part_cmp q p)) (first_apart p q parts a) (once_from q parts (later_apart p (q ∷ parts) a))
  where
    by : (v : Bool) → v ≡ false → dedup_from (eq_by_cmp part_cmp) q parts ≡ q ∷ parts → cond v (dedup_from (eq_by_cmp part_cmp) p parts) (p ∷ dedup_from (eq_by_cmp part_cmp) q parts) ≡ p ∷ q ∷ parts
    by true e rest = absurd (cc)
    by false e rest = λ i. p ∷ rest i

once : (parts : List Part) → AreApart parts → dedup (eq_by_cmp part_cmp) parts ≡ parts
once [] a = refl
once (p ∷ parts) a = once_from p parts a

pub sorted_ascend : (parts : List Part) → IsSorted part_cmp parts → AreApart parts → Ascends part_cmp parts
sorted_ascend parts s a = subst (Ascends part_cmp) (once parts a) (strictly (dedup (eq_by_cmp part_cmp) parts) (IsStrictlySortedBy-dedup part_total (λ x y. refl) parts s))
