-- Lists that ascend strictly by a total order: from their neighbours, their ends, and two of them gone through side by side.
use Rattle.std.proofs.Common.{◌≡◌, ℕ, zero, suc, ◌+◌, ◌<◌, ◌≤◌, Bool, true, false, List, [], ◌∷◌, ◌++◌, length, get_or, drop, fold, refl, ap, subst, sym, ◌∙◌, arith, add-one, append_assoc, drop-cons}
use Rattle.std.proofs.lemmas.Bool.{false≢true}
use Rattle.std.proofs.lemmas.List.{drop_all, append-nil}
use Rattle.std.specs.Prelude.{◌↔◌, IsTrue}
use Rattle.std.specs.List.{AllByRecursion, AllAdjacentBelow, IsAllAdjacentAnswer}
use Rattle.std.specs.declared.cmp.Ordering.{Ordering}
use Rattle.std.specs.declared.cmp.Ordering.TheVariants.{Less, Equal, Greater}
use Rattle.std.specs.Ordering.{ordering_reverse, is_lt}
use Rattle.std.specs.Cmp.{IsTotalOrder}
use Rattle.dg_values.specs.Ascending.{Ascends, placed, with_one}
use Rattle.dg_sets.proofs.Sets.{all_with}

-- one of all, by its place
pub all_at : {X : Type 0} (P : X → Type 0) (xs : List X) (k : ℕ) (d : X) → AllByRecursion P xs → k < length xs → P (get_or xs k d)
all_at P [] k d a h = absurd (omega arith)
all_at P (x ∷ xs) zero d a h = a.0
all_at P (x ∷ xs) (suc k) d a h = all_at P xs k d a.1 (omega arith)

-- what is left from a place on begins with what stands there
pub left_from : {X : Type 0} (xs : List X) (k : ℕ) (x : X) → k < length xs → x ≡ get_or xs k x → drop k xs ≡ x ∷ drop (k + 1) xs
left_from xs k x h e = rw add-one (drop-cons xs k x h ∙ ap (λ y. y ∷ drop (suc k) xs) (sym e))

module _ {X : Type 0} (cmp : X → X → Ordering) where
  pub ascends_left : (k : ℕ) (xs : List X) → Ascends cmp xs → Ascends cmp (drop k xs)
  ascends_left zero xs a = a
  ascends_left (suc k) [] a = tt
  ascends_left (suc k) (x ∷ xs) a = ascends_left k xs a.1

  adjacent_tail : (x : X) (xs : List X) → AllAdjacentBelow (λ a b. cmp a b ≡ Less) (x ∷ xs) (length (x ∷ xs)) → AllAdjacentBelow (λ a b. cmp a b ≡ Less) xs (length xs)
  adjacent_tail x xs a k d h = rw add-one (rw add-one at (a (suc k) d (omega arith)))

  pub adjacent_from_ascends : (xs : List X) → Ascends cmp xs → AllAdjacentBelow (λ a b. cmp a b ≡ Less) xs (length xs)
  adjacent_from_ascends [] s k d h = absurd (omega arith)
  adjacent_from_ascends (x ∷ xs) s zero d h = all_at (λ y. cmp x y ≡ Less) xs zero d s.0 (omega arith)
  adjacent_from_ascends (x ∷ xs) s (suc k) d h = rw add-one (rw add-one at (adjacent_from_ascends xs s.1 k d (omega arith)))

  -- the items of xs put into ys, one that is there already in the place of xs's
  abbrev pub joined : List X → List X → List X
  joined xs ys = fold (with_one cmp) ys xs

module _ {X : Type 0} (cmp : X → X → Ordering) (o : IsTotalOrder cmp) where
  pub turned : (x y : X) → cmp x y ≡ Less → cmp y x ≡ Greater
  turned x y e = o.antisymm y x ∙ ap ordering_reverse e

  pub turned_back : (x y : X) → cmp x y ≡ Greater → cmp y x ≡ Less
  turned_back x y e = o.antisymm y x ∙ ap ordering_reverse e

  pub above_both : (x y : X) (ys : List X) → cmp x y ≡ Less → AllByRecursion (λ z. cmp y z ≡ Less) ys → AllByRecursion (λ z. cmp x z ≡ Less) ys
  above_both x y ys l a = all_with (λ z. cmp y z ≡ Less) (λ z. cmp x z ≡ Less) ys (λ z p. o.trans x y z l p) a

  pub ascends_from_adjacent : (xs : List X) → AllAdjacentBelow (λ a b. cmp a b ≡ Less) xs (length xs) → Ascends cmp xs
  ascends_from_adjacent [] a = tt
  ascends_from_adjacent (x ∷ []) a = (tt, tt)
  ascends_from_adjacent (x ∷ y ∷ ys) a =
      let first : cmp x y ≡ Less = a 0 x (omega arith) in
      let rest = ascends_from_adjacent (y ∷ ys) (adjacent_tail cmp x (y ∷ ys) a) in
      ((first, above_both x y ys first rest.0), rest)

  -- ---- one more

  all_put : (P : X → Type 0) (x : X) (ys : List X) → P x → AllByRecursion P ys → AllByRecursion P (with_one cmp ys x)
  all_put P x [] p a = (p, tt)
  all_put P x (y ∷ ys) p a = by (cmp x y) (all_put P x ys p a.1)
    where
      by : (v : Ordering) → AllByRecursion P (with_one cmp ys x) → AllByRecursion P (placed v x y ys (with_one cmp ys x))
      by Less r = (p, a)
      by Equal r = a
      by Greater r = (a.0, r)

  pub ascends_put : (x : X) (ys : List X) → Ascends cmp ys → Ascends cmp (with_one cmp ys x)
  ascends_put x [] a = (tt, tt)
  ascends_put x (y ∷ ys) a = by (cmp x y) refl (ascends_put x ys a.1)
    where
      by : (v : Ordering) → cmp x y ≡ v → Ascends cmp (with_one cmp ys x) → Ascends cmp (placed v x y ys (with_one cmp ys x))
      by Less e r = ((e, above_both x y ys e a.0), a)
      by Equal e r = a
      by Greater e r = (all_put (λ z. cmp y z ≡ Less) x ys (turned_back x y e) a.0, r)

  pub ascends_joined : (xs ys : List X) → Ascends cmp ys → Ascends cmp (joined cmp xs ys)
  ascends_joined [] ys a = a
  ascends_joined (x ∷ xs) ys a = ascends_joined xs (with_one cmp ys x) (ascends_put x ys a)

  -- ---- two lists side by side

  put_above : (x y : X) (ys : List X) → cmp x y ≡ Greater → with_one cmp (y ∷ ys) x ≡ y ∷ with_one cmp ys x
  put_above x y ys e = ap (λ v. placed v x y ys (with_one cmp ys x)) e

  -- what is below all that is put in stays in front
  pub joined_above : (y : X) (xs ys : List X) → AllByRecursion (λ x. cmp y x ≡ Less) xs → joined cmp xs (y ∷ ys) ≡ y ∷ joined cmp xs ys
  joined_above y [] ys a = refl
  joined_above y (x ∷ xs) ys a = ap (λ l. joined cmp xs l) (put_above x y ys (turned y x a.0)) ∙ joined_above y xs (with_one cmp ys x) a.1

  pub joined_at_end : (x : X) (xs : List X) → Ascends cmp (x ∷ xs) → joined cmp (x ∷ xs) [] ≡ x ∷ joined cmp xs []
  joined_at_end x xs a = joined_above x xs [] a.0

  pub joined_less : (x y : X) (xs ys : List X) → Ascends cmp (x ∷ xs) → cmp x y ≡ Less → joined cmp (x ∷ xs) (y ∷ ys) ≡ x ∷ joined cmp xs (y ∷ ys)
  joined_less x y xs ys a e = ap (λ v. joined cmp xs (placed v x y ys (with_one cmp ys x))) e ∙ joined_above x xs (y ∷ ys) a.0

  pub joined_equal : (x y : X) (xs ys : List X) → cmp x y ≡ Equal → joined cmp (x ∷ xs) (y ∷ ys) ≡ joined cmp xs (y ∷ ys)
  joined_equal x y xs ys e = ap (λ v. joined cmp xs (placed v x y ys (with_one cmp ys x))) e

  pub joined_greater : (x y : X) (xs ys : List X) → Ascends cmp (x ∷ xs) → cmp x y ≡ Greater → joined cmp (x ∷ xs) (y ∷ ys) ≡ y ∷ joined cmp (x ∷ xs) ys
  joined_greater x y xs ys a e = joined_above y (x ∷ xs) ys (turned_back x y e, above_both y x xs (turned_back x y e) a.0)

  pub joined_none : (xs : List X) → Ascends cmp xs → joined cmp xs [] ≡ xs
  joined_none [] a = refl
  joined_none (x ∷ xs) a = joined_above x xs [] a.0 ∙ ap (λ l. x ∷ l) (joined_none xs a.1)

  -- one step of a pass over both, with what is done so far in front
  module _ (xs ys : List X) (a : Ascends cmp xs) (done all : List X) (i k : ℕ) (x y : X) (hi : i < length xs) (hk : k < length ys) (ex : x ≡ get_or xs i x) (ey : y ≡ get_or ys k y) (so_far : done ++ joined cmp (drop i xs) (drop k ys) ≡ all) where
    here : done ++ joined cmp (x ∷ drop (i + 1) xs) (y ∷ drop (k + 1) ys) ≡ all
    here = (λ j. done ++ joined cmp (sym (left_from xs i x hi ex) j) (sym (left_from ys k y hk ey) j)) ∙ so_far

    rest : Ascends cmp (x ∷ drop (i + 1) xs)
    rest = subst (Ascends cmp) (left_from xs i x hi ex) (ascends_left cmp i xs a)

    pub merge_less : cmp x y ≡ Less → (done ++ x ∷ []) ++ joined cmp (drop (i + 1) xs) (drop k ys) ≡ all
    merge_less e =
        ap (λ l. (done ++ x ∷ []) ++ joined cmp (drop (i + 1) xs) l) (left_from ys k y hk ey)
        ∙ append_assoc done (x ∷ []) (joined cmp (drop (i + 1) xs) (y ∷ drop (k + 1) ys))
        ∙ ap (λ l. done ++ l) (sym (joined_less x y (drop (i + 1) xs) (drop (k + 1) ys) rest e)) ∙ here

    pub merge_equal : cmp x y ≡ Equal → done ++ joined cmp (drop (i + 1) xs) (drop k ys) ≡ all
    merge_equal e =
        ap (λ l. done ++ joined cmp (drop (i + 1) xs) l) (left_from ys k y hk ey)
        ∙ ap (λ l. done ++ l) (sym (joined_equal x y (drop (i + 1) xs) (drop (k + 1) ys) e)) ∙ here

    pub merge_greater : cmp x y ≡ Greater → (done ++ y ∷ []) ++ joined cmp (drop i xs) (drop (k + 1) ys) ≡ all
    merge_greater e =
        ap (λ l. (done ++ y ∷ []) ++ joined cmp l (drop (k + 1) ys)) (left_from xs i x hi ex)
        ∙ append_assoc done (y ∷ []) (joined cmp (x ∷ drop (i + 1) xs) (drop (k + 1) ys))
        ∙ ap (λ l. done ++ l) (sym (joined_greater x y (drop (i + 1) xs) (drop (k + 1) ys) rest e)) ∙ here

  -- where one of both is at its end, what is left of both follows
  pub merge_end_left : (xs ys done all : List X) (i k : ℕ) → length xs ≤ i → done ++ joined cmp (drop i xs) (drop k ys) ≡ all → (done ++ drop i xs) ++ drop k ys ≡ all
  merge_end_left xs ys done all i k le so_far =
      let none : drop i xs ≡ [] = drop_all i xs le in
      (λ j. (done ++ none j) ++ drop k ys) ∙ ap (λ l. l ++ drop k ys) (append-nil done) ∙ sym (λ j. done ++ joined cmp (none j) (drop k ys)) ∙ so_far

  pub merge_end_right : (xs ys done all : List X) (i k : ℕ) → Ascends cmp xs → length ys ≤ k → done ++ joined cmp (drop i xs) (drop k ys) ≡ all → (done ++ drop i xs) ++ drop k ys ≡ all
  merge_end_right xs ys done all i k a le so_far =
      let none : drop k ys ≡ [] = drop_all k ys le in
      (λ j. (done ++ drop i xs) ++ none j) ∙ append-nil (done ++ drop i xs)
      ∙ ap (λ l. done ++ l) (sym (joined_none (drop i xs) (ascends_left cmp i xs a)))
      ∙ sym (λ j. done ++ joined cmp (drop i xs) (none j)) ∙ so_far

  less_from : (v : Ordering) → true ≡ is_lt v → v ≡ Less
  less_from Less e = refl
  less_from Equal e = cc
  less_from Greater e = cc

  -- what a test of neighbours answers
  pub ascends_decided : (xs : List X) (r : Bool) → IsAllAdjacentAnswer (λ x y b. b ≡ is_lt (cmp x y)) xs r → IsTrue r ↔ Ascends cmp xs
  ascends_decided xs true a = (λ e. ascends_from_adjacent xs (λ k d h. less_from (cmp (get_or xs k d) (get_or xs (k + 1) d)) (a k d h)), λ s. refl)
  ascends_decided [] false a = absurd (omega (arith, a.1))
  ascends_decided (x ∷ xs) false a = (
    λ e. absurd (false≢true e),
    λ s. let less = adjacent_from_ascends cmp (x ∷ xs) s a.0 x a.1 in let not_less = a.2 x in absurd (false≢true (not_less ∙ ap is_lt less)),
  )
