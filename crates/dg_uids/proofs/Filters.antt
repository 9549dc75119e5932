-- What one ascending list has, or lacks, of another: one step of a pass over both, and one run of a cut.
use Rattle.std.proofs.Common.{◌≡◌, ℕ, ◌+◌, ◌<◌, ◌≤◌, Bool, true, false, cond, List, [], ◌∷◌, ◌++◌, length, get_or, drop, refl, ap, subst, sym, ◌∙◌, append_assoc}
use Rattle.std.proofs.lemmas.List.{drop_all, get_or_default}
use Rattle.std.specs.Prelude.{filter, not, ◌||◌, ◌&&◌}
use Rattle.std.specs.List.{AllByRecursion}
use Rattle.std.specs.declared.cmp.Ordering.{Ordering}
use Rattle.std.specs.declared.cmp.Ordering.TheVariants.{Less, Equal, Greater}
use Rattle.std.specs.Ordering.{is_eq}
use Rattle.dg_values.specs.Order.{IsOrder}
use Rattle.dg_values.specs.Ascending.{Ascends, has}
use Rattle.dg_sets.proofs.MadeOrders.{total_from}
use Rattle.dg_sets.proofs.Sets.{itself, forth, not_above, one_list, has_passed, ascends_passed}
use Rattle.dg_sets.proofs.Merges.{left_from, ascends_left, above_both}

-- a number by its place
pub at_place : (xs : List ℕ) (i : ℕ) → i < length xs → get_or xs i 0 ≡ get_or xs i (get_or xs i 0)
at_place xs i lt = get_or_default xs i 0 (get_or xs i 0) lt

module _ {X : Type 0} (cmp : X → X → Ordering) where
  -- the items of the second list for which the test holds of whether the first has them
  abbrev pub sifted : (Bool → Bool) → List X → List X → List X
  sifted f ys xs = filter (λ x. f (has cmp ys x)) xs

  pub sifted_kept : (f : Bool → Bool) (ys : List X) (x : X) (xs : List X) → f (has cmp ys x) ≡ true → sifted f ys (x ∷ xs) ≡ x ∷ sifted f ys xs
  sifted_kept f ys x xs e = ap (λ b. cond b (x ∷ sifted f ys xs) (sifted f ys xs)) e

  pub sifted_out : (f : Bool → Bool) (ys : List X) (x : X) (xs : List X) → f (has cmp ys x) ≡ false → sifted f ys (x ∷ xs) ≡ sifted f ys xs
  sifted_out f ys x xs e = ap (λ b. cond b (x ∷ sifted f ys xs) (sifted f ys xs)) e

  -- what is below all items doesn't count
  pub sifted_behind : (f : Bool → Bool) (y : X) (ys xs : List X) → AllByRecursion (λ x. cmp y x ≡ Less) xs → sifted f (y ∷ ys) xs ≡ sifted f ys xs
  sifted_behind f y ys [] a = refl
  sifted_behind f y ys (x ∷ xs) a =
      let rest = sifted_behind f y ys xs a.1 in
      λ i. cond (f (is_eq (a.0 i) || has cmp ys x)) (x ∷ rest i) (rest i)

module _ {X : Type 0} (cmp : X → X → Ordering) (o : IsOrder cmp) where
  has_first : (x : X) (xs : List X) → has cmp (x ∷ xs) x ≡ true
  has_first x xs = ap (λ v. is_eq v || has cmp xs x) (itself cmp o x)

  lacks_below : (x y : X) (ys : List X) → Ascends cmp (y ∷ ys) → cmp x y ≡ Less → has cmp (y ∷ ys) x ≡ false
  lacks_below x y ys s l = not_above cmp o x (y ∷ ys) (l, above_both cmp (total_from cmp o) x y ys l s.0)

  -- ---- one step of a pass over both, with what is done so far in front

  module _ (f : Bool → Bool) (xs ys : List X) (sx : Ascends cmp xs) (sy : Ascends cmp ys) (done all : List X) (i k : ℕ) (x y : X) (hi : i < length xs) (hk : k < length ys) (ex : x ≡ get_or xs i x) (ey : y ≡ get_or ys k y) (so_far : done ++ sifted cmp f (drop k ys) (drop i xs) ≡ all) where
    here : done ++ sifted cmp f (y ∷ drop (k + 1) ys) (x ∷ drop (i + 1) xs) ≡ all
    here = (λ j. done ++ sifted cmp f (sym (left_from ys k y hk ey) j) (sym (left_from xs i x hi ex) j)) ∙ so_far

    rest : Ascends cmp (x ∷ drop (i + 1) xs)
    rest = subst (Ascends cmp) (left_from xs i x hi ex) (ascends_left cmp i xs sx)

    others : Ascends cmp (y ∷ drop (k + 1) ys)
    others = subst (Ascends cmp) (left_from ys k y hk ey) (ascends_left cmp k ys sy)

    pub less_kept : f false ≡ true → cmp x y ≡ Less → (done ++ x ∷ []) ++ sifted cmp f (drop k ys) (drop (i + 1) xs) ≡ all
    less_kept t l =
        ap (λ zs. (done ++ x ∷ []) ++ sifted cmp f zs (drop (i + 1) xs)) (left_from ys k y hk ey)
        ∙ append_assoc done (x ∷ []) (sifted cmp f (y ∷ drop (k + 1) ys) (drop (i + 1) xs))
        ∙ ap (λ zs. done ++ zs) (sym (sifted_kept cmp f (y ∷ drop (k + 1) ys) x (drop (i + 1) xs) (ap f (lacks_below x y (drop (k + 1) ys) others l) ∙ t))) ∙ here

    -- the others have it, and it is below the rest
    there : cmp x y ≡ Equal → has cmp (y ∷ drop (k + 1) ys) x ≡ true
    there e = subst (λ (z : X). has cmp (z ∷ drop (k + 1) ys) x ≡ true) (o.same x y e) (has_first x (drop (k + 1) ys))

    beyond : cmp x y ≡ Equal → sifted cmp f (y ∷ drop (k + 1) ys) (drop (i + 1) xs) ≡ sifted cmp f (drop (k + 1) ys) (drop (i + 1) xs)
    beyond e = sifted_behind cmp f y (drop (k + 1) ys) (drop (i + 1) xs) (subst (λ (z : X). AllByRecursion (λ w. cmp z w ≡ Less) (drop (i + 1) xs)) (o.same x y e) rest.0)

    pub equal_out : f true ≡ false → cmp x y ≡ Equal → done ++ sifted cmp f (drop (k + 1) ys) (drop (i + 1) xs) ≡ all
    equal_out t e =
        ap (λ zs. done ++ zs) (sym (beyond e))
        ∙ ap (λ zs. done ++ zs) (sym (sifted_out cmp f (y ∷ drop (k + 1) ys) x (drop (i + 1) xs) (ap f (there e) ∙ t))) ∙ here

    pub greater_skipped : cmp x y ≡ Greater → done ++ sifted cmp f (drop (k + 1) ys) (drop i xs) ≡ all
    greater_skipped g =
        let l : cmp y x ≡ Less = forth cmp o x y g in
        ap (λ zs. done ++ sifted cmp f (drop (k + 1) ys) zs) (left_from xs i x hi ex)
        ∙ ap (λ zs. done ++ zs) (sym (sifted_behind cmp f y (drop (k + 1) ys) (x ∷ drop (i + 1) xs) (l, above_both cmp (total_from cmp o) y x (drop (i + 1) xs) l rest.0))) ∙ here

  -- ---- the ends

  all_lacked : (xs : List X) → sifted cmp not [] xs ≡ xs
  all_lacked [] = refl
  all_lacked (x ∷ xs) = ap (λ zs. x ∷ zs) (all_lacked xs)

  pub lacking_end_items : (xs ys done all : List X) (i k : ℕ) → length xs ≤ i → done ++ sifted cmp not (drop k ys) (drop i xs) ≡ all → done ++ drop i xs ≡ all
  lacking_end_items xs ys done all i k le so_far = (λ j. done ++ drop_all i xs le j) ∙ sym (λ j. done ++ sifted cmp not (drop k ys) (drop_all i xs le j)) ∙ so_far

  pub lacking_end_others : (xs ys done all : List X) (i k : ℕ) → length ys ≤ k → done ++ sifted cmp not (drop k ys) (drop i xs) ≡ all → done ++ drop i xs ≡ all
  lacking_end_others xs ys done all i k le so_far =
      ap (λ zs. done ++ zs) (sym (all_lacked (drop i xs))) ∙ sym (λ j. done ++ sifted cmp not (drop_all k ys le j) (drop i xs)) ∙ so_far

  -- what two lists have in common is the same from either side
  pub common_turned : (xs ys : List X) → Ascends cmp xs → Ascends cmp ys → sifted cmp (λ b. b) ys xs ≡ sifted cmp (λ b. b) xs ys
  common_turned xs ys sx sy =
      one_list cmp o (sifted cmp (λ b. b) ys xs) (sifted cmp (λ b. b) xs ys)
      (ascends_passed cmp o (has cmp ys) xs sx)
      (ascends_passed cmp o (has cmp xs) ys sy)
      (λ u. has_passed cmp o (has cmp ys) xs u ∙ turned (has cmp ys u) (has cmp xs u) ∙ sym (has_passed cmp o (has cmp xs) ys u))
    where
      turned : (a b : Bool) → (a && b) ≡ (b && a)
      turned true true = refl
      turned true false = refl
      turned false true = refl
      turned false false = refl
