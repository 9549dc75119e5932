-- Texts that were sorted, each kept once, are the texts in ascending order.
use Rattle.std.proofs.Common.{◌≡◌, ℕ, List, [], ◌∷◌, refl, sym, ap, ◌∙◌, inl, inr}
use Rattle.std.specs.Prelude.{◌⊎◌, bytes_eq}
use Rattle.std.specs.declared.cmp.Ordering.TheVariants.{Less, Equal}
use Rattle.std.specs.List.{AllByRecursion, dedup}
use Rattle.std.specs.List.Sorted.{IsPermutation, IsSorted, IsStrictlySortedBy}
use Rattle.std.specs.Cmp.{tied_itself}
use Rattle.std.specs.Cmp.Lexicographic.{nat_list_cmp_total, nat_list_eq_equiv, bytes_decides, texts_ties}
use Rattle.std.proofs.lemmas.List.Sorted.{IsPermutation-sym, Contains-permutation}
use Rattle.std.proofs.lemmas.List.Kept.{IsStrictlySortedBy-dedup, Contains-dedup, Contains-from_dedup}
use Rattle.dg_values.specs.Order.{text_cmp}
use Rattle.dg_values.specs.Ascending.{Ascends, ascending}
use Rattle.dg_tokens.proofs.Among.{IsAmong, among_contains, contains_among, from_ascending, to_ascending}
use Rattle.dg_tokens.proofs.Ascent.{ascending_ascends}

-- ---- strictly ascending lists of the same texts are the same

below : (x : List ℕ) (ys : List (List ℕ)) (t : List ℕ) → AllByRecursion (λ (y : List ℕ). text_cmp x y ≡ Less) ys → IsAmong ys t → text_cmp x t ≡ Less
below x [] t a h = absurd h
below x (y ∷ ys) t a (inl e) = ap (text_cmp x) (sym e) ∙ a.0
below x (y ∷ ys) t a (inr h) = below x ys t a.1 h

not_itself : (x : List ℕ) → text_cmp x x ≡ Less → ⊥
not_itself x h = let e : text_cmp x x ≡ Equal = tied_itself nat_list_cmp_total x in cc

heads : (x y : List ℕ) (xs ys : List (List ℕ)) → Ascends text_cmp (x ∷ xs) → Ascends text_cmp (y ∷ ys) → (y ≡ x) ⊎ IsAmong ys x → (x ≡ y) ⊎ IsAmong xs y → x ≡ y
heads x y xs ys a b (inl e) k = sym e
heads x y xs ys a b (inr h) (inl e) = e
heads x y xs ys a b (inr h) (inr k) = absurd (not_itself x (nat_list_cmp_total.trans x y x (below x xs y a.0 k) (below y ys x b.0 h)))

tail_has : (x y : List ℕ) (xs ys : List (List ℕ)) (t : List ℕ) → x ≡ y → Ascends text_cmp (x ∷ xs) → IsAmong xs t → (y ≡ t) ⊎ IsAmong ys t → IsAmong ys t
tail_has x y xs ys t same a h (inl e) = absurd (not_itself x (ap (text_cmp x) (same ∙ e) ∙ below x xs t a.0 h))
tail_has x y xs ys t same a h (inr k) = k

pub same_list : (xs ys : List (List ℕ)) → Ascends text_cmp xs → Ascends text_cmp ys → ((t : List ℕ) → IsAmong xs t → IsAmong ys t) → ((t : List ℕ) → IsAmong ys t → IsAmong xs t) → xs ≡ ys
same_list [] [] a b to of = refl
same_list [] (y ∷ ys) a b to of = absurd (of y (inl refl))
same_list (x ∷ xs) [] a b to of = absurd (to x (inl refl))
same_list (x ∷ xs) (y ∷ ys) a b to of =
    let first : x ≡ y = heads x y xs ys a b (to x (inl refl)) (of y (inl refl)) in
    let rest : xs ≡ ys = same_list xs ys a.1 b.1 (λ t h. tail_has x y xs ys t first a h (to t (inr h))) (λ t h. tail_has y x ys xs t (sym first) b h (of t (inr h))) in
    λ i. first i ∷ rest i

-- ---- sorted, and each kept once

strictly : (xs : List (List ℕ)) → IsStrictlySortedBy text_cmp xs → Ascends text_cmp xs
unfolding IsStrictlySortedBy
strictly [] h = tt
strictly (x ∷ xs) h = (h.0, strictly xs h.1)

module _ (old sorted : List (List ℕ)) (p : IsPermutation old sorted) (s : IsSorted text_cmp sorted) where
  kept_from : (t : List ℕ) → IsAmong (dedup bytes_eq sorted) t → IsAmong (ascending text_cmp old) t
  kept_from t h =
      to_ascending old t (contains_among old t (Contains-permutation sorted old t (IsPermutation-sym old sorted p) (Contains-from_dedup bytes_eq sorted t (among_contains (dedup bytes_eq sorted) t h))))

  from_kept : (t : List ℕ) → IsAmong (ascending text_cmp old) t → IsAmong (dedup bytes_eq sorted) t
  from_kept t h =
      contains_among (dedup bytes_eq sorted) t (Contains-dedup nat_list_eq_equiv (λ x y e. (bytes_decides x y).0 e) sorted t (Contains-permutation old sorted t p (among_contains old t (from_ascending old t h))))

  pub kept_once : dedup bytes_eq sorted ≡ ascending text_cmp old
  kept_once = same_list (dedup bytes_eq sorted) (ascending text_cmp old) (strictly (dedup bytes_eq sorted) (IsStrictlySortedBy-dedup nat_list_cmp_total texts_ties sorted s)) (ascending_ascends old) kept_from from_kept
