-- Items that were sorted, each kept once, are the items in ascending order.
use Rattle.std.proofs.Common.{◌≡◌, Bool, true, false, cond, List, [], ◌∷◌, refl, ap, subst, sym, ◌∙◌}
use Rattle.std.specs.Prelude.{◌||◌}
use Rattle.std.specs.List.{dedup, dedup_from}
use Rattle.std.specs.List.Sorted.{IsPermutation, IsSorted, IsStrictlySortedBy}
use Rattle.std.specs.declared.cmp.Ordering.{Ordering}
use Rattle.std.specs.Ordering.{is_eq, eq_by_cmp}
use Rattle.std.proofs.lemmas.List.Sorted.{list_any-IsPermutation}
use Rattle.std.proofs.lemmas.List.Kept.{IsStrictlySortedBy-dedup}
use Rattle.dg_values.specs.Order.{IsOrder}
use Rattle.dg_values.specs.Ascending.{Ascends, has, ascending}
use Rattle.dg_sets.proofs.MadeOrders.{total_from}
use Rattle.dg_sets.proofs.Sets.{or_twice, one_list, is_one, ascends_more, has_more}

strictly : {X : Type 0} (cmp : X → X → Ordering) (xs : List X) → IsStrictlySortedBy cmp xs → Ascends cmp xs
unfolding IsStrictlySortedBy
strictly cmp [] h = tt
strictly cmp (x ∷ xs) h = (h.0, strictly cmp xs h.1)

module _ {X : Type 0} (cmp : X → X → Ordering) (o : IsOrder cmp) where
  has_kept_from : (k : X) (xs : List X) (u : X) → has cmp (dedup_from (eq_by_cmp cmp) k xs) u ≡ (is_eq (cmp k u) || has cmp xs u)
  has_kept_from k [] u = refl
  has_kept_from k (x ∷ xs) u = by (is_eq (cmp x k)) refl (has_kept_from k xs u) (has_kept_from x xs u)
    where
      by : (v : Bool) → is_eq (cmp x k) ≡ v → has cmp (dedup_from (eq_by_cmp cmp) k xs) u ≡ (is_eq (cmp k u) || has cmp xs u) → has cmp (dedup_from (eq_by_cmp cmp) x xs) u ≡ (is_eq (cmp x u) || has cmp xs u) → has cmp (cond v (dedup_from (eq_by_cmp cmp) k xs) (k ∷ dedup_from (eq_by_cmp cmp) x xs)) u ≡ (is_eq (cmp k u) || (is_eq (cmp x u) || has cmp xs u))
      by true e same more = same ∙ sym (subst (λ (w : X). (is_eq (cmp k u) || (is_eq (cmp w u) || has cmp xs u)) ≡ (is_eq (cmp k u) || has cmp xs u)) (sym (is_one cmp o x k e)) (or_twice (is_eq (cmp k u)) (has cmp xs u)))
      by false e same more = ap (λ b. is_eq (cmp k u) || b) more

  has_kept : (xs : List X) (u : X) → has cmp (dedup (eq_by_cmp cmp) xs) u ≡ has cmp xs u
  has_kept [] u = refl
  has_kept (x ∷ xs) u = has_kept_from x xs u

  pub ascending_ascends : (xs : List X) → Ascends cmp (ascending cmp xs)
  ascending_ascends xs = ascends_more cmp o [] xs tt

  pub kept_once : (old sorted : List X) → IsPermutation old sorted → IsSorted cmp sorted → dedup (eq_by_cmp cmp) sorted ≡ ascending cmp old
  kept_once old sorted p s =
      one_list cmp o (dedup (eq_by_cmp cmp) sorted) (ascending cmp old)
      (strictly cmp (dedup (eq_by_cmp cmp) sorted) (IsStrictlySortedBy-dedup (total_from cmp o) (λ x y. refl) sorted s))
      (ascending_ascends old)
      (λ u. has_kept sorted u ∙ sym (list_any-IsPermutation (λ y. is_eq (cmp y u)) old sorted p) ∙ sym (has_more cmp o [] old u))
