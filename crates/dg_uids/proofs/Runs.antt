-- A long ascending list cut into runs at the uids of a short one.
use Rattle.std.proofs.Common.{◌≡◌, ℕ, zero, suc, Bool, true, false, cond, List, [], ◌∷◌, ◌++◌, take, drop, refl, ap, subst, sym, ◌∙◌, append_assoc}
use Rattle.std.proofs.lemmas.List.Elements.{filter-append}
use Rattle.std.specs.Prelude.{Some, not, ◌||◌}
use Rattle.std.specs.List.{AllByRecursion, slice_get}
use Rattle.std.specs.declared.cmp.Ordering.{Ordering}
use Rattle.std.specs.declared.cmp.Ordering.TheVariants.{Less}
use Rattle.std.specs.Ordering.{is_eq}
use Rattle.dg_values.specs.Order.{IsOrder}
use Rattle.dg_values.specs.Ascending.{Ascends, has, with_one, without_one}
use Rattle.dg_sets.proofs.MadeOrders.{total_from}
use Rattle.dg_sets.proofs.Sets.{eq_turn, not_above, ascends_with, one_list, has_more, ascends_more, has_with, has_joined}
use Rattle.dg_sets.proofs.Merges.{joined, joined_above, above_both}
use Rattle.dg_uids.proofs.Filters.{sifted, sifted_kept, sifted_out}

-- a list around what stands at a place
pub split_at_item : {X : Type 0} (xs : List X) (i : ℕ) (x : X) → slice_get xs i ≡ Some x → xs ≡ take i xs ++ x ∷ drop (suc i) xs
split_at_item [] i x e = absurd (cc)
split_at_item (y ∷ ys) zero x e = let same : y ≡ x = cc in ap (λ z. z ∷ ys) same
split_at_item (y ∷ ys) (suc i) x e = ap (λ zs. y ∷ zs) (split_at_item ys i x e)

module _ {X : Type 0} (cmp : X → X → Ordering) where
  back_ascends : (front : List X) (x : X) (back : List X) → Ascends cmp (front ++ x ∷ back) → Ascends cmp back
  back_ascends [] x back a = a.1
  back_ascends (w ∷ front) x back a = back_ascends front x back a.1

  first_behind : (P : X → Type 0) (front : List X) (x : X) (back : List X) → AllByRecursion P (front ++ x ∷ back) → P x
  first_behind P [] x back a = a.0
  first_behind P (w ∷ front) x back a = first_behind P front x back a.1

  front_below : (front : List X) (x : X) (back : List X) → Ascends cmp (front ++ x ∷ back) → AllByRecursion (λ w. cmp w x ≡ Less) front
  front_below [] x back a = tt
  front_below (w ∷ front) x back a = (first_behind (λ z. cmp w z ≡ Less) front x back a.0, front_below front x back a.1)

  filtered_twice : (o : IsOrder cmp) (x : X) (xs rest : List X) → sifted cmp not (x ∷ xs) rest ≡ sifted cmp not xs (without_one cmp rest x)
  filtered_twice o x xs [] = refl
  filtered_twice o x xs (w ∷ rest) = by (is_eq (cmp w x)) (eq_turn cmp o x w) (filtered_twice o x xs rest)
    where
      by : (v : Bool) → is_eq (cmp x w) ≡ v → sifted cmp not (x ∷ xs) rest ≡ sifted cmp not xs (without_one cmp rest x) → sifted cmp not (x ∷ xs) (w ∷ rest) ≡ sifted cmp not xs (cond (not v) (w ∷ without_one cmp rest x) (without_one cmp rest x))
      by true e same = ap (λ b. cond (not (b || has cmp xs w)) (w ∷ sifted cmp not (x ∷ xs) rest) (sifted cmp not (x ∷ xs) rest)) e ∙ same
      by false e same = λ i. cond (not (e i || has cmp xs w)) (w ∷ same i) (same i)

module _ {X : Type 0} (cmp : X → X → Ordering) (o : IsOrder cmp) (x : X) (xs rest below above : List X) (cut : Ascends cmp (x ∷ xs)) (ascends : Ascends cmp rest) (put : with_one cmp rest x ≡ below ++ x ∷ above) where
  split_ascends : Ascends cmp (below ++ x ∷ above)
  split_ascends = subst (Ascends cmp) put (ascends_with cmp o rest x ascends)

  pub above_ascends : Ascends cmp above
  above_ascends = back_ascends cmp below x above split_ascends

  kept : (front : List X) → AllByRecursion (λ w. cmp w x ≡ Less) front → sifted cmp not xs front ≡ front
  kept [] a = refl
  kept (w ∷ front) a =
      let lacks : has cmp xs w ≡ false = not_above cmp o w xs (above_both cmp (total_from cmp o) w x xs a.0 cut.0) in
      ap (λ b. cond (not b) (w ∷ sifted cmp not xs front) (sifted cmp not xs front)) lacks ∙ ap (λ zs. w ∷ zs) (kept front a.1)

  stays : (front back : List X) → AllByRecursion (λ w. cmp w x ≡ Less) front → joined cmp xs (front ++ back) ≡ front ++ joined cmp xs back
  stays [] back a = refl
  stays (w ∷ front) back a =
      joined_above cmp (total_from cmp o) w xs (front ++ back) (above_both cmp (total_from cmp o) w x xs a.0 cut.0) ∙ ap (λ zs. w ∷ zs) (stays front back a.1)

  -- ---- the rest is left for what is above the uid

  none_below : (w : X) (front : List X) → AllByRecursion (λ z. cmp z x ≡ Less) front → cmp x w ≡ Less → has cmp front w ≡ false
  none_below w [] a l = refl
  none_below w (z ∷ front) a l = ap (λ v. is_eq v || has cmp front w) (o.trans z x w a.0 l) ∙ none_below w front a.1 l

  has_above : (w : X) → cmp x w ≡ Less → has cmp above w ≡ has cmp rest w
  has_above w l =
      let behind : (is_eq (cmp x w) || has cmp above w) ≡ has cmp above w = ap (λ v. is_eq v || has cmp above w) l in
      let ahead : (is_eq (cmp x w) || has cmp rest w) ≡ has cmp rest w = ap (λ v. is_eq v || has cmp rest w) l in
      sym (ap (λ b. b || (is_eq (cmp x w) || has cmp above w)) (none_below w below (front_below cmp below x above split_ascends) l) ∙ behind)
      ∙ sym (has_joined cmp o below (x ∷ above) w)
      ∙ ap (λ zs. has cmp zs w) (sym put)
      ∙ has_with cmp o rest x w
      ∙ ahead

  sifted_above : (f : Bool → Bool) (later : List X) → AllByRecursion (λ w. cmp x w ≡ Less) later → sifted cmp f above later ≡ sifted cmp f rest later
  sifted_above f [] a = refl
  sifted_above f (w ∷ later) a =
      let more = sifted_above f later a.1 in
      λ i. cond (f (has_above w a.0 i)) (w ∷ more i) (more i)

  -- one uid is asked for, and kept
  pub kept_one : (f : Bool → Bool) (done all : List X) → f (has cmp rest x) ≡ true → done ++ sifted cmp f rest (x ∷ xs) ≡ all → (done ++ x ∷ []) ++ sifted cmp f above xs ≡ all
  kept_one f done all is so_far =
      append_assoc done (x ∷ []) (sifted cmp f above xs)
      ∙ ap (λ zs. done ++ x ∷ zs) (sifted_above f xs cut.0)
      ∙ ap (λ zs. done ++ zs) (sym (sifted_kept cmp f rest x xs is))
      ∙ so_far

  -- one uid is asked for, and left out
  pub left_one : (f : Bool → Bool) (done all : List X) → f (has cmp rest x) ≡ false → done ++ sifted cmp f rest (x ∷ xs) ≡ all → done ++ sifted cmp f above xs ≡ all
  left_one f done all isnt so_far =
      ap (λ zs. done ++ zs) (sifted_above f xs cut.0 ∙ sym (sifted_out cmp f rest x xs isnt))
      ∙ so_far

  -- one uid is cut out
  pub cut_one : (done all : List X) → without_one cmp rest x ≡ below ++ above → done ++ sifted cmp not (x ∷ xs) rest ≡ all → (done ++ below) ++ sifted cmp not xs above ≡ all
  cut_one done all taken so_far =
      append_assoc done below (sifted cmp not xs above)
      ∙ ap (λ zs. done ++ zs)
      (ap (λ zs. zs ++ sifted cmp not xs above) (sym (kept below (front_below cmp below x above split_ascends)))
      ∙ sym (filter-append (λ w. not (has cmp xs w)) below above)
      ∙ ap (sifted cmp not xs) (sym taken)
      ∙ sym (filtered_twice cmp o x xs rest))
      ∙ so_far

  -- one uid is put in
  pub splice_one : (done all : List X) → done ++ joined cmp (x ∷ xs) rest ≡ all → ((done ++ below) ++ x ∷ []) ++ joined cmp xs above ≡ all
  splice_one done all so_far =
      append_assoc (done ++ below) (x ∷ []) (joined cmp xs above)
      ∙ append_assoc done below (x ∷ joined cmp xs above)
      ∙ ap (λ zs. done ++ zs)
      (ap (λ zs. below ++ zs) (sym (joined_above cmp (total_from cmp o) x xs above cut.0))
      ∙ sym (stays below (x ∷ above) (front_below cmp below x above split_ascends))
      ∙ ap (joined cmp xs) (sym put))
      ∙ so_far

-- two lists make the same one, whichever is put into the other
pub joined_turned : {X : Type 0} (cmp : X → X → Ordering) → IsOrder cmp → (xs ys : List X) → Ascends cmp xs → Ascends cmp ys → joined cmp xs ys ≡ joined cmp ys xs
joined_turned cmp o xs ys sx sy =
    one_list cmp o (joined cmp xs ys) (joined cmp ys xs) (ascends_more cmp o ys xs sy) (ascends_more cmp o xs ys sx)
    (λ u. has_more cmp o ys xs u ∙ turned (has cmp ys u) (has cmp xs u) ∙ sym (has_more cmp o xs ys u))
  where
    turned : (a b : Bool) → (a || b) ≡ (b || a)
    turned true true = refl
    turned true false = refl
    turned false true = refl
    turned false false = refl
