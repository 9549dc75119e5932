-- Lists in which something passes a test, and lists in order.
use Rattle.std.proofs.Common.{◌≡◌, ℕ, ◌+◌, ◌<◌, nat_le, take, length, get_or, append-nil, Bool, true, false, cond, List, [], ◌∷◌, ◌++◌, refl, ap, sym, ◌∙◌, arith}
use Rattle.std.specs.Prelude.{◌||◌, filter, filter_map, Option, Some, None}
use Rattle.std.specs.List.{list_any, cons_option}
use Rattle.std.proofs.lemmas.List.{take_more}
use Rattle.std.proofs.lemmas.List.Elements.{filter_map-append}
use Rattle.std.proofs.lemmas.Bool.{le-leb}
use Rattle.std.specs.declared.cmp.Ordering.{Ordering}
use Rattle.std.specs.Ordering.{is_eq}
use Rattle.dg_values.specs.Order.{IsOrder}
use Rattle.dg_values.specs.Ascending.{Ascends, has, ascending}
use Rattle.dg_sets.proofs.Sets.{is_itself, one_list, has_more, ascends_more, any_at}

-- tests that hold of each other are one
pub same_when : (a b : Bool) → (a ≡ true → b ≡ true) → (b ≡ true → a ≡ true) → a ≡ b
same_when true b f g = sym (f refl)
same_when false true f g = g refl
same_when false false f g = refl

-- a list has some element exactly where its length is at least 1
pub some_is : {X : Type 0} (xs : List X) → nat_le 1 (length xs) ≡ list_any (λ x. true) xs
some_is [] = refl
some_is (x ∷ xs) = le-leb 1 (length (x ∷ xs)) (omega arith)

module _ {X : Type 0} (cmp : X → X → Ordering) (order : IsOrder cmp) where
  -- these in order are ascending, and have what these have; where they ascend they stay
  pub ascending_has : (xs : List X) (u : X) → has cmp (ascending cmp xs) u ≡ has cmp xs u
  ascending_has xs u = has_more cmp order [] xs u

  pub ascending_ascends : (xs : List X) → Ascends cmp (ascending cmp xs)
  ascending_ascends xs = ascends_more cmp order [] xs tt

  pub ascending_same : (xs : List X) → Ascends cmp xs → ascending cmp xs ≡ xs
  ascending_same xs a = one_list cmp order (ascending cmp xs) xs (ascending_ascends xs) a (λ u. ascending_has xs u)

module _ {X : Type 0} (cmp : X → X → Ordering) (order : IsOrder cmp) (test : X → Bool) where
  -- one of these that passes
  pub record Passing (xs : List X) : Type 0 where
    pub it : X
    pub passes : test it ≡ true
    pub there : has cmp xs it ≡ true

  pub passing : (xs : List X) → list_any test xs ≡ true → Passing xs
  passing [] e = absurd (cc)
  passing (x ∷ xs) e = by (test x) refl e (λ k. passing xs k)
    where
      later : (b c : Bool) → c ≡ true → (b || c) ≡ true
      later true c e = refl
      later false c e = e

      by : (v : Bool) → test x ≡ v → (v || list_any test xs) ≡ true → (list_any test xs ≡ true → Passing xs) → Passing (x ∷ xs)
      by true p e rest = record { it = x; passes = p; there = rw (is_itself cmp order x) refl }
      by false p e rest = let r = rest e in record { it = r.it; passes = r.passes; there = later (is_eq (cmp x r.it)) (has cmp xs r.it) r.there }

  any_then : (xs ys : List X) → ((x : X) → test x ≡ true → has cmp xs x ≡ has cmp ys x) → list_any test xs ≡ true → list_any test ys ≡ true
  any_then xs ys f e = let r = passing xs e in any_at cmp order test ys r.it r.passes (sym (f r.it r.passes) ∙ r.there)

  -- lists that have the same of those that pass
  pub any_same : (xs ys : List X) → ((x : X) → test x ≡ true → has cmp xs x ≡ has cmp ys x) → list_any test xs ≡ list_any test ys
  any_same xs ys f = same_when (list_any test xs) (list_any test ys) (any_then xs ys f) (any_then ys xs (λ x p. sym (f x p)))

-- these in order have some element exactly where these have one
pub some_ascending : {X : Type 0} (cmp : X → X → Ordering) → IsOrder cmp → (xs : List X) → nat_le 1 (length (ascending cmp xs)) ≡ nat_le 1 (length xs)
some_ascending cmp order xs =
    some_is (ascending cmp xs) ∙ (any_same cmp order (λ x. true) (ascending cmp xs) xs (λ x p. ascending_has cmp order xs x) ∙ sym (some_is xs))

-- ---- one element more

module _ {X : Type 0} (f : X → Bool) where
  filter-joined : (xs ys : List X) → filter f (xs ++ ys) ≡ filter f xs ++ filter f ys
  filter-joined [] ys = refl
  filter-joined (x ∷ xs) ys = by (f x) (filter-joined xs ys)
    where
      by : (v : Bool) → filter f (xs ++ ys) ≡ filter f xs ++ filter f ys → cond v (x ∷ filter f (xs ++ ys)) (filter f (xs ++ ys)) ≡ cond v (x ∷ filter f xs) (filter f xs) ++ filter f ys
      by true e = ap (λ zs. x ∷ zs) e
      by false e = e

  filter_one : (xs : List X) (i : ℕ) (d : X) → i < length xs → filter f (take (i + 1) xs) ≡ filter f (take i xs) ++ cond (f (get_or xs i d)) (get_or xs i d ∷ []) []
  filter_one xs i d lt = ap (filter f) (take_more xs i d lt) ∙ filter-joined (take i xs) (get_or xs i d ∷ [])

  pub filter_some : (xs : List X) (i : ℕ) (d : X) → i < length xs → f (get_or xs i d) ≡ true → filter f (take (i + 1) xs) ≡ filter f (take i xs) ++ get_or xs i d ∷ []
  filter_some xs i d lt e = filter_one xs i d lt ∙ λ j. filter f (take i xs) ++ cond (e j) (get_or xs i d ∷ []) []

  pub filter_none : (xs : List X) (i : ℕ) (d : X) → i < length xs → f (get_or xs i d) ≡ false → filter f (take (i + 1) xs) ≡ filter f (take i xs)
  filter_none xs i d lt e = filter_one xs i d lt ∙ ((λ j. filter f (take i xs) ++ cond (e j) (get_or xs i d ∷ []) []) ∙ append-nil (filter f (take i xs)))

module _ {X Y : Type 0} (f : X → Option Y) where
  map_one : (xs : List X) (i : ℕ) (d : X) → i < length xs → filter_map f (take (i + 1) xs) ≡ filter_map f (take i xs) ++ cons_option (f (get_or xs i d)) []
  map_one xs i d lt = ap (filter_map f) (take_more xs i d lt) ∙ filter_map-append f (take i xs) (get_or xs i d ∷ [])

  pub filter_map_some : (xs : List X) (i : ℕ) (d : X) (y : Y) → i < length xs → f (get_or xs i d) ≡ Some y → filter_map f (take (i + 1) xs) ≡ filter_map f (take i xs) ++ y ∷ []
  filter_map_some xs i d y lt e = map_one xs i d lt ∙ ap (λ o. filter_map f (take i xs) ++ cons_option o []) e

  pub filter_map_none : (xs : List X) (i : ℕ) (d : X) → i < length xs → f (get_or xs i d) ≡ None → filter_map f (take (i + 1) xs) ≡ filter_map f (take i xs)
  filter_map_none xs i d lt e = map_one xs i d lt ∙ (ap (λ o. filter_map f (take i xs) ++ cons_option o []) e ∙ append-nil (filter_map f (take i xs)))
