-- Ascending lists as sets.
use Rattle.std.proofs.Common.{◌≡◌, Bool, true, false, cond, List, [], ◌∷◌, ◌++◌, fold, refl, ap, subst, sym, ◌∙◌}
use Rattle.std.specs.Prelude.{◌&&◌, ◌||◌, filter}
use Rattle.std.specs.List.{AllByRecursion, list_any}
use Rattle.std.specs.declared.cmp.Ordering.{Ordering}
use Rattle.std.specs.declared.cmp.Ordering.TheVariants.{Less, Equal, Greater}
use Rattle.std.specs.Ordering.{is_eq, ordering_reverse}
use Rattle.dg_values.specs.Ascending.{Ascends, has, placed, with_one}
use Rattle.dg_values.specs.Order.{IsOrder}

pub or_moved : (a b c : Bool) → (a || (b || c)) ≡ (b || (a || c))
or_moved true true c = refl
or_moved true false c = refl
or_moved false b c = refl

pub or_twice : (a b : Bool) → (a || (a || b)) ≡ (a || b)
or_twice true b = refl
or_twice false b = refl

-- ---- all, by elements

pub all_with : {X : Type 0} (P Q : X → Type 0) (xs : List X) → ((x : X) → P x → Q x) → AllByRecursion P xs → AllByRecursion Q xs
all_with P Q [] f a = tt
all_with P Q (x ∷ xs) f a = (f x a.0, all_with P Q xs f a.1)

pub all_passed : {X : Type 0} (P : X → Type 0) (f : X → Bool) (xs : List X) → AllByRecursion P xs → AllByRecursion P (filter f xs)
all_passed P f [] a = tt
all_passed P f (x ∷ xs) a =
    elim (f x) as (λ b. AllByRecursion P (cond b (x ∷ filter f xs) (filter f xs))) [ true ↦ (a.0, all_passed P f xs a.1) | false ↦ all_passed P f xs a.1 ]

module _ {X : Type 0} (cmp : X → X → Ordering) (o : IsOrder cmp) where
  pub itself : (x : X) → cmp x x ≡ Equal
  itself x = o.itself x

  pub back : (x y : X) → cmp x y ≡ Less → cmp y x ≡ Greater
  back x y e = o.antisymm y x ∙ ap ordering_reverse e

  pub forth : (x y : X) → cmp x y ≡ Greater → cmp y x ≡ Less
  forth x y e = o.antisymm y x ∙ ap ordering_reverse e

  -- what is_eq says
  pub is_one : (x y : X) → is_eq (cmp x y) ≡ true → x ≡ y
  is_one x y e = by (cmp x y) refl e
    where
      by : (v : Ordering) → cmp x y ≡ v → is_eq v ≡ true → x ≡ y
      by Less p e = absurd (cc)
      by Equal p e = o.same x y p
      by Greater p e = absurd (cc)

  pub is_itself : (x : X) → is_eq (cmp x x) ≡ true
  is_itself x = ap is_eq (itself x)

  pub eq_turn : (x y : X) → is_eq (cmp x y) ≡ is_eq (cmp y x)
  eq_turn x y = ap is_eq (o.antisymm x y) ∙ turned (cmp y x)
    where
      turned : (v : Ordering) → is_eq (ordering_reverse v) ≡ is_eq v
      turned Less = refl
      turned Equal = refl
      turned Greater = refl

  -- what holds of all holds of each
  pub at : (P : X → Type 0) (xs : List X) (u : X) → AllByRecursion P xs → has cmp xs u ≡ true → P u
  at P [] u a h = absurd (cc)
  at P (x ∷ xs) u a h = by (is_eq (cmp x u)) refl h (λ k. at P xs u a.1 k)
    where
      by : (v : Bool) → is_eq (cmp x u) ≡ v → (v || has cmp xs u) ≡ true → (has cmp xs u ≡ true → P u) → P u
      by true e h rest = subst P (is_one x u e) a.0
      by false e h rest = rest h

  -- and what holds of each holds of all
  pub from_each : (P : X → Type 0) (xs : List X) → ((u : X) → has cmp xs u ≡ true → P u) → AllByRecursion P xs
  from_each P [] f = tt
  from_each P (x ∷ xs) f =
      (f x (rw is_itself refl), from_each P xs (λ u h. f u (later (is_eq (cmp x u)) (has cmp xs u) h)))
    where
      later : (a b : Bool) → b ≡ true → (a || b) ≡ true
      later true b e = refl
      later false b e = e

  -- the first isn't among those above it
  pub above : (x u : X) (xs : List X) → AllByRecursion (λ y. cmp x y ≡ Less) xs → has cmp xs u ≡ true → cmp x u ≡ Less
  above x u xs a h = at (λ y. cmp x y ≡ Less) xs u a h

  pub not_above : (x : X) (xs : List X) → AllByRecursion (λ y. cmp x y ≡ Less) xs → has cmp xs x ≡ false
  not_above x xs a = by (has cmp xs x) refl
    where
      by : (v : Bool) → has cmp xs x ≡ v → v ≡ false
      by true e = let l = above x x xs a e in let t = itself x in absurd (cc)
      by false e = refl

  -- lists with the same elements are one
  pub one_list : (xs ys : List X) → Ascends cmp xs → Ascends cmp ys → ((u : X) → has cmp xs u ≡ has cmp ys u) → xs ≡ ys
  one_list [] [] a b e = refl
  one_list [] (y ∷ ys) a b e = let f = e y in let t = is_itself y in absurd (none (is_eq (cmp y y)) (has cmp ys y) t f)
    where
      none : (a b : Bool) → a ≡ true → false ≡ (a || b) → ⊥
      none true b e f = cc
      none false b e f = cc
  one_list (x ∷ xs) [] a b e = let f = e x in let t = is_itself x in absurd (none (is_eq (cmp x x)) (has cmp xs x) t f)
    where
      none : (a b : Bool) → a ≡ true → (a || b) ≡ false → ⊥
      none true b e f = cc
      none false b e f = cc
  one_list (x ∷ xs) (y ∷ ys) a b e = by (cmp x y) refl (λ k f. one_list xs ys a.1 k f)
    where
      -- the lesser one isn't in the other list
      lesser : (s t : X) (ts : List X) → AllByRecursion (λ w. cmp t w ≡ Less) ts → cmp s t ≡ Less → has cmp (t ∷ ts) s ≡ true → ⊥
      lesser s t ts all l h = split (is_eq (cmp t s)) refl h
        where
          split : (v : Bool) → is_eq (cmp t s) ≡ v → (v || has cmp ts s) ≡ true → ⊥
          split true p h = let q = back s t l in cc (ap is_eq q)
          split false p h = let q = back s t l in let r = above t s ts all h in cc

      tails : (s : X) (u : X) (us vs : List X) → AllByRecursion (λ w. cmp s w ≡ Less) us → AllByRecursion (λ w. cmp s w ≡ Less) vs → (is_eq (cmp s u) || has cmp us u) ≡ (is_eq (cmp s u) || has cmp vs u) → has cmp us u ≡ has cmp vs u
      tails s u us vs au av f = split (is_eq (cmp s u)) refl f
        where
          split : (v : Bool) → is_eq (cmp s u) ≡ v → (v || has cmp us u) ≡ (v || has cmp vs u) → has cmp us u ≡ has cmp vs u
          split true p f = let same = is_one s u p in subst (λ (w : X). has cmp us w ≡ has cmp vs w) same (not_above s us au ∙ sym (not_above s vs av))
          split false p f = f

      by : (v : Ordering) → cmp x y ≡ v → (Ascends cmp ys → ((u : X) → has cmp xs u ≡ has cmp ys u) → xs ≡ ys) → x ∷ xs ≡ y ∷ ys
      by Less p more = absurd (lesser x y ys b.0 p (sym (e x) ∙ rw is_itself refl))
      by Greater p more = absurd (lesser y x xs a.0 (forth x y p) (e y ∙ rw is_itself refl))
      by Equal p more =
          let same : y ≡ x = sym (o.same x y p) in
          let up : AllByRecursion (λ w. cmp x w ≡ Less) ys = subst (λ (w : X). AllByRecursion (λ z. cmp w z ≡ Less) ys) same b.0 in
          let both : (u : X) → (is_eq (cmp x u) || has cmp xs u) ≡ (is_eq (cmp x u) || has cmp ys u) = λ u. subst (λ (w : X). (is_eq (cmp x u) || has cmp xs u) ≡ (is_eq (cmp w u) || has cmp ys u)) same (e u) in
          let rest = more b.1 (λ u. tails x u xs ys a.0 up (both u)) in
          let first : x ≡ y = o.same x y p in
          λ i. first i ∷ rest i

  -- ---- one more

  pub has_with : (xs : List X) (x u : X) → has cmp (with_one cmp xs x) u ≡ (is_eq (cmp x u) || has cmp xs u)
  has_with [] x u = refl
  has_with (y ∷ ys) x u = by (cmp x y) refl (has_with ys x u)
    where
      by : (v : Ordering) → cmp x y ≡ v → has cmp (with_one cmp ys x) u ≡ (is_eq (cmp x u) || has cmp ys u) → has cmp (placed v x y ys (with_one cmp ys x)) u ≡ (is_eq (cmp x u) || (is_eq (cmp y u) || has cmp ys u))
      by Less p rest = refl
      by Equal p rest = subst (λ (w : X). (is_eq (cmp y u) || has cmp ys u) ≡ (is_eq (cmp w u) || (is_eq (cmp y u) || has cmp ys u))) (sym (o.same x y p)) (sym (or_twice (is_eq (cmp y u)) (has cmp ys u)))
      by Greater p rest = ap (λ (b : Bool). is_eq (cmp y u) || b) rest ∙ or_moved (is_eq (cmp y u)) (is_eq (cmp x u)) (has cmp ys u)

  pub ascends_with : (xs : List X) (x : X) → Ascends cmp xs → Ascends cmp (with_one cmp xs x)
  ascends_with [] x a = (tt, tt)
  ascends_with (y ∷ ys) x a = by (cmp x y) refl (ascends_with ys x a.1)
    where
      by : (v : Ordering) → cmp x y ≡ v → Ascends cmp (with_one cmp ys x) → Ascends cmp (placed v x y ys (with_one cmp ys x))
      by Less p rest = ((p, all_with (λ w. cmp y w ≡ Less) (λ w. cmp x w ≡ Less) ys (λ w l. o.trans x y w p l) a.0), a)
      by Equal p rest = a
      by Greater p rest =
          (from_each (λ w. cmp y w ≡ Less) (with_one cmp ys x) (λ u h. split u (is_eq (cmp x u)) refl (sym (has_with ys x u) ∙ h)), rest)
        where
          split : (u : X) (v : Bool) → is_eq (cmp x u) ≡ v → (v || has cmp ys u) ≡ true → cmp y u ≡ Less
          split u true e h = subst (λ (w : X). cmp y w ≡ Less) (is_one x u e) (forth x y p)
          split u false e h = above y u ys a.0 h

  -- ---- those that pass

  pub has_passed : (f : X → Bool) (xs : List X) (u : X) → has cmp (filter f xs) u ≡ (f u && has cmp xs u)
  has_passed f [] u = none (f u)
    where
      none : (b : Bool) → false ≡ (b && false)
      none true = refl
      none false = refl
  has_passed f (x ∷ xs) u = by (f x) refl (has_passed f xs u)
    where
      join : (v w : Bool) → (is_eq (cmp x u) ≡ v) → f u ≡ w → f x ≡ true → (v || (w && has cmp xs u)) ≡ (w && (v || has cmp xs u))
      join true true p q e = refl
      join true false p q e = let same = ap f (is_one x u p) in absurd (cc)
      join false w p q e = refl

      out : (v w : Bool) → (is_eq (cmp x u) ≡ v) → f u ≡ w → f x ≡ false → (w && has cmp xs u) ≡ (w && (v || has cmp xs u))
      out true true p q e = let same = ap f (is_one x u p) in absurd (cc)
      out true false p q e = refl
      out false w p q e = refl

      by : (v : Bool) → f x ≡ v → has cmp (filter f xs) u ≡ (f u && has cmp xs u) → has cmp (cond v (x ∷ filter f xs) (filter f xs)) u ≡ (f u && (is_eq (cmp x u) || has cmp xs u))
      by true e rest = ap (λ (b : Bool). is_eq (cmp x u) || b) rest ∙ join (is_eq (cmp x u)) (f u) refl refl e
      by false e rest = rest ∙ out (is_eq (cmp x u)) (f u) refl refl e

  pub ascends_passed : (f : X → Bool) (xs : List X) → Ascends cmp xs → Ascends cmp (filter f xs)
  ascends_passed f [] a = tt
  ascends_passed f (x ∷ xs) a =
      elim (f x) as (λ b. Ascends cmp (cond b (x ∷ filter f xs) (filter f xs))) [ true ↦ (all_passed (λ y. cmp x y ≡ Less) f xs a.0, ascends_passed f xs a.1) | false ↦ ascends_passed f xs a.1 ]

  -- ---- more, each at its place

  pub has_more : (base xs : List X) (u : X) → has cmp (fold (with_one cmp) base xs) u ≡ (has cmp base u || has cmp xs u)
  has_more base [] u = none (has cmp base u)
    where
      none : (b : Bool) → b ≡ (b || false)
      none true = refl
      none false = refl
  has_more base (x ∷ xs) u =
      has_more (with_one cmp base x) xs u ∙ (ap (λ (b : Bool). b || has cmp xs u) (has_with base x u) ∙ joined (is_eq (cmp x u)) (has cmp base u) (has cmp xs u))
    where
      joined : (a b c : Bool) → ((a || b) || c) ≡ (b || (a || c))
      joined true true c = refl
      joined true false c = refl
      joined false b c = refl

  pub ascends_more : (base xs : List X) → Ascends cmp base → Ascends cmp (fold (with_one cmp) base xs)
  ascends_more base [] a = a
  ascends_more base (x ∷ xs) a = ascends_more (with_one cmp base x) xs (ascends_with base x a)

  -- ---- joined lists

  pub has_joined : (xs ys : List X) (u : X) → has cmp (xs ++ ys) u ≡ (has cmp xs u || has cmp ys u)
  has_joined [] ys u = refl
  has_joined (x ∷ xs) ys u = ap (λ (b : Bool). is_eq (cmp x u) || b) (has_joined xs ys u) ∙ joined (is_eq (cmp x u)) (has cmp xs u) (has cmp ys u)
    where
      joined : (a b c : Bool) → (a || (b || c)) ≡ ((a || b) || c)
      joined true b c = refl
      joined false b c = refl

-- some that passes, where one does
pub any_at : {X : Type 0} (cmp : X → X → Ordering) → IsOrder cmp → (f : X → Bool) (xs : List X) (u : X) → f u ≡ true → has cmp xs u ≡ true → list_any f xs ≡ true
any_at cmp o f [] u p h = absurd (cc)
any_at cmp o f (x ∷ xs) u p h = by (is_eq (cmp x u)) refl h (λ k. any_at cmp o f xs u p k)
  where
    some : (b c : Bool) → b ≡ true → (b || c) ≡ true
    some true c e = refl
    some false c e = absurd (cc)

    later : (b c : Bool) → c ≡ true → (b || c) ≡ true
    later true c e = refl
    later false c e = e

    by : (v : Bool) → is_eq (cmp x u) ≡ v → (v || has cmp xs u) ≡ true → (has cmp xs u ≡ true → list_any f xs ≡ true) → (f x || list_any f xs) ≡ true
    by true e h rest = some (f x) (list_any f xs) (ap f (is_one cmp o x u e) ∙ p)
    by false e h rest = later (f x) (list_any f xs) (rest h)
