-- Filters of filtered lists.
use Rattle.std.proofs.Common.{◌≡◌, ℕ, ◌+◌, ◌<◌, Bool, true, false, cond, not, List, [], ◌∷◌, ◌++◌, take, length, get_or, refl, ap, sym, ◌∙◌}
use Rattle.std.specs.Prelude.{◌&&◌, ◌||◌, filter}
use Rattle.std.specs.List.{list_any, list_all}
use Rattle.std.specs.Ordering.{nat_cmp, is_eq}
use Rattle.std.proofs.lemmas.List.{take_more}
use Rattle.dg_values.specs.Ascending.{has}
use Rattle.dg_sets.proofs.MadeOrders.{nat_order}
use Rattle.dg_sets.proofs.Sets.{is_itself, has_passed}
use Rattle.dg_uids.specs.Sets.{lacking}

pub or_true : (a b : Bool) → b ≡ true → (a || b) ≡ true
or_true true b e = refl
or_true false b e = e

pub and_true : (a : Bool) → (a && true) ≡ a
and_true true = refl
and_true false = refl

pub or_false : (a : Bool) → (a || false) ≡ a
or_false true = refl
or_false false = refl

not_not : (a : Bool) → not (not a) ≡ a
not_not true = refl
not_not false = refl

head_in : (x : ℕ) (xs : List ℕ) → has nat_cmp (x ∷ xs) x ≡ true
head_in x xs = λ i. is_itself nat_cmp nat_order x i || has nat_cmp xs x

-- where two tests agree on each element, the same elements pass
pub filter_same : (p q : ℕ → Bool) (xs : List ℕ) → ((u : ℕ) → has nat_cmp xs u ≡ true → p u ≡ q u) → filter p xs ≡ filter q xs
filter_same p q [] e = refl
filter_same p q (x ∷ xs) e =
    let here : p x ≡ q x = e x (head_in x xs) in
    let rest : filter p xs ≡ filter q xs = filter_same p q xs (λ u h. e u (or_true (is_eq (nat_cmp x u)) (has nat_cmp xs u) h)) in
    λ i. cond (here i) (x ∷ rest i) (rest i)

-- those that lack what passes are those that don't
pub lacking_passed : (f : ℕ → Bool) (xs : List ℕ) → lacking xs (filter f xs) ≡ filter (λ u. not (f u)) xs
lacking_passed f xs =
    filter_same (λ u. not (has nat_cmp (filter f xs) u)) (λ u. not (f u)) xs
    (λ u h. ap not (has_passed nat_cmp nat_order f xs u ∙ ((λ i. f u && h i) ∙ and_true (f u))))

-- one filter after another
pub filter_twice : (f g : ℕ → Bool) (xs : List ℕ) → filter f (filter g xs) ≡ filter (λ u. g u && f u) xs
filter_twice f g [] = refl
filter_twice f g (x ∷ xs) = by (g x) (f x) refl (filter_twice f g xs)
  where
    by : (v w : Bool) → f x ≡ w → filter f (filter g xs) ≡ filter (λ u. g u && f u) xs
        → filter f (cond v (x ∷ filter g xs) (filter g xs)) ≡ cond (v && w) (x ∷ filter (λ u. g u && f u) xs) (filter (λ u. g u && f u) xs)
    by true true e rest = (λ i. cond (e i) (x ∷ filter f (filter g xs)) (filter f (filter g xs))) ∙ ap (λ ys. x ∷ ys) rest
    by true false e rest = (λ i. cond (e i) (x ∷ filter f (filter g xs)) (filter f (filter g xs))) ∙ rest
    by false w e rest = rest

pub any_one : {X : Type 0} (f : X → Bool) (xs : List X) (x : X) → list_any f (xs ++ x ∷ []) ≡ (list_any f xs || f x)
any_one f [] x = or_false (f x)
any_one f (y ∷ ys) x = ap (λ b. f y || b) (any_one f ys x) ∙ joined (f y) (list_any f ys) (f x)
  where
    joined : (a b c : Bool) → (a || (b || c)) ≡ ((a || b) || c)
    joined true b c = refl
    joined false b c = refl

all_one : {X : Type 0} (f : X → Bool) (xs : List X) (x : X) → list_all f (xs ++ x ∷ []) ≡ (list_all f xs && f x)
all_one f [] x = and_true (f x)
all_one f (y ∷ ys) x = ap (λ b. f y && b) (all_one f ys x) ∙ joined (f y) (list_all f ys) (f x)
  where
    joined : (a b c : Bool) → (a && (b && c)) ≡ ((a && b) && c)
    joined true b c = refl
    joined false b c = refl

not_or : (a b : Bool) → (not a && not b) ≡ not (a || b)
not_or true b = refl
not_or false b = refl

module _ {X : Type 0} (pass : ℕ → X → Bool) (parts : List X) (i : ℕ) (d : X) (nodes : List ℕ) (lt : i < length parts) where
  -- what is left after one part more
  pub all_more : filter (λ n. pass n (get_or parts i d)) (filter (λ n. list_all (pass n) (take i parts)) nodes) ≡ filter (λ n. list_all (pass n) (take (i + 1) parts)) nodes
  all_more =
      filter_twice (λ n. pass n (get_or parts i d)) (λ n. list_all (pass n) (take i parts)) nodes
      ∙ filter_same (λ n. list_all (pass n) (take i parts) && pass n (get_or parts i d)) (λ n. list_all (pass n) (take (i + 1) parts)) nodes
      (λ n h. sym (ap (list_all (pass n)) (take_more parts i d lt) ∙ all_one (pass n) (take i parts) (get_or parts i d)))

  -- those that no part has taken yet
  pub none_more : (rest : List ℕ) → rest ≡ filter (λ n. not (list_any (pass n) (take i parts))) nodes
      → lacking rest (filter (λ n. pass n (get_or parts i d)) rest) ≡ filter (λ n. not (list_any (pass n) (take (i + 1) parts))) nodes
  none_more rest e =
      lacking_passed (λ n. pass n (get_or parts i d)) rest
      ∙ (ap (filter (λ n. not (pass n (get_or parts i d)))) e
      ∙ (filter_twice (λ n. not (pass n (get_or parts i d))) (λ n. not (list_any (pass n) (take i parts))) nodes
      ∙ filter_same (λ n. not (list_any (pass n) (take i parts)) && not (pass n (get_or parts i d))) (λ n. not (list_any (pass n) (take (i + 1) parts))) nodes
      (λ n h. not_or (list_any (pass n) (take i parts)) (pass n (get_or parts i d)) ∙ ap not (sym (ap (list_any (pass n)) (take_more parts i d lt) ∙ any_one (pass n) (take i parts) (get_or parts i d))))))

-- those that aren't left over
pub taken : (f : ℕ → Bool) (nodes rest : List ℕ) → rest ≡ filter (λ n. not (f n)) nodes → lacking nodes rest ≡ filter f nodes
taken f nodes rest e =
    ap (lacking nodes) e ∙ (lacking_passed (λ n. not (f n)) nodes ∙ filter_same (λ n. not (not (f n))) f nodes (λ n h. not_not (f n)))

pub filter_true : (xs : List ℕ) → filter (λ n. true) xs ≡ xs
filter_true [] = refl
filter_true (x ∷ xs) = ap (λ ys. x ∷ ys) (filter_true xs)

pub take_none : {X : Type 0} (xs : List X) → take 0 xs ≡ []
take_none [] = refl
take_none (x ∷ xs) = refl
