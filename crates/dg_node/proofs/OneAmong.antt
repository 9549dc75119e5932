-- One element of a list, by a number that no other has.
use Rattle.std.proofs.Common.{◌≡◌, ◌≢◌, ℕ, zero, suc, ◌+◌, ◌<◌, Bool, true, false, cond, List, [], ◌∷◌, ◌++◌, Some, None, length, set, refl, ap, subst, sym, ◌∙◌, arith}
use Rattle.std.specs.Prelude.{◌==◌, map, position, slice_get, slice_index_or}
use Rattle.std.specs.List.{AllByRecursion, position_from, remove}
use Rattle.std.proofs.lemmas.Grind.{common_steps}
use Rattle.std.proofs.lemmas.Iterator.Adapters.{position_from-zero}
use Rattle.dg_oracle.specs.Commits as oracle
use Rattle.dg_node.specs.Kept.{AreApart}

-- the list around the element at a place
pub record Around {X : Type 0} (f : X → ℕ) (n : ℕ) (xs : List X) (place : ℕ) : Type 0 where
  pub before : List X
  pub it : X
  pub after : List X
  pub whole : xs ≡ before ++ it ∷ after
  pub at : length before ≡ place
  pub is : f it ≡ n

equal_at : (a b : ℕ) → (a == b) ≡ true → a ≡ b
equal_at a b e = grind (arith, common_steps)

itself : (a : ℕ) → (a == a) ≡ true
itself a = grind (arith, common_steps)

around_from : {X : Type 0} (f : X → ℕ) (n low : ℕ) (xs : List X) (place : ℕ) → position_from (λ x. f x == n) low xs ≡ Some place → (k : ℕ) × (place ≡ low + k) × Around f n xs k
around_from f n low [] place e = absurd (cc)
around_from {X} f n low (x ∷ xs) place e = by (f x == n) refl e (λ h. around_from f n (low + 1) xs place h)
  where
    by : (v : Bool) → (f x == n) ≡ v → cond v (Some low) (position_from (λ y. f y == n) (low + 1) xs) ≡ Some place → (position_from (λ y. f y == n) (low + 1) xs ≡ Some place → (k : ℕ) × (place ≡ (low + 1) + k) × Around f n xs k) → (k : ℕ) × (place ≡ low + k) × Around f n (x ∷ xs) k
    by true same h more =
        let is : low ≡ place = cc in
        (0, omega (arith, is), record { before = []; it = x; after = xs; whole = refl; at = refl; is = equal_at (f x) n same })
    by false same h more =
        let r = more h in
        (suc r.0, omega (arith, r.1), record { before = x ∷ r.2.before; it = r.2.it; after = r.2.after; whole = ap (λ (l : List X). x ∷ l) r.2.whole; at = ap suc r.2.at; is = r.2.is })

pub around : {X : Type 0} (f : X → ℕ) (n : ℕ) (xs : List X) (place : ℕ) → position (λ x. f x == n) xs ≡ Some place → Around f n xs place
around f n xs place e =
    let r = around_from f n 0 xs place (sym (position_from-zero (λ x. f x == n) xs) ∙ e) in
    subst (λ (k : ℕ). Around f n xs k) (let same : r.0 ≡ place = omega (arith, r.1) in same) r.2

-- what the list is without the element, with another, and at its place
pub removed_at : {X : Type 0} (before after : List X) (x : X) → remove (before ++ x ∷ after) (length before) ≡ before ++ after
removed_at [] after x = refl
removed_at {X} (y ∷ before) after x = ap (λ (l : List X). y ∷ l) (removed_at before after x)

pub set_at : {X : Type 0} (before after : List X) (x y : X) → set (before ++ x ∷ after) (length before) y ≡ before ++ y ∷ after
set_at [] after x y = refl
set_at {X} (z ∷ before) after x y = ap (λ (l : List X). z ∷ l) (set_at before after x y)

pub get_at : {X : Type 0} (before after : List X) (x : X) → slice_get (before ++ x ∷ after) (length before) ≡ Some x
get_at [] after x = refl
get_at (y ∷ before) after x = get_at before after x

pub index_at : {X : Type 0} (before after : List X) (x d : X) → slice_index_or (before ++ x ∷ after) (length before) d ≡ x
index_at [] after x d = refl
index_at (y ∷ before) after x d = index_at before after x d

module _ {X : Type 0} (f : X → ℕ) (n : ℕ) (xs : List X) (place : ℕ) (a : Around f n xs place) where
  both : (F : List X → ℕ → Type 0) → F (a.before ++ a.it ∷ a.after) (length a.before) → F xs place
  both F p = subst (λ (k : ℕ). F xs k) a.at (subst (λ (l : List X). F l (length a.before)) (sym a.whole) p)

  pub set_is : (y : X) → set xs place y ≡ a.before ++ y ∷ a.after
  set_is y = both (λ l k. set l k y ≡ a.before ++ y ∷ a.after) (set_at a.before a.after a.it y)

  pub it_is : (d : X) → d ≡ slice_index_or xs place d → d ≡ a.it
  it_is d e = e ∙ both (λ l k. slice_index_or l k d ≡ a.it) (index_at a.before a.after a.it d)

-- properties of all
pub all_around : {X : Type 0} (P : X → Type 0) (before after : List X) (x : X) → AllByRecursion P (before ++ x ∷ after) → AllByRecursion P before × P x × AllByRecursion P after
all_around P [] after x a = (tt, a.0, a.1)
all_around P (y ∷ before) after x a = let r = all_around P before after x a.1 in ((a.0, r.0), r.1, r.2)

pub all_joined : {X : Type 0} (P : X → Type 0) (xs ys : List X) → AllByRecursion P xs → AllByRecursion P ys → AllByRecursion P (xs ++ ys)
all_joined P [] ys a b = b
all_joined P (x ∷ xs) ys a b = (a.0, all_joined P xs ys a.1 b)

pub apart_without : {X : Type 0} (f : X → ℕ) (before after : List X) (x : X) → AreApart f (before ++ x ∷ after) → AreApart f (before ++ after)
apart_without f [] after x a = a.1
apart_without f (y ∷ before) after x a =
    let r = all_around (λ z. f z ≢ f y) before after x a.0 in
    (all_joined (λ z. f z ≢ f y) before after r.0 r.2, apart_without f before after x a.1)

pub apart_push : {X : Type 0} (f : X → ℕ) (xs : List X) (x : X) → AreApart f xs → AllByRecursion (λ y. f y ≢ f x) xs → AreApart f (xs ++ x ∷ [])
apart_push f [] x a b = (tt, tt)
apart_push f (y ∷ xs) x a b = (all_joined (λ z. f z ≢ f y) xs (x ∷ []) a.0 ((λ e. b.0 (sym e)), tt), apart_push f xs x a.1 b.1)

-- another with the same number in its place
pub apart_with : {X : Type 0} (f : X → ℕ) (before after : List X) (x y : X) → f y ≡ f x → AreApart f (before ++ x ∷ after) → AreApart f (before ++ y ∷ after)
apart_with f [] after x y e a = (subst (λ (n : ℕ). AllByRecursion (λ z. f z ≢ n) after) (sym e) a.0, a.1)
apart_with f (w ∷ before) after x y e a =
    let r = all_around (λ z. f z ≢ f w) before after x a.0 in
    (all_joined (λ z. f z ≢ f w) before (y ∷ after) r.0 (subst (λ (n : ℕ). n ≢ f w) (sym e) r.1, r.2), apart_with f before after x y e a.1)

-- where no place is found, none has the number
module _ {X Y : Type 0} (g : X → Y) (f : Y → ℕ) where
  not_found_from : (n low : ℕ) (xs : List X) → position_from (λ x. f (g x) == n) low xs ≡ None → AllByRecursion (λ x. f (g x) ≢ n) xs
  not_found_from n low [] e = tt
  not_found_from n low (x ∷ xs) e = by (f (g x) == n) refl e (λ h. not_found_from n (low + 1) xs h)
    where
      by : (v : Bool) → (f (g x) == n) ≡ v → cond v (Some low) (position_from (λ y. f (g y) == n) (low + 1) xs) ≡ None → (position_from (λ y. f (g y) == n) (low + 1) xs ≡ None → AllByRecursion (λ y. f (g y) ≢ n) xs) → AllByRecursion (λ y. f (g y) ≢ n) (x ∷ xs)
      by true same h more = absurd (cc)
      by false same h more = ((λ is. absurd (let it : (n == n) ≡ true = itself n in let no : (n == n) ≡ false = subst (λ (k : ℕ). (k == n) ≡ false) is same in cc)), more h)

  pub none_has : (n : ℕ) (xs : List X) → position (λ x. f (g x) == n) xs ≡ None → AllByRecursion (λ x. f (g x) ≢ n) xs
  none_has n xs e = not_found_from n 0 xs (sym (position_from-zero (λ x. f (g x) == n) xs) ∙ e)

-- numbers that ascend are apart
all_apart : {X : Type 0} (f : X → ℕ) (low : ℕ) (x : X) (xs : List X) → f x < low + 1 → oracle.Ascends low (map f xs) → AllByRecursion (λ y. f y ≢ f x) xs
all_apart f low x [] le a = tt
all_apart f low x (y ∷ xs) le a = ((λ e. absurd (omega (arith, le, a.0, e))), all_apart f (f y) x xs (omega (arith, le, a.0)) a.1)

pub apart_ascending : {X : Type 0} (f : X → ℕ) (low : ℕ) (xs : List X) → oracle.Ascends low (map f xs) → AreApart f xs
apart_ascending f low [] a = tt
apart_ascending f low (x ∷ xs) a = (all_apart f (f x) x xs (omega arith) a.1, apart_ascending f (f x) xs a.1)
