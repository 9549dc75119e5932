-- Look-ups of tablets and copies after lists of them changed.
use Rattle.std.proofs.Common.{◌≡◌, ◌∙◌, sym, ap, refl, ℕ, List, [], ◌∷◌, ◌++◌, Bool, true, false, not, cond}
use Rattle.std.specs.Prelude.{◌&&◌, ◌==◌, Option, Some, None, IfSome, IsSomeAnd, filter, find, option_map}
use Rattle.std.specs.List.{AllByRecursion}
use Rattle.std.specs.Option.{option_or}
use Rattle.std.proofs.lemmas.List.Folds.{find-append}
use Rattle.std.proofs.lemmas.Grind.{common_steps}
use Rattle.std.proofs.Common.{arith}
use Rattle.dg_values.specs.Order.{same_text}
use Rattle.dg_schema.proofs.Names.{same_text-equal}
use Rattle.dg_zero.specs.declared.tablets.Place.{Place}
use Rattle.dg_zero.specs.Places.{Copy, copy_at, is_copy_at, is_place_of, on_copy, on_place, place_of}

-- ---- options

pub if_mapped : {A B : Type 0} (f : A → B) (P : A → Type 0) (Q : B → Type 0) (o : Option A) → ((x : A) → o ≡ Some x → P x → Q (f x)) → IfSome o P → IfSome (option_map f o) Q
if_mapped f P Q None g p = tt
if_mapped f P Q (Some x) g p = g x refl p

pub is_mapped : {A B : Type 0} (f : A → B) (P : A → Type 0) (Q : B → Type 0) (o : Option A) → ((x : A) → P x → Q (f x)) → IsSomeAnd o P → IsSomeAnd (option_map f o) Q
is_mapped f P Q None g p = p
is_mapped f P Q (Some x) g p = g x p

pub is_with : {A : Type 0} (P Q : A → Type 0) (o : Option A) → ((x : A) → P x → Q x) → IsSomeAnd o P → IsSomeAnd o Q
is_with P Q None g p = p
is_with P Q (Some x) g p = g x p

-- ---- what is found

pub found_passes : {X : Type 0} (f : X → Bool) (xs : List X) (x : X) → find f xs ≡ Some x → f x ≡ true
found_passes f [] x e = absurd (cc)
found_passes {X} f (y ∷ ys) x e = by (f y) refl e (λ k. found_passes f ys x k)
  where
    by : (v : Bool) → f y ≡ v → cond v (Some y) (find f ys) ≡ Some x → (find f ys ≡ Some x → f x ≡ true) → f x ≡ true
    by true p k rest = let is : y ≡ x = cc in sym (ap f is) ∙ p
    by false p k rest = rest k

-- what holds of all holds of what is found
pub found_too : {X : Type 0} (f : X → Bool) (P Q : X → Type 0) (xs : List X) → AllByRecursion P xs → IsSomeAnd (find f xs) Q → IsSomeAnd (find f xs) (λ x. P x × Q x)
found_too f P Q [] a q = q
found_too f P Q (x ∷ xs) a q = by (f x) q (λ r. found_too f P Q xs a.1 r)
  where
    by : (v : Bool) → IsSomeAnd (cond v (Some x) (find f xs)) Q → (IsSomeAnd (find f xs) Q → IsSomeAnd (find f xs) (λ y. P y × Q y)) → IsSomeAnd (cond v (Some x) (find f xs)) (λ y. P y × Q y)
    by true r rest = (a.0, r)
    by false r rest = rest r

pub none_passes : {X : Type 0} (f : X → Bool) (xs : List X) → find f xs ≡ None → AllByRecursion (λ x. f x ≡ false) xs
none_passes f [] e = tt
none_passes f (x ∷ xs) e = by (f x) refl e (λ k. none_passes f xs k)
  where
    by : (v : Bool) → f x ≡ v → cond v (Some x) (find f xs) ≡ None → (find f xs ≡ None → AllByRecursion (λ y. f y ≡ false) xs) → (f x ≡ false) × AllByRecursion (λ y. f y ≡ false) xs
    by true p k rest = absurd (cc)
    by false p k rest = (p, rest k)

pub none_is_found : {X : Type 0} (f : X → Bool) (xs : List X) → AllByRecursion (λ x. f x ≡ false) xs → find f xs ≡ None
none_is_found f [] a = refl
none_is_found f (x ∷ xs) a = rw a.0 (none_is_found f xs a.1)

-- ---- of some of a list

find_cond : {X : Type 0} (f : X → Bool) (x : X) (xs : List X) (v : Bool) → find f (cond v (x ∷ xs) xs) ≡ cond v (cond (f x) (Some x) (find f xs)) (find f xs)
find_cond f x xs true = refl
find_cond f x xs false = refl

pub some_passed : {X : Type 0} (f g : X → Bool) (P : X → Type 0) (xs : List X) → ((x : X) → P x → g x ≡ true) → IsSomeAnd (find f xs) P → IsSomeAnd (find f (filter g xs)) P
some_passed f g P [] k p = p
some_passed {X} f g P (x ∷ xs) k p =
    rw (find_cond f x (filter g xs) (g x)) (by (f x) (g x) refl p (λ q. some_passed f g P xs k q))
  where
    by : (v w : Bool) → g x ≡ w → IsSomeAnd (cond v (Some x) (find f xs)) P → (IsSomeAnd (find f xs) P → IsSomeAnd (find f (filter g xs)) P) → IsSomeAnd (cond w (cond v (Some x) (find f (filter g xs))) (find f (filter g xs))) P
    by true true e p rest = p
    by true false e p rest = let kept = k x p in absurd (cc)
    by false true e p rest = rest p
    by false false e p rest = rest p

pub none_passed : {X : Type 0} (f g : X → Bool) (xs : List X) → find f xs ≡ None → find f (filter g xs) ≡ None
none_passed f g [] e = refl
none_passed f g (x ∷ xs) e = find_cond f x (filter g xs) (g x) ∙ by (f x) (g x) e (λ k. none_passed f g xs k)
  where
    by : (v w : Bool) → cond v (Some x) (find f xs) ≡ None → (find f xs ≡ None → find f (filter g xs) ≡ None) → cond w (cond v (Some x) (find f (filter g xs))) (find f (filter g xs)) ≡ None
    by true w k rest = absurd (cc)
    by false true k rest = rest k
    by false false k rest = rest k

-- ---- and of more

pub some_joined : {X : Type 0} (f : X → Bool) (P : X → Type 0) (xs ys : List X) → IsSomeAnd (find f xs) P → IsSomeAnd (find f (xs ++ ys)) P
some_joined {X} f P xs ys p = rw (find-append f xs ys) (by (find f xs) p)
  where
    by : (o : Option X) → IsSomeAnd o P → IsSomeAnd (option_or o (find f ys)) P
    by None q = absurd (q)
    by (Some x) q = q

pub none_joined : {X : Type 0} (f : X → Bool) (xs ys : List X) → find f xs ≡ None → find f (xs ++ ys) ≡ find f ys
none_joined f xs ys e = find-append f xs ys ∙ ap (λ o. option_or o (find f ys)) e

-- ---- tablets and copies

both : (a b : Bool) → (a && b) ≡ true → (a ≡ true) × (b ≡ true)
both true true e = (refl, refl)
both true false e = absurd (cc)
both false b e = absurd (cc)

pub same_number : (a b : ℕ) → (a == b) ≡ true → a ≡ b
same_number a b e = grind (arith, common_steps)

-- a copy of a predicate at a group has these
pub record IsAt (pred : List ℕ) (group : ℕ) (c : Copy) : Type 0 where
  pub pred_is : c.pred ≡ pred
  pub group_is : c.group ≡ group

pub copy_is_at : (pred : List ℕ) (group : ℕ) (c : Copy) → is_copy_at pred group c ≡ true → IsAt pred group c
copy_is_at pred group c e =
    let p = both (same_text c.pred pred) (c.group == group) e in
    record { pred_is = same_text-equal c.pred pred p.0; group_is = same_number c.group group p.1 }

pub place_is_of : (ts : List Place) (pred : List ℕ) (t : Place) → place_of ts pred ≡ Some t → t.pred ≡ pred
place_is_of ts pred t e = same_text-equal t.pred pred (found_passes (is_place_of pred) ts t e)

-- the change keeps a tablet's predicate
abbrev pub KeepsPred : (Place → Place) → Type 0
KeepsPred f = (t : Place) → (f t).pred ≡ t.pred

-- the change keeps a copy's predicate and group
abbrev pub KeepsAt : (Copy → Copy) → Type 0
KeepsAt f = (c : Copy) → IsAt c.pred c.group (f c)

pub place_kept : (pred : List ℕ) (f : Place → Place) → KeepsPred f → (q : List ℕ) (t : Place) → is_place_of q (cond (is_place_of pred t) (f t) t) ≡ is_place_of q t
place_kept pred f k q t = by (is_place_of pred t)
  where
    by : (v : Bool) → is_place_of q (cond v (f t) t) ≡ is_place_of q t
    by true = ap (λ (p : List ℕ). same_text p q) (k t)
    by false = refl

pub copy_kept : (pred : List ℕ) (group : ℕ) (f : Copy → Copy) → KeepsAt f → (q : List ℕ) (at : ℕ) (c : Copy) → is_copy_at q at (cond (is_copy_at pred group c) (f c) c) ≡ is_copy_at q at c
copy_kept pred group f k q at c = by (is_copy_at pred group c)
  where
    by : (v : Bool) → is_copy_at q at (cond v (f c) c) ≡ is_copy_at q at c
    by true = let s = k c in λ i. same_text (s.pred_is i) q && (s.group_is i == at)
    by false = refl

-- the tablet of a predicate, where that of one was changed
pub place_on : (pred : List ℕ) (f : Place → Place) → KeepsPred f → (ts : List Place) (q : List ℕ) → place_of (on_place pred f ts) q ≡ option_map (λ t. cond (same_text q pred) (f t) t) (place_of ts q)
place_on pred f k [] q = refl
place_on pred f k (t ∷ ts) q =
    (λ i. cond (place_kept pred f k q t i) (Some (cond (is_place_of pred t) (f t) t)) (place_on pred f k ts q i)) ∙ by (is_place_of q t) refl
  where
    by : (v : Bool) → is_place_of q t ≡ v → cond v (Some (cond (is_place_of pred t) (f t) t)) (option_map (λ u. cond (same_text q pred) (f u) u) (place_of ts q)) ≡ option_map (λ u. cond (same_text q pred) (f u) u) (cond v (Some t) (place_of ts q))
    by true e = ap (λ (p : List ℕ). Some (cond (same_text p pred) (f t) t)) (same_text-equal t.pred q e)
    by false e = refl

-- a copy, where one was changed
pub copy_on : (pred : List ℕ) (group : ℕ) (f : Copy → Copy) → KeepsAt f → (cs : List Copy) (q : List ℕ) (at : ℕ) → copy_at (on_copy pred group f cs) q at ≡ option_map (λ c. cond (same_text q pred && (at == group)) (f c) c) (copy_at cs q at)
copy_on pred group f k [] q at = refl
copy_on pred group f k (c ∷ cs) q at =
    (λ i. cond (copy_kept pred group f k q at c i) (Some (cond (is_copy_at pred group c) (f c) c)) (copy_on pred group f k cs q at i)) ∙ by (is_copy_at q at c) refl
  where
    by : (v : Bool) → is_copy_at q at c ≡ v → cond v (Some (cond (is_copy_at pred group c) (f c) c)) (option_map (λ d. cond (same_text q pred && (at == group)) (f d) d) (copy_at cs q at)) ≡ option_map (λ d. cond (same_text q pred && (at == group)) (f d) d) (cond v (Some c) (copy_at cs q at))
    by true e = let s = copy_is_at q at c e in λ i. Some (cond (same_text (s.pred_is i) pred && (s.group_is i == group)) (f c) c)
    by false e = refl

-- another copy than the one that was changed
pub other_on : (pred : List ℕ) (group : ℕ) (f : Copy → Copy) → KeepsAt f → (cs : List Copy) (q : List ℕ) (at : ℕ) → (same_text q pred && (at == group)) ≡ false → copy_at (on_copy pred group f cs) q at ≡ copy_at cs q at
other_on pred group f k cs q at e =
    copy_on pred group f k cs q at ∙ ((λ i. option_map (λ c. cond (e i) (f c) c) (copy_at cs q at)) ∙ same (copy_at cs q at))
  where
    same : (o : Option Copy) → option_map (λ c. c) o ≡ o
    same None = refl
    same (Some c) = refl

-- a copy, where one was dropped
pub copy_off : (pred : List ℕ) (group : ℕ) (cs : List Copy) (q : List ℕ) (at : ℕ) → (same_text q pred && (at == group)) ≡ false → copy_at (filter (λ c. not (is_copy_at pred group c)) cs) q at ≡ copy_at cs q at
copy_off pred group [] q at e = refl
copy_off pred group (c ∷ cs) q at e =
    find_cond (is_copy_at q at) c (filter (λ d. not (is_copy_at pred group d)) cs) (not (is_copy_at pred group c)) ∙ by (is_copy_at q at c) (is_copy_at pred group c) refl refl (copy_off pred group cs q at e)
  where
    by : (v w : Bool) → is_copy_at q at c ≡ v → is_copy_at pred group c ≡ w → copy_at (filter (λ d. not (is_copy_at pred group d)) cs) q at ≡ copy_at cs q at → cond (not w) (cond v (Some c) (copy_at (filter (λ d. not (is_copy_at pred group d)) cs) q at)) (copy_at (filter (λ d. not (is_copy_at pred group d)) cs) q at) ≡ cond v (Some c) (copy_at cs q at)
    by true true p r rest =
        let s = copy_is_at q at c p in
        let no : (same_text q pred && (at == group)) ≡ true = (λ i. same_text (sym s.pred_is i) pred && (sym s.group_is i == group)) ∙ r in
        absurd (cc)
    by true false p r rest = refl
    by false true p r rest = rest
    by false false p r rest = rest

-- what holds of each holds where one was changed
pub all_on : (P : Copy → Type 0) (pred : List ℕ) (group : ℕ) (f : Copy → Copy) → ((c : Copy) → P c → P (f c)) → (cs : List Copy) → AllByRecursion P cs → AllByRecursion P (on_copy pred group f cs)
all_on P pred group f k [] a = tt
all_on P pred group f k (c ∷ cs) a = (by (is_copy_at pred group c), all_on P pred group f k cs a.1)
  where
    by : (v : Bool) → P (cond v (f c) c)
    by true = k c a.0
    by false = a.0

-- a copy with an end, and one that was merged
abbrev pub ends : ℕ → Copy → Copy
ends until c = record { pred = c.pred; group = c.group; mark = c.mark; until = Some until }

abbrev pub merged : ℕ → Copy → Copy
merged upto c = record { pred = c.pred; group = c.group; mark = upto; until = c.until }

pub ends_keeps : (until : ℕ) → KeepsAt (ends until)
ends_keeps until c = record { pred_is = refl; group_is = refl }

pub merged_keeps : (upto : ℕ) → KeepsAt (merged upto)
merged_keeps upto c = record { pred_is = refl; group_is = refl }
