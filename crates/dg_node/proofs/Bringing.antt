-- Groups that are brought up to date, one after the other.
use Rattle.std.proofs.Common.{◌≡◌, ℕ, zero, suc, ◌+◌, ◌<◌, ◌≤◌, Bool, true, false, cond, List, [], ◌∷◌, ◌++◌, length, get_or, take, map, refl, ap, subst, sym, ◌∙◌, arith}
use Rattle.std.specs.Prelude.{nat_lt, Some, None, filter, find}
use Rattle.std.specs.List.{AllByRecursion}
use Rattle.std.proofs.Math.ListN.{set}
use Rattle.std.proofs.lemmas.List.{map-append}
use Rattle.std.proofs.lemmas.Grind.{common_steps}
use Rattle.dg_keys.specs.declared.record.Record.{Record}
use Rattle.dg_zero.specs.declared.entry.Entry.{Entry}
use Rattle.dg_zero.specs.Places.{groups}
use Rattle.dg_zero.specs.Records.{records, next_record}
use Rattle.dg_zero.proofs.LookUps.{found_passes}
use Rattle.dg_group.specs.Groups.{Group}
use Rattle.dg_group.specs.Stands.{IsInStep, records_above}
use Rattle.dg_node.specs.Owning.{new_group}

-- one group more
pub new_push : (n : ℕ) → map new_group (groups (n + 1)) ≡ map new_group (groups n) ++ new_group (n + 1) ∷ []
new_push n =
    let e : suc n ≡ n + 1 = omega arith in
    subst (λ (k : ℕ). map new_group (groups k) ≡ map new_group (groups n) ++ new_group (n + 1) ∷ []) e (map-append new_group (groups n) ((n + 1) ∷ []))

-- ---- fewer records are above a later timestamp

module _ {X : Type 0} (f g : X → Bool) (implied : (y : X) → g y ≡ true → f y ≡ true) where
  no_more : (xs : List X) → length (filter g xs) ≤ length (filter f xs)
  no_more [] = omega arith
  no_more (y ∷ ys) = by (f y) (g y) (implied y) (no_more ys)
    where
      by : (v w : Bool) → (w ≡ true → v ≡ true) → length (filter g ys) ≤ length (filter f ys) → length (cond w (y ∷ filter g ys) (filter g ys)) ≤ length (cond v (y ∷ filter f ys) (filter f ys))
      by true true i m = omega (arith, m)
      by true false i m = omega (arith, m)
      by false true i m = let no : false ≡ true = i refl in absurd (cc)
      by false false i m = m

  fewer : (xs : List X) (x : X) → find f xs ≡ Some x → g x ≡ false → length (filter g xs) < length (filter f xs)
  fewer [] x e q = absurd (cc)
  fewer (y ∷ ys) x e q = by (f y) refl (g y) refl e (λ h. fewer ys x h q)
    where
      by : (v : Bool) → f y ≡ v → (w : Bool) → g y ≡ w → cond v (Some y) (find f ys) ≡ Some x → (find f ys ≡ Some x → length (filter g ys) < length (filter f ys)) → length (cond w (y ∷ filter g ys) (filter g ys)) < length (cond v (y ∷ filter f ys) (filter f ys))
      by true p true s h more = let it : y ≡ x = cc in let no : g y ≡ false = ap g it ∙ q in absurd (cc)
      by true p false s h more = let m = no_more ys in omega (arith, m)
      by false p true s h more = let no : f y ≡ true = implied y s in absurd (cc)
      by false p false s h more = more h

later : (a b t : ℕ) → nat_lt a b ≡ true → nat_lt b t ≡ true → nat_lt a t ≡ true
later a b t p q = grind (arith, common_steps)

itself : (b : ℕ) → nat_lt b b ≡ false
itself b = grind (arith, common_steps)

pub fewer_above : (h : List Entry) (last : ℕ) (rec : Record) → next_record h last ≡ Some rec → length (records_above h rec.ts) < length (records_above h last)
fewer_above h last rec e =
    let up : nat_lt last rec.ts ≡ true = found_passes (λ (r : Record). nat_lt last r.ts) (records h) rec e in
    fewer (λ (r : Record). nat_lt last r.ts) (λ (r : Record). nat_lt rec.ts r.ts) (λ r. later last rec.ts r.ts up) (records h) rec e (itself rec.ts)

-- ---- one element is put in the place of another

pub all_set : {X : Type 0} (P : X → Type 0) (xs : List X) (i : ℕ) (x : X) → AllByRecursion P xs → P x → AllByRecursion P (set xs i x)
all_set P [] i x a p = tt
all_set P (y ∷ ys) zero x a p = (p, a.1)
all_set P (y ∷ ys) (suc i) x a p = (a.0, all_set P ys i x a.1 p)

pub all_taken : {X : Type 0} (P : X → Type 0) (xs : List X) (i : ℕ) (x : X) → AllByRecursion P (take i xs) → P x → AllByRecursion P (take (suc i) (set xs i x))
all_taken P [] i x a p = tt
all_taken P (y ∷ ys) zero x a p = (p, tt)
all_taken P (y ∷ ys) (suc i) x a p = (a.0, all_taken P ys i x a.1 p)

pub same_set : {X Y : Type 0} (f : X → Y) (xs : List X) (i : ℕ) (x old : X) → i < length xs → get_or xs i old ≡ old → f x ≡ f old → map f (set xs i x) ≡ map f xs
same_set f [] i x old lt is e = refl
same_set f (y ∷ ys) zero x old lt is e = ap (λ v. v ∷ map f ys) (e ∙ ap f (sym is))
same_set f (y ∷ ys) (suc i) x old lt is e = ap (λ vs. f y ∷ vs) (same_set f ys i x old (omega (arith, lt)) is e)

pub element : {X : Type 0} (P : X → Type 0) (xs : List X) (i : ℕ) (old : X) → i < length xs → get_or xs i old ≡ old → AllByRecursion P xs → P old
element P [] i old lt is a = absurd (omega (arith, lt))
element P (y ∷ ys) zero old lt is a = subst P is a.0
element P (y ∷ ys) (suc i) old lt is a = element P ys i old (omega (arith, lt)) is a.1

-- ---- one group more is up to date

-- all groups are in step, have the numbers that they had, and the first are up to date
abbrev pub AreBrought : List Entry → List Group → List Group → ℕ → Type 0
AreBrought h before gs i =
    AllByRecursion (λ g. IsInStep g h) gs
    × (map (λ (g : Group). g.number) gs ≡ map (λ (g : Group). g.number) before)
    × AllByRecursion (λ (g : Group). next_record h g.last ≡ None) (take i gs)

pub one_brought : (h : List Entry) (before gs : List Group) (i : ℕ) (old new : Group) → i < length gs → get_or gs i old ≡ old → AreBrought h before gs i → IsInStep new h → new.number ≡ old.number → next_record h new.last ≡ None → AreBrought h before (set gs i new) (i + 1)
one_brought h before gs i old new lt is b step number none =
    let e : suc i ≡ i + 1 = omega arith in (
      all_set (λ g. IsInStep g h) gs i new b.0 step,
      same_set (λ (g : Group). g.number) gs i new old lt is number ∙ b.1,
      subst (λ (k : ℕ). AllByRecursion (λ (g : Group). next_record h g.last ≡ None) (take k (set gs i new))) e (all_taken (λ (g : Group). next_record h g.last ≡ None) gs i new b.2 none),
    )

-- where a group isn't brought up to date whole, all are still in step
pub one_further : (h : List Entry) (before gs : List Group) (i : ℕ) (old new : Group) → i < length gs → get_or gs i old ≡ old → AreBrought h before gs i → IsInStep new h → new.number ≡ old.number → AllByRecursion (λ g. IsInStep g h) (set gs i new) × (map (λ (g : Group). g.number) (set gs i new) ≡ map (λ (g : Group). g.number) before)
one_further h before gs i old new lt is b step number =
    (all_set (λ g. IsInStep g h) gs i new b.0 step, same_set (λ (g : Group). g.number) gs i new old lt is number ∙ b.1)
