-- The keys that marks have at a timestamp.
use Rattle.std.proofs.Common.{◌≡◌, ℕ, ◌<◌, ◌≤◌, Bool, true, false, cond, List, [], ◌∷◌, ◌++◌, map, refl, ap, arith}
use Rattle.std.specs.Prelude.{◌==◌, ◌||◌, nat_lt}
use Rattle.std.specs.declared.cmp.Ordering.{Ordering}
use Rattle.std.specs.Ordering.{is_eq}
use Rattle.std.proofs.lemmas.Grind.{common_steps}
use Rattle.std.proofs.lemmas.List.Folds.{list_any-append}
use Rattle.dg_oracle.specs.declared.mark.Mark.{Mark}
use Rattle.dg_oracle.specs.Histories.{marked_at, keys_at, marks_above, is_marked}

-- of two lists
pub keys_append : {K : Type 0} (ts : ℕ) (xs ys : List (Mark K)) → keys_at ts (xs ++ ys) ≡ keys_at ts xs ++ keys_at ts ys
keys_append ts [] ys = refl
keys_append {K} ts (x ∷ xs) ys = by (x.ts == ts) (keys_append ts xs ys)
  where
    by : (b : Bool) → keys_at ts (xs ++ ys) ≡ keys_at ts xs ++ keys_at ts ys → cond b (x.key ∷ keys_at ts (xs ++ ys)) (keys_at ts (xs ++ ys)) ≡ cond b (x.key ∷ keys_at ts xs) (keys_at ts xs) ++ keys_at ts ys
    by true e = ap (λ ks. x.key ∷ ks) e
    by false e = e

-- where both together are empty
pub front_empty : {X : Type 0} (xs ys : List X) → xs ++ ys ≡ [] → xs ≡ []
front_empty [] ys e = refl
front_empty (x ∷ xs) ys e = absurd (cc)

pub back_empty : {X : Type 0} (xs ys : List X) → xs ++ ys ≡ [] → ys ≡ []
back_empty [] ys e = e
back_empty (x ∷ xs) ys e = absurd (cc)

pub same_number : (n : ℕ) → (n == n) ≡ true
same_number n = grind (arith, common_steps)

pub other_number : (n m : ℕ) → (n ≡ m → ⊥) → (n == m) ≡ false
other_number n m ne = grind (arith, common_steps)

-- the marks of one commit
pub keys_of_commit : {K : Type 0} (ts : ℕ) (keys : List K) → keys_at ts (map (marked_at ts) keys) ≡ keys
keys_of_commit ts [] = refl
keys_of_commit ts (k ∷ ks) = rw (same_number ts) (ap (λ js. k ∷ js) (keys_of_commit ts ks))

pub keys_elsewhere : {K : Type 0} (ts other : ℕ) (keys : List K) → (ts ≡ other → ⊥) → keys_at other (map (marked_at ts) keys) ≡ []
keys_elsewhere ts other [] ne = refl
keys_elsewhere ts other (k ∷ ks) ne = rw (other_number ts other ne) (keys_elsewhere ts other ks ne)

-- the marks above a line
pub not_there : (line ts n : ℕ) → line < ts → nat_lt line n ≡ false → (n == ts) ≡ false
not_there line ts n lt e = let le : n ≤ line = grind (arith, common_steps) in let ne : n ≡ ts → ⊥ = (λ f. omega arith) in other_number n ts ne

pub keys_above : {K : Type 0} (line ts : ℕ) (marks : List (Mark K)) → line < ts → keys_at ts (marks_above line marks) ≡ keys_at ts marks
keys_above line ts [] lt = refl
keys_above {K} line ts (m ∷ ms) lt = by (nat_lt line m.ts) refl (keys_above line ts ms lt)
  where
    kept : (c : Bool) → keys_at ts (marks_above line ms) ≡ keys_at ts ms → cond c (m.key ∷ keys_at ts (marks_above line ms)) (keys_at ts (marks_above line ms)) ≡ cond c (m.key ∷ keys_at ts ms) (keys_at ts ms)
    kept true e = ap (λ ks. m.key ∷ ks) e
    kept false e = e

    by : (b : Bool) → nat_lt line m.ts ≡ b → keys_at ts (marks_above line ms) ≡ keys_at ts ms → keys_at ts (cond b (m ∷ marks_above line ms) (marks_above line ms)) ≡ cond (m.ts == ts) (m.key ∷ keys_at ts ms) (keys_at ts ms)
    by true f e = kept (m.ts == ts) e
    by false f e = rw (not_there line ts m.ts lt f) e

-- no more than before
pub none_above_line : {K : Type 0} (line ts : ℕ) (marks : List (Mark K)) → keys_at ts marks ≡ [] → keys_at ts (marks_above line marks) ≡ []
none_above_line line ts [] e = refl
none_above_line {K} line ts (m ∷ ms) e = by (m.ts == ts) refl e (λ f. none_above_line line ts ms f)
  where
    kept : (b : Bool) → (m.ts == ts) ≡ false → keys_at ts (marks_above line ms) ≡ [] → keys_at ts (cond b (m ∷ marks_above line ms) (marks_above line ms)) ≡ []
    kept true f e = rw f e
    kept false f e = e

    by : (c : Bool) → (m.ts == ts) ≡ c → cond c (m.key ∷ keys_at ts ms) (keys_at ts ms) ≡ [] → (keys_at ts ms ≡ [] → keys_at ts (marks_above line ms) ≡ []) → keys_at ts (cond (nat_lt line m.ts) (m ∷ marks_above line ms) (marks_above line ms)) ≡ []
    by true f e rest = absurd (cc)
    by false f e rest = kept (nat_lt line m.ts) f (rest e)

-- none at or below the line
pub none_below_line : {K : Type 0} (line ts : ℕ) (marks : List (Mark K)) → ts ≤ line → keys_at ts (marks_above line marks) ≡ []
none_below_line line ts [] le = refl
none_below_line {K} line ts (m ∷ ms) le = by (nat_lt line m.ts) refl (none_below_line line ts ms le)
  where
    by : (b : Bool) → nat_lt line m.ts ≡ b → keys_at ts (marks_above line ms) ≡ [] → keys_at ts (cond b (m ∷ marks_above line ms) (marks_above line ms)) ≡ []
    by true e rest = let lt : line < m.ts = grind (arith, common_steps) in rw (other_number m.ts ts (λ f. omega arith)) rest
    by false e rest = rest

-- whether a key is marked in one of two lists
pub marked_append : {K : Type 0} (cmp : K → K → Ordering) (key : K) (ts : ℕ) (xs ys : List (Mark K)) → is_marked cmp (xs ++ ys) key ts ≡ (is_marked cmp xs key ts || is_marked cmp ys key ts)
marked_append cmp key ts xs ys = rw (keys_append ts xs ys) (list_any-append (λ k. is_eq (cmp k key)) (keys_at ts xs) (keys_at ts ys))

pub not_marked : {K : Type 0} (cmp : K → K → Ordering) (key : K) (ts : ℕ) (marks : List (Mark K)) → keys_at ts marks ≡ [] → is_marked cmp marks key ts ≡ false
not_marked cmp key ts marks e = rw e refl
