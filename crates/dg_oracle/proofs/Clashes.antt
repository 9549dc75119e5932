-- The last commit above a start that has a key, and the verdict on keys.
use Rattle.std.proofs.Common.{◌≡◌, ℕ, suc, ◌+◌, ◌-◌, ◌<◌, ◌≤◌, Bool, true, false, List, [], ◌∷◌, length, get_or, drop, map, refl, ap, subst, sym, ◌∙◌, arith}
use Rattle.std.specs.Prelude.{◌==◌, ◌&&◌, ◌||◌, Option, Some, None, if◌then◌else◌, IsTrue, nat_lt, cond}
use Rattle.std.specs.declared.cmp.Ordering.{Ordering}
use Rattle.std.specs.declared.cmp.Ordering.TheVariants.{Less, Equal, Greater}
use Rattle.std.specs.Cmp.{IsTotalOrder}
use Rattle.std.specs.Ordering.{is_lt, is_le, ordering_reverse}
use Rattle.std.specs.List.Sorted.{IsSorted}
use Rattle.std.proofs.lemmas.List.Sorted.{sorted_far}
use Rattle.std.proofs.lemmas.List.MinMax.{ranks_by}
use Rattle.std.specs.List.{AllByRecursion, list_any}
use Rattle.std.proofs.Math.Seq.{drop-cons}
use Rattle.std.proofs.lemmas.Grind.{common_steps}
use Rattle.dg_oracle.specs.declared.verdict.Verdict.{Verdict}
use Rattle.dg_oracle.specs.declared.verdict.Verdict.TheVariants.{Clear, Conflict}
use Rattle.dg_oracle.specs.Commits.{Commit, Ascends, ts_of, above}
use Rattle.dg_oracle.specs.Verdicts.{clashes, has_clash, HasNoClash, HasSameVerdicts, IsLastClash, IsConflictAt, IsVerdict, or_else, last_clash, conflict_or, verdict_from, verdict}

module _ {K : Type 0} (cmp : K → K → Ordering) (start : ℕ) (key : K) where
  -- what one commit gives
  abbrev clash : Commit K → Option ℕ
  clash c = if clashes cmp start key c then Some c.ts else None

  -- a commit at or below the start gives none
  low_none : (c : Commit K) → c.ts ≤ start → clash c ≡ None
  low_none c le = grind (arith, common_steps)

  -- no commit clashes where there is no last one
  pub none_is : (cs : List (Commit K)) → last_clash cmp cs start key ≡ None → HasNoClash cmp cs start key
  none_is [] e = tt
  none_is (c ∷ cs) e =
      let tail : last_clash cmp cs start key ≡ None = front_none (last_clash cmp cs start key) (clash c) e in
      (head_none (clashes cmp start key c) c.ts (last_clash cmp cs start key) tail e, none_is cs tail)
    where
      front_none : (o p : Option ℕ) → or_else o p ≡ None → o ≡ None
      front_none None p e = refl
      front_none (Some ts) p e = e

      head_none : (b : Bool) (ts : ℕ) (o : Option ℕ) → o ≡ None → or_else o (if b then Some ts else None) ≡ None → b ≡ false
      head_none false ts o p e = refl
      head_none true ts o p e = absurd (let q : or_else None (Some ts) ≡ None = subst (λ r. or_else r (Some ts) ≡ None) p e in cc)

  -- the last one is above those before it
  last_above : (low : ℕ) (cs : List (Commit K)) (ts : ℕ) → Ascends low (map ts_of cs) → last_clash cmp cs start key ≡ Some ts → low < ts
  last_above low [] ts a e = absurd (cc)
  last_above low (c ∷ cs) ts a e = by_tail (last_clash cmp cs start key) refl (λ t f. last_above c.ts cs t a.1 f)
    where
      own : (b : Bool) → (if b then Some c.ts else None) ≡ Some ts → c.ts ≡ ts
      own true e = cc
      own false e = absurd (cc)

      by_tail : (o : Option ℕ) → last_clash cmp cs start key ≡ o → ((t : ℕ) → last_clash cmp cs start key ≡ Some t → c.ts < t) → low < ts
      by_tail (Some t) f over =
          let q : or_else (Some t) (clash c) ≡ Some ts = subst (λ (r : Option ℕ). or_else r (clash c) ≡ Some ts) f e in
          let same : t ≡ ts = cc in
          omega (arith, a.0, over t f)
      by_tail None f over =
          let q : or_else None (clash c) ≡ Some ts = subst (λ (r : Option ℕ). or_else r (clash c) ≡ Some ts) f e in
          let same : c.ts ≡ ts = own (clashes cmp start key c) q in
          omega (arith, a.0)

  -- the commit is at this timestamp, and clashes
  abbrev here : ℕ → Commit K → Bool
  here ts c = (c.ts == ts) && clashes cmp start key c

  -- commits without a clash
  none_later : (cs : List (Commit K)) (ts : ℕ) → HasNoClash cmp cs start key → AllByRecursion (λ c. IsTrue (clashes cmp start key c) → c.ts ≤ ts) cs
  none_later [] ts a = tt
  none_later (c ∷ cs) ts a = (λ t. absurd (no (clashes cmp start key c) a.0 t), none_later cs ts a.1)
    where
      no : (b : Bool) → b ≡ false → IsTrue b → ⊥
      no true e t = cc
      no false e t = cc

  here_is : (c : Commit K) (ts : ℕ) → clash c ≡ Some ts → IsTrue (here ts c)
  here_is c ts e = by (clashes cmp start key c) e
    where
      by : (b : Bool) → (if b then Some c.ts else None) ≡ Some ts → IsTrue ((c.ts == ts) && b)
      by true e = let s : c.ts ≡ ts = cc in grind (arith, common_steps)
      by false e = absurd (cc)

  any_later : (b c : Bool) → IsTrue c → IsTrue (b || c)
  any_later true c t = refl
  any_later false c t = t

  any_here : (b c : Bool) → IsTrue b → IsTrue (b || c)
  any_here true c t = refl
  any_here false c t = absurd (cc)

  -- what the last one is
  pub some_is : (low : ℕ) (cs : List (Commit K)) (ts : ℕ) → Ascends low (map ts_of cs) → last_clash cmp cs start key ≡ Some ts → IsLastClash cmp cs start key ts
  some_is low [] ts a e = absurd (cc)
  some_is low (c ∷ cs) ts a e = by_tail (last_clash cmp cs start key) refl (λ t f. some_is c.ts cs t a.1 f)
    where
      by_tail : (o : Option ℕ) → last_clash cmp cs start key ≡ o → ((t : ℕ) → last_clash cmp cs start key ≡ Some t → IsLastClash cmp cs start key t) → IsLastClash cmp (c ∷ cs) start key ts
      by_tail (Some t) f rest =
          let q : or_else (Some t) (clash c) ≡ Some ts = subst (λ (r : Option ℕ). or_else r (clash c) ≡ Some ts) f e in
          let same : t ≡ ts = cc in
          let at_ts : last_clash cmp cs start key ≡ Some ts = cc in
          let tail = rest ts at_ts in
          let over : c.ts < ts = last_above c.ts cs ts a.1 at_ts in
          record {
            found = any_later (here ts c) (list_any (here ts) cs) tail.found;
            last = (λ t. omega arith, tail.last);
          }
      by_tail None f rest =
          let q : or_else None (clash c) ≡ Some ts = subst (λ (r : Option ℕ). or_else r (clash c) ≡ Some ts) f e in
          record {
            found = any_here (here ts c) (list_any (here ts) cs) (here_is c ts q);
            last = (λ t. own (clashes cmp start key c) q, none_later cs ts (none_is cs f));
          }
        where
          own : (b : Bool) → (if b then Some c.ts else None) ≡ Some ts → c.ts ≤ ts
          own true e = let s : c.ts ≡ ts = cc in omega arith
          own false e = absurd (cc)

-- at a place whose key clashes
pub verdict_at_some : {K : Type 0} (cmp : K → K → Ordering) (start : ℕ) (commits : List (Commit K)) (keys : List K) (at : ℕ) (key : K) (ts : ℕ) → at < length keys → key ≡ get_or keys at key → last_clash cmp commits start key ≡ Some ts → verdict_from cmp commits start at (drop at keys) ≡ Conflict at ts
verdict_at_some cmp start commits keys at key ts lt is e =
    let d : drop at keys ≡ get_or keys at key ∷ drop (suc at) keys = drop-cons keys at key lt in
    let f : last_clash cmp commits start (get_or keys at key) ≡ Some ts = subst (λ k. last_clash cmp commits start k ≡ Some ts) is e in
    rw (d, f) refl

module _ {K : Type 0} (cmp : K → K → Ordering) (total : IsTotalOrder cmp) where
  -- where the other is not less, this one is at most the other
  at_most : (x y : K) → is_lt (cmp y x) ≡ false → IsTrue (is_le (cmp x y))
  at_most x y e = by (cmp y x) (cmp x y) (total.antisymm x y) e
    where
      by : (o p : Ordering) → p ≡ ordering_reverse o → is_lt o ≡ false → IsTrue (is_le p)
      by Less p r e = absurd (cc)
      by Equal p r e = rw r refl
      by Greater p r e = rw r refl

  -- where no key is less
  at_most_each : (key : K) (keys : List K) → ((j : ℕ) (d : K) → j < length keys → is_lt (cmp (get_or keys j d) key) ≡ false) → AllByRecursion (λ k. IsTrue (is_le (cmp key k))) keys
  at_most_each key [] f = tt
  at_most_each key (k ∷ keys) f = (at_most key k (f 0 k (omega arith)), at_most_each key keys (λ j d lt. f (suc j) d (omega arith)))

  -- the first of ascending keys is the least
  pub first_least : (key : K) (keys : List K) → IsSorted cmp (key ∷ keys) → AllByRecursion (λ k. IsTrue (is_le (cmp key k))) (key ∷ keys)
  first_least key keys s = at_most_each key (key ∷ keys) (λ j d lt. sorted_far (λ x y. is_lt (cmp x y)) (ranks_by total (λ x. x)) (key ∷ keys) s 0 j d (omega arith) lt)

-- what comes after the first of ascending keys ascends
pub sorted_tail : {K : Type 0} (cmp : K → K → Ordering) (key : K) (keys : List K) → IsSorted cmp (key ∷ keys) → IsSorted cmp keys
sorted_tail cmp key keys s k d low lt = let e : suc k + 1 ≡ suc (k + 1) = omega arith in let low' : 0 ≤ suc k = omega arith in let lt' : suc k + 1 < length (key ∷ keys) = omega arith in subst (λ (n : ℕ). is_lt (cmp (get_or (key ∷ keys) n d) (get_or keys k d)) ≡ false) e (s (suc k) d low' lt')

-- where no commit clashes, there is no clash
no_clash : {K : Type 0} (cmp : K → K → Ordering) (commits : List (Commit K)) (start : ℕ) (key : K) → HasNoClash cmp commits start key → has_clash cmp commits start key ≡ false
no_clash cmp [] start key n = refl
no_clash cmp (c ∷ cs) start key n = rw n.0 (no_clash cmp cs start key n.1)

-- what holds of each holds under a premise
all_given : {X : Type 0} (P Q : X → Type 0) (xs : List X) → AllByRecursion Q xs → AllByRecursion (λ x. P x → Q x) xs
all_given P Q [] a = tt
all_given P Q (x ∷ xs) a = (λ _. a.0, all_given P Q xs a.1)

-- what the verdict says, on keys of which the first has a place
abbrev Says : {K : Type 0} → (K → K → Ordering) → List (Commit K) → ℕ → ℕ → List K → Verdict → Type 0
Says cmp commits start first keys Clear = AllByRecursion (HasNoClash cmp commits start) keys
Says cmp commits start first keys (Conflict at ts) = IsConflictAt cmp commits start keys (at - first) ts × (first ≤ at)

says : {K : Type 0} (cmp : K → K → Ordering) → IsTotalOrder cmp → (commits : List (Commit K)) (start first : ℕ) (keys : List K) → Ascends 0 (map ts_of commits) → IsSorted cmp keys → Says cmp commits start first keys (verdict_from cmp commits start first keys)
says cmp total commits start first [] a s = tt
says {K} cmp total commits start first (key ∷ keys) a s = by_last (last_clash cmp commits start key) refl (says cmp total commits start (first + 1) keys a (sorted_tail cmp key keys s))
  where
    at_key : HasNoClash cmp commits start key → (k : K) → IsTrue (has_clash cmp commits start key) → IsTrue (is_le (cmp k key))
    at_key n k t = absurd (let e : has_clash cmp commits start key ≡ false = no_clash cmp commits start key n in cc)

    more : (v : Verdict) → HasNoClash cmp commits start key → Says cmp commits start (first + 1) keys v → Says cmp commits start first (key ∷ keys) v
    more Clear n s = (n, s)
    more (Conflict at ts) n s = (
      record {
        before = key ∷ s.0.before;
        key = s.0.key;
        after = s.0.after;
        parts = ap (λ ks. key ∷ ks) s.0.parts;
        place = omega (arith, s.0.place, s.1);
        none_before = (n, s.0.none_before);
        least = (at_key n s.0.key, s.0.least);
        last = s.0.last;
      },
      omega (arith, s.1),
    )

    by_last : (o : Option ℕ) → last_clash cmp commits start key ≡ o → Says cmp commits start (first + 1) keys (verdict_from cmp commits start (first + 1) keys) → Says cmp commits start first (key ∷ keys) (conflict_or first o (verdict_from cmp commits start (first + 1) keys))
    by_last (Some ts) e rest = (
      record {
        before = [];
        key = key;
        after = keys;
        parts = refl;
        place = omega arith;
        none_before = tt;
        least = all_given (λ k. IsTrue (has_clash cmp commits start k)) (λ k. IsTrue (is_le (cmp key k))) (key ∷ keys) (first_least cmp total key keys s);
        last = some_is cmp start key 0 commits ts a e;
      },
      omega arith,
    )
    by_last None e rest = more (verdict_from cmp commits start (first + 1) keys) (none_is cmp start key commits e) rest

-- the verdict says what it is to say
pub verdict_is : {K : Type 0} (cmp : K → K → Ordering) → IsTotalOrder cmp → (commits : List (Commit K)) (start : ℕ) (keys : List K) → Ascends 0 (map ts_of commits) → IsSorted cmp keys → IsVerdict cmp commits start keys (verdict cmp commits start keys)
verdict_is cmp total commits start keys a s = whole (verdict_from cmp commits start 0 keys) (says cmp total commits start 0 keys a s)
  where
    whole : (v : Verdict) → Says cmp commits start 0 keys v → IsVerdict cmp commits start keys v
    whole Clear s = s
    whole (Conflict at ts) s = let e : at - 0 ≡ at = omega arith in subst (λ (k : ℕ). IsConflictAt cmp commits start keys k ts) e s.0

-- without the commits at or below a line, the last clash above a start from there on is the same
same_last : {K : Type 0} (cmp : K → K → Ordering) (line start : ℕ) (key : K) (cs : List (Commit K)) → line ≤ start → last_clash cmp (above line cs) start key ≡ last_clash cmp cs start key
same_last cmp line start key [] le = refl
same_last {K} cmp line start key (c ∷ cs) le = by (nat_lt line c.ts) refl (same_last cmp line start key cs le)
  where
    low : (nat_lt line c.ts) ≡ false → clash cmp start key c ≡ None
    low e = low_none cmp start key c (let l : c.ts ≤ line = grind (arith, common_steps) in omega arith)

    by : (b : Bool) → nat_lt line c.ts ≡ b → last_clash cmp (above line cs) start key ≡ last_clash cmp cs start key → last_clash cmp (cond b (c ∷ above line cs) (above line cs)) start key ≡ or_else (last_clash cmp cs start key) (clash cmp start key c)
    by true e rest = ap (λ o. or_else o (clash cmp start key c)) rest
    by false e rest = rest ∙ (sym (ap (λ o. or_else (last_clash cmp cs start key) o) (low e) ∙ or_none (last_clash cmp cs start key)))
      where
        or_none : (o : Option ℕ) → or_else o None ≡ o
        or_none None = refl
        or_none (Some ts) = refl

same_from : {K : Type 0} (cmp : K → K → Ordering) (line start at : ℕ) (cs : List (Commit K)) (keys : List K) → line ≤ start → verdict_from cmp (above line cs) start at keys ≡ verdict_from cmp cs start at keys
same_from cmp line start at cs [] le = refl
same_from cmp line start at cs (key ∷ keys) le =
    ap (λ o. conflict_or at o (verdict_from cmp (above line cs) start (at + 1) keys)) (same_last cmp line start key cs le)
    ∙ ap (λ v. conflict_or at (last_clash cmp cs start key) v) (same_from cmp line start (at + 1) cs keys le)

-- nor do verdicts change
pub same_verdicts : {K : Type 0} (cmp : K → K → Ordering) (line high : ℕ) (cs : List (Commit K)) → line ≤ high → HasSameVerdicts cmp high (above line cs) cs
same_verdicts cmp line high cs le start keys from = same_from cmp line start 0 cs keys (omega arith)

-- from a lower number on
pub ascends_from_zero : (low : ℕ) (xs : List ℕ) → Ascends low xs → Ascends 0 xs
ascends_from_zero low [] a = tt
ascends_from_zero low (x ∷ xs) a = (omega (arith, a.0), a.1)
