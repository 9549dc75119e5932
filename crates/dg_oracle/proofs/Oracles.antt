-- Each call of an oracle keeps what holds of every oracle.
use Rattle.std.proofs.Common.{◌≡◌, ℕ, ◌+◌, ◌-◌, ◌<◌, ◌≤◌, ◌^◌, Bool, true, false, cond, not, List, [], ◌∷◌, ◌++◌, map, max, refl, ap, subst, sym, arith}
use Rattle.std.specs.Prelude.{nat_lt, ◌==◌, ◌||◌, filter}
use Rattle.std.specs.List.{AllByRecursion}
use Rattle.std.proofs.lemmas.Grind.{common_steps}
use Rattle.dg_oracle.specs.Commits.{Commit, OracleState, IsOracle, Ascends, ts_of, is_among, is_active, without, begun, committed, ended, two_drawn, below_first, above, purged}

-- from a lower number on
pub ascends_lower : (low high : ℕ) (xs : List ℕ) → low ≤ high → Ascends high xs → Ascends low xs
ascends_lower low high [] le a = tt
ascends_lower low high (x ∷ xs) le a = (omega (arith, a.0), a.1)

-- one more at the end
pub ascends_push : (low : ℕ) (xs : List ℕ) (x : ℕ) → low < x → Ascends low xs → AllByRecursion (λ y. y < x) xs → Ascends low (xs ++ x ∷ [])
ascends_push low [] x lt a b = (lt, tt)
ascends_push low (y ∷ xs) x lt a b = (a.0, ascends_push y xs x b.0 a.1 b.1)

-- some of them
pub ascends_filter : (p : ℕ → Bool) (low : ℕ) (xs : List ℕ) → Ascends low xs → Ascends low (filter p xs)
ascends_filter p low [] a = tt
ascends_filter p low (x ∷ xs) a =
    elim (p x) as (λ b. Ascends low (cond b (x ∷ filter p xs) (filter p xs))) [ true ↦ (a.0, ascends_filter p x xs a.1) | false ↦ ascends_filter p low xs (ascends_lower low x xs (omega (arith, a.0)) a.1) ]

-- those above a line
ascends_above : {K : Type 0} (line low : ℕ) (cs : List (Commit K)) → Ascends low (map ts_of cs) → Ascends (max low line) (map ts_of (above line cs))
ascends_above line low [] a = tt
ascends_above line low (c ∷ cs) a = by (nat_lt line c.ts) (λ e. grind (arith, common_steps)) (ascends_above line c.ts cs a.1)
  where
    by : (b : Bool) → (b ≡ true → line < c.ts) → Ascends (max c.ts line) (map ts_of (above line cs)) → Ascends (max low line) (map ts_of (cond b (c ∷ above line cs) (above line cs)))
    by true lt rest = (let l : line < c.ts = lt refl in omega (arith, a.0), ascends_lower c.ts (max c.ts line) (map ts_of (above line cs)) (omega arith) rest)
    by false lt rest = ascends_lower (max low line) (max c.ts line) (map ts_of (above line cs)) (omega (arith, a.0)) rest

pub all_filter : {X : Type 0} (P : X → Type 0) (p : X → Bool) (xs : List X) → AllByRecursion P xs → AllByRecursion P (filter p xs)
all_filter P p [] a = tt
all_filter P p (x ∷ xs) a =
    elim (p x) as (λ b. AllByRecursion P (cond b (x ∷ filter p xs) (filter p xs))) [ true ↦ (a.0, all_filter P p xs a.1) | false ↦ all_filter P p xs a.1 ]

pub all_above : {K : Type 0} (P : ℕ → Type 0) (p : Commit K → Bool) (cs : List (Commit K)) → AllByRecursion P (map ts_of cs) → AllByRecursion P (map ts_of (filter p cs))
all_above P p [] a = tt
all_above P p (c ∷ cs) a =
    elim (p c) as (λ b. AllByRecursion P (map ts_of (cond b (c ∷ filter p cs) (filter p cs)))) [ true ↦ (a.0, all_above P p cs a.1) | false ↦ all_above P p cs a.1 ]

pub all_push : {X : Type 0} (P : X → Type 0) (xs : List X) (x : X) → AllByRecursion P xs → P x → AllByRecursion P (xs ++ x ∷ [])
all_push P [] x a p = (p, tt)
all_push P (y ∷ xs) x a p = (a.0, all_push P xs x a.1 p)

-- below one more
pub below_more : (n m : ℕ) (xs : List ℕ) → n ≤ m → AllByRecursion (λ x. x < n) xs → AllByRecursion (λ x. x < m) xs
below_more n m [] le a = tt
below_more n m (x ∷ xs) le a = (omega (arith, a.0), below_more n m xs le a.1)

pub map_push : {X Y : Type 0} (f : X → Y) (xs : List X) (x : X) → map f (xs ++ x ∷ []) ≡ map f xs ++ f x ∷ []
map_push f [] x = refl
map_push f (y ∷ xs) x = ap (λ ys. f y ∷ ys) (map_push f xs x)

-- none of them is above them all
pub not_among : (n : ℕ) (xs : List ℕ) → AllByRecursion (λ x. x < n) xs → is_among xs n ≡ false
not_among n [] a = refl
not_among n (x ∷ xs) a = both (x == n) (is_among xs n) (let lt : x < n = a.0 in grind (arith, common_steps)) (not_among n xs a.1)
  where
    both : (b c : Bool) → b ≡ false → c ≡ false → (b || c) ≡ false
    both false c d e = e
    both true c d e = absurd (cc)

-- nor is a lower number among them and that one
not_pushed : (n s : ℕ) (ts : List ℕ) → s < n → is_among ts s ≡ false → is_among (ts ++ n ∷ []) s ≡ false
not_pushed n s [] lt e = let f : (n == s) ≡ false = unequal n s lt in ap (λ b. b || false) f
  where
    unequal : (n s : ℕ) → s < n → (n == s) ≡ false
    unequal n s lt = grind (arith, common_steps)
not_pushed n s (t ∷ ts) lt e = by (t == s) e (λ f. not_pushed n s ts lt f)
  where
    by : (b : Bool) → (b || is_among ts s) ≡ false → (is_among ts s ≡ false → is_among (ts ++ n ∷ []) s ≡ false) → (b || is_among (ts ++ n ∷ []) s) ≡ false
    by false f rest = rest f
    by true f rest = absurd (cc)

still_apart : (n : ℕ) (ts active : List ℕ) → AllByRecursion (λ s. s < n) active → AllByRecursion (λ s. is_among ts s ≡ false) active → AllByRecursion (λ s. is_among (ts ++ n ∷ []) s ≡ false) active
still_apart n ts [] lt a = tt
still_apart n ts (s ∷ active) lt a = (not_pushed n s ts lt.0 a.0, still_apart n ts active lt.1 a.1)

-- some commits have no more timestamps
among_above : {K : Type 0} (p : Commit K → Bool) (s : ℕ) (cs : List (Commit K)) → is_among (map ts_of cs) s ≡ false → is_among (map ts_of (filter p cs)) s ≡ false
among_above p s [] e = refl
among_above p s (c ∷ cs) e = by (c.ts == s) refl e (λ f. among_above p s cs f)
  where
    kept : (b : Bool) → (c.ts == s) ≡ false → is_among (map ts_of (filter p cs)) s ≡ false → is_among (map ts_of (cond b (c ∷ filter p cs) (filter p cs))) s ≡ false
    kept true f rest = rw f rest
    kept false f rest = rest

    by : (d : Bool) → (c.ts == s) ≡ d → (d || is_among (map ts_of cs) s) ≡ false → (is_among (map ts_of cs) s ≡ false → is_among (map ts_of (filter p cs)) s ≡ false) → is_among (map ts_of (filter p (c ∷ cs))) s ≡ false
    by false g f rest = kept (p c) g (rest f)
    by true g f rest = absurd (cc)

all_among_above : {K : Type 0} (p : Commit K → Bool) (cs : List (Commit K)) (active : List ℕ) → AllByRecursion (λ s. is_among (map ts_of cs) s ≡ false) active → AllByRecursion (λ s. is_among (map ts_of (filter p cs)) s ≡ false) active
all_among_above p cs [] a = tt
all_among_above p cs (s ∷ active) a = (among_above p s cs a.0, all_among_above p cs active a.1)

-- without a start that isn't there
pub without_none : (active : List ℕ) (start : ℕ) → is_active active start ≡ false → without active start ≡ active
without_none [] start e = refl
without_none (s ∷ active) start e = by (s == start) e (λ f. without_none active start f)
  where
    by : (b : Bool) → (b || is_active active start) ≡ false → (is_active active start ≡ false → without active start ≡ active) → cond (not b) (s ∷ without active start) (without active start) ≡ s ∷ active
    by false f rest = ap (λ ss. s ∷ ss) (rest f)
    by true f rest = absurd (cc)

pub begun_is : {K : Type 0} (o : OracleState K) → IsOracle o → o.next < 2 ^ 62 → IsOracle (begun o)
begun_is o i lt = record {
  least = omega arith;
  most = omega arith;
  line_drawn = omega (arith, i.line_drawn);
  starts_ascend = ascends_push o.line o.active o.next i.line_drawn i.starts_ascend i.starts_drawn;
  starts_drawn = all_push (λ s. s < o.next + 1) o.active o.next (below_more o.next (o.next + 1) o.active (omega arith) i.starts_drawn) (omega arith);
  commits_ascend = i.commits_ascend;
  commits_drawn = below_more o.next (o.next + 1) (map ts_of o.commits) (omega arith) i.commits_drawn;
  apart = all_push (λ s. is_among (map ts_of o.commits) s ≡ false) o.active o.next i.apart (not_among o.next (map ts_of o.commits) i.commits_drawn);
}

pub ended_is : {K : Type 0} (o : OracleState K) (start : ℕ) → IsOracle o → IsOracle (ended o start)
ended_is o start i = record {
  least = i.least;
  most = i.most;
  line_drawn = i.line_drawn;
  starts_ascend = ascends_filter (λ s. not (s == start)) o.line o.active i.starts_ascend;
  starts_drawn = all_filter (λ s. s < o.next) (λ s. not (s == start)) o.active i.starts_drawn;
  commits_ascend = i.commits_ascend;
  commits_drawn = i.commits_drawn;
  apart = all_filter (λ s. is_among (map ts_of o.commits) s ≡ false) (λ s. not (s == start)) o.active i.apart;
}

pub committed_is : {K : Type 0} (o : OracleState K) (start : ℕ) (keys : List K) → IsOracle o → o.next < 2 ^ 62 → IsOracle (committed o start keys)
committed_is o start keys i lt =
    let e = ended_is o start i in
    record {
      least = omega arith;
      most = omega arith;
      line_drawn = omega (arith, i.line_drawn);
      starts_ascend = e.starts_ascend;
      starts_drawn = below_more o.next (o.next + 1) (without o.active start) (omega arith) e.starts_drawn;
      commits_ascend = rw map_push (ascends_push o.line (map ts_of o.commits) o.next i.line_drawn i.commits_ascend i.commits_drawn);
      commits_drawn = rw map_push (all_push (λ s. s < o.next + 1) (map ts_of o.commits) o.next (below_more o.next (o.next + 1) (map ts_of o.commits) (omega arith) i.commits_drawn) (omega arith));
      apart = subst (λ ts. AllByRecursion (λ s. is_among ts s ≡ false) (without o.active start)) (sym (map_push ts_of o.commits (record { ts = o.next; keys = keys }))) (still_apart o.next (map ts_of o.commits) (without o.active start) e.starts_drawn e.apart);
    }

pub two_drawn_is : {K : Type 0} (o : OracleState K) → IsOracle o → o.next < 2 ^ 62 - 1 → IsOracle (two_drawn o)
two_drawn_is o i lt = record {
  least = omega arith;
  most = omega arith;
  line_drawn = omega (arith, i.line_drawn);
  starts_ascend = i.starts_ascend;
  starts_drawn = below_more o.next (o.next + 2) o.active (omega arith) i.starts_drawn;
  commits_ascend = i.commits_ascend;
  commits_drawn = below_more o.next (o.next + 2) (map ts_of o.commits) (omega arith) i.commits_drawn;
  apart = i.apart;
}

-- the starts are above a line below the first
line_above : (low line next : ℕ) (active : List ℕ) → Ascends low active → line ≤ below_first active next → Ascends (max low line) active
line_above low line next [] a le = tt
line_above low line next (start ∷ starts) a le = (omega (arith, a.0), a.1)

line_below : (low line next : ℕ) (active : List ℕ) → AllByRecursion (λ s. s < next) active → 0 < next → low < next → line ≤ below_first active next → max low line < next
line_below low line next [] a pos lt le = omega arith
line_below low line next (start ∷ starts) a pos lt le = omega (arith, a.0)

pub purged_is : {K : Type 0} (o : OracleState K) (line : ℕ) → IsOracle o → line ≤ below_first o.active o.next → IsOracle (purged o line)
purged_is o line i le = record {
  least = i.least;
  most = i.most;
  line_drawn = line_below o.line line o.next o.active i.starts_drawn i.least i.line_drawn le;
  starts_ascend = line_above o.line line o.next o.active i.starts_ascend le;
  starts_drawn = i.starts_drawn;
  commits_ascend = ascends_above line o.line o.commits i.commits_ascend;
  commits_drawn = all_above (λ s. s < o.next) (λ c. nat_lt line c.ts) o.commits i.commits_drawn;
  apart = all_among_above (λ c. nat_lt line c.ts) o.commits o.active i.apart;
}

-- a line that isn't above takes no commit away
all_stay : {K : Type 0} (line low : ℕ) (cs : List (Commit K)) → line ≤ low → Ascends low (map ts_of cs) → above line cs ≡ cs
all_stay line low [] le a = refl
all_stay line low (c ∷ cs) le a = by (nat_lt line c.ts) (let lt : line < c.ts = omega (arith, a.0) in grind (arith, common_steps)) (all_stay line c.ts cs (omega (arith, a.0)) a.1)
  where
    by : (b : Bool) → b ≡ true → above line cs ≡ cs → cond b (c ∷ above line cs) (above line cs) ≡ c ∷ cs
    by true e rest = ap (λ ds. c ∷ ds) rest
    by false e rest = absurd (cc)

-- where the line isn't below, a purge changes nothing
pub unpurged : {K : Type 0} (o : OracleState K) (line : ℕ) → IsOracle o → line ≤ o.line → o ≡ purged o line
unpurged o line i le =
    let commits : o.commits ≡ above line o.commits = sym (all_stay line o.line o.commits le i.commits_ascend) in
    let top : o.line ≡ max o.line line = omega arith in
    λ d. record { next = o.next; active = o.active; commits = commits d; line = top d }

-- where it is below, it rises to the new one
pub risen : (old line : ℕ) → old < line → max old line ≡ line
risen old line lt = omega arith
