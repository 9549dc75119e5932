-- The verdict on the keys of a transaction, over all commits.
use Rattle.std.specs.Prelude.{◌≡◌, ℕ, ◌+◌, ◌≤◌, ◌==◌, Bool, false, ◌&&◌, nat_lt, List, [], ◌∷◌, ◌++◌, Option, Some, None, if◌then◌else◌, IsTrue, length}
use Rattle.std.specs.declared.cmp.Ordering.{Ordering}
use Rattle.std.specs.Ordering.{is_eq, is_le}
use Rattle.std.specs.List.{list_any, AllByRecursion}
use Rattle.dg_oracle.specs.Commits.{Commit}
use Rattle.dg_oracle.specs.declared.verdict.Verdict.{Verdict}
use Rattle.dg_oracle.specs.declared.verdict.Verdict.TheVariants.{Clear, Conflict}

-- the key is one of these
abbrev pub has_key : {K : Type 0} → (K → K → Ordering) → List K → K → Bool
has_key cmp keys key = list_any (λ k. is_eq (cmp k key)) keys

-- the commit is above the start and has the key
abbrev pub clashes : {K : Type 0} → (K → K → Ordering) → ℕ → K → Commit K → Bool
clashes cmp start key commit = nat_lt start commit.ts && has_key cmp commit.keys key

-- a commit above the start has the key
abbrev pub has_clash : {K : Type 0} → (K → K → Ordering) → List (Commit K) → ℕ → K → Bool
has_clash cmp commits start key = list_any (clashes cmp start key) commits

-- no commit above the start has the key
abbrev pub HasNoClash : {K : Type 0} → (K → K → Ordering) → List (Commit K) → ℕ → K → Type 0
HasNoClash cmp commits start key = AllByRecursion (λ c. clashes cmp start key c ≡ false) commits

-- a commit above the start has the key, and no later one has it
pub record IsLastClash {K : Type 0} (cmp : K → K → Ordering) (commits : List (Commit K)) (start : ℕ) (key : K) (ts : ℕ) : Type 0 where
  pub found : IsTrue (list_any (λ c. (c.ts == ts) && clashes cmp start key c) commits)
  pub last : AllByRecursion (λ c. IsTrue (clashes cmp start key c) → c.ts ≤ ts) commits

-- the key at this place is the least of these that have a clash, and the first such, and its last clash is at this timestamp
pub record IsConflictAt {K : Type 0} (cmp : K → K → Ordering) (commits : List (Commit K)) (start : ℕ) (keys : List K) (at ts : ℕ) : Type 0 where
  pub before : List K
  pub key : K
  pub after : List K
  pub parts : keys ≡ before ++ key ∷ after
  pub place : length before ≡ at
  pub none_before : AllByRecursion (HasNoClash cmp commits start) before
  pub least : AllByRecursion (λ k. IsTrue (has_clash cmp commits start k) → IsTrue (is_le (cmp key k))) keys
  pub last : IsLastClash cmp commits start key ts

-- what a verdict says
abbrev pub IsVerdict : {K : Type 0} → (K → K → Ordering) → List (Commit K) → ℕ → List K → Verdict → Type 0
IsVerdict cmp commits start keys Clear = AllByRecursion (HasNoClash cmp commits start) keys
IsVerdict cmp commits start keys (Conflict at ts) = IsConflictAt cmp commits start keys at ts

-- the first, or the second where that is none
abbrev pub or_else : Option ℕ → Option ℕ → Option ℕ
or_else (Some ts) other = Some ts
or_else None other = other

-- the timestamp of the last commit above the start that has the key
abbrev pub last_clash : {K : Type 0} → (K → K → Ordering) → List (Commit K) → ℕ → K → Option ℕ
last_clash cmp [] start key = None
last_clash cmp (c ∷ cs) start key = or_else (last_clash cmp cs start key) (if clashes cmp start key c then Some c.ts else None)

-- a conflict at this place, or else the verdict on what comes after
abbrev pub conflict_or : ℕ → Option ℕ → Verdict → Verdict
conflict_or at (Some ts) rest = Conflict at ts
conflict_or at None rest = rest

-- the verdict on keys, of which the first has this place
abbrev pub verdict_from : {K : Type 0} → (K → K → Ordering) → List (Commit K) → ℕ → ℕ → List K → Verdict
verdict_from cmp commits start at [] = Clear
verdict_from cmp commits start at (key ∷ keys) = conflict_or at (last_clash cmp commits start key) (verdict_from cmp commits start (at + 1) keys)

-- the verdict on keys, as a function
abbrev pub verdict : {K : Type 0} → (K → K → Ordering) → List (Commit K) → ℕ → List K → Verdict
verdict cmp commits start keys = verdict_from cmp commits start 0 keys

-- from the line on, verdicts over the one list of commits are those over the other
abbrev pub HasSameVerdicts : {K : Type 0} → (K → K → Ordering) → ℕ → List (Commit K) → List (Commit K) → Type 0
HasSameVerdicts {K} cmp line new old = (start : ℕ) (keys : List K) → line ≤ start → verdict cmp new start keys ≡ verdict cmp old start keys
