-- How the keys of commits are kept: as marks, each a key with a timestamp, in runs.
use Rattle.std.specs.Prelude.{◌≡◌, ◌⊎◌, max, ℕ, ◌<◌, Bool, true, false, nat_lt, ◌==◌, List, [], ◌∷◌, ◌++◌, filter, map, Option, Some, None, if◌then◌else◌}
use Rattle.std.specs.declared.cmp.Ordering.{Ordering}
use Rattle.std.specs.Ordering.{ordering_then, nat_cmp, is_gt}
use Rattle.std.specs.List.{AllByRecursion}
use Rattle.dg_oracle.specs.declared.mark.Mark.{Mark}
use Rattle.dg_oracle.specs.Commits.{Commit, is_among}
use Rattle.dg_oracle.specs.Verdicts.{has_key}

-- the key, marked at this timestamp
abbrev pub marked_at : {K : Type 0} → ℕ → K → Mark K
marked_at ts key = record { key = key; ts = ts }

-- by key, and for one key by timestamp
abbrev pub mark_cmp : {K : Type 0} → (K → K → Ordering) → Mark K → Mark K → Ordering
mark_cmp cmp x y = ordering_then (cmp x.key y.key) (nat_cmp x.ts y.ts)

-- the first is not above the second
abbrev pub IsUpTo : {K : Type 0} → (K → K → Ordering) → Mark K → Mark K → Type 0
IsUpTo cmp x y = is_gt (mark_cmp cmp x y) ≡ false

-- no mark is above a later one
abbrev pub Ascending : {K : Type 0} → (K → K → Ordering) → List (Mark K) → Type 0
Ascending cmp [] = Unit {0}
Ascending cmp (m ∷ ms) = AllByRecursion (IsUpTo cmp m) ms × Ascending cmp ms

-- the marks of some commits, none of them later than the newest
pub record Layer (K : Type 0) : Type 0 where
  pub newest : ℕ
  pub marks : List (Mark K)

-- the keys that are marked at a timestamp
abbrev pub keys_at : {K : Type 0} → ℕ → List (Mark K) → List K
keys_at ts [] = []
keys_at ts (m ∷ ms) = if m.ts == ts then m.key ∷ keys_at ts ms else keys_at ts ms

-- what holds of every run
pub record IsRun {K : Type 0} (cmp : K → K → Ordering) (newest : ℕ) (marks : List (Mark K)) : Type 0 where
  pub ascending : Ascending cmp marks
  pub up_to_newest : (ts : ℕ) → newest < ts → keys_at ts marks ≡ []

-- no timestamp has marks in both
abbrev pub IsApart : {K : Type 0} → List (Mark K) → List (Mark K) → Type 0
IsApart xs ys = (ts : ℕ) → (keys_at ts xs ≡ []) ⊎ (keys_at ts ys ≡ [])

-- each timestamp has the same keys in both
abbrev pub HasSameKeys : {K : Type 0} → List (Mark K) → List (Mark K) → Type 0
HasSameKeys xs ys = (ts : ℕ) → keys_at ts xs ≡ keys_at ts ys

-- the marks of all runs, the oldest run first
abbrev pub marks_of : {K : Type 0} → List (Layer K) → List (Mark K)
marks_of [] = []
marks_of (r ∷ rs) = r.marks ++ marks_of rs

-- each commit has its marks in one run
abbrev pub IsLayered : {K : Type 0} → List (Layer K) → Type 0
IsLayered [] = Unit {0}
IsLayered (r ∷ rs) = IsApart r.marks (marks_of rs) × IsLayered rs

-- the commit at a timestamp
abbrev pub commit_at : {K : Type 0} → List (Mark K) → ℕ → Commit K
commit_at marks ts = record { ts = ts; keys = keys_at ts marks }

-- the commits at these timestamps
abbrev pub commits_of : {K : Type 0} → List (Mark K) → List ℕ → List (Commit K)
commits_of marks times = map (commit_at marks) times

-- what holds of every history
pub record IsHistory {K : Type 0} (runs : List (Layer K)) (times : List ℕ) : Type 0 where
  pub layered : IsLayered runs
  pub known : (ts : ℕ) → is_among times ts ≡ false → keys_at ts (marks_of runs) ≡ []

-- the marks above a line
abbrev pub marks_above : {K : Type 0} → ℕ → List (Mark K) → List (Mark K)
marks_above line marks = filter (λ m. nat_lt line m.ts) marks

-- the part of a run above a line
abbrev pub cut_above : {K : Type 0} → ℕ → Layer K → Layer K
cut_above line r = record { newest = r.newest; marks = marks_above line r.marks }

-- whether the key is marked at this timestamp
abbrev pub is_marked : {K : Type 0} → (K → K → Ordering) → List (Mark K) → K → ℕ → Bool
is_marked cmp marks key ts = has_key cmp (keys_at ts marks) key

-- the last timestamp above the start at which the key is marked
abbrev pub IsLast : {K : Type 0} → (K → K → Ordering) → List (Mark K) → ℕ → K → Option ℕ → Type 0
IsLast cmp marks start key None = (ts : ℕ) → start < ts → is_marked cmp marks key ts ≡ false
IsLast cmp marks start key (Some last) = (start < last) × (is_marked cmp marks key last ≡ true) × ((ts : ℕ) → last < ts → is_marked cmp marks key ts ≡ false)

-- the later of two timestamps, where there are any
abbrev pub later_of : Option ℕ → Option ℕ → Option ℕ
later_of None b = b
later_of (Some a) None = Some a
later_of (Some a) (Some b) = Some (max a b)

-- the last of these
abbrev pub last_of : {X : Type 0} → List X → Option X
last_of [] = None
last_of (x ∷ []) = Some x
last_of (x ∷ y ∷ ys) = last_of (y ∷ ys)

-- whether the first mark comes after the second, where there are any
abbrev pub is_after : {K : Type 0} → (K → K → Ordering) → Option (Mark K) → Option (Mark K) → Bool
is_after cmp None y = false
is_after cmp (Some x) None = true
is_after cmp (Some x) (Some y) = is_gt (mark_cmp cmp x y)

-- the last mark is taken from the first list, and none of the other is above it
pub record Takes {K : Type 0} (cmp : K → K → Ordering) (from other : List (Mark K)) (mark : Mark K) (rest left : List (Mark K)) : Type 0 where
  pub taken : from ≡ rest ++ mark ∷ []
  pub other_stays : left ≡ other
  pub greatest : (m : Mark K) → last_of other ≡ Some m → IsUpTo cmp m mark

-- the greater of the last marks of two lists is taken, where there is any
abbrev pub TakesGreater : {K : Type 0} → (K → K → Ordering) → List (Mark K) → List (Mark K) → Option (Mark K) → List (Mark K) → List (Mark K) → Type 0
TakesGreater cmp xs ys None xs' ys' = (xs ≡ []) × (ys ≡ [])
TakesGreater cmp xs ys (Some m) xs' ys' = Takes cmp xs ys m xs' ys' ⊎ Takes cmp ys xs m ys' xs'
