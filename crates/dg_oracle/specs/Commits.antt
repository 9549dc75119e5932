-- What an oracle keeps, and what each call makes of it.
use Rattle.std.specs.Prelude.{◌≡◌, ℕ, ◌<◌, ◌≤◌, ◌+◌, ◌-◌, ◌^◌, Bool, false, nat_lt, List, [], ◌∷◌, ◌++◌, filter, map, max, not, ◌==◌, Option, Some, None}
use Rattle.std.specs.List.{list_any, AllByRecursion}

-- the keys that were committed at a timestamp
pub record Commit (K : Type 0) : Type 0 where
  pub ts : ℕ
  pub keys : List K

-- what an oracle is seen as. The active starts and the commits stand in the order in which they came
pub record OracleState (K : Type 0) : Type 0 where
  pub next : ℕ
  pub active : List ℕ
  pub commits : List (Commit K)
  pub line : ℕ

-- the timestamp of a commit
abbrev pub ts_of : {K : Type 0} → Commit K → ℕ
ts_of c = c.ts

-- the numbers ascend, and all are above `low`
abbrev pub Ascends : ℕ → List ℕ → Type 0
Ascends low [] = Unit {0}
Ascends low (x ∷ xs) = (low < x) × Ascends x xs

-- the number is one of these
abbrev pub is_among : List ℕ → ℕ → Bool
is_among numbers n = list_any (λ m. m == n) numbers

-- what holds of every oracle: starts and commits have timestamps that were drawn, above the line, in the order in which they were drawn, and no two have the same
pub record IsOracle {K : Type 0} (o : OracleState K) : Type 0 where
  pub least : 1 ≤ o.next
  pub most : o.next ≤ 2 ^ 62
  pub line_drawn : o.line < o.next
  pub starts_ascend : Ascends o.line o.active
  pub starts_drawn : AllByRecursion (λ start. start < o.next) o.active
  pub commits_ascend : Ascends o.line (map ts_of o.commits)
  pub commits_drawn : AllByRecursion (λ ts. ts < o.next) (map ts_of o.commits)
  pub apart : AllByRecursion (λ start. is_among (map ts_of o.commits) start ≡ false) o.active

-- the start is active
abbrev pub is_active : List ℕ → ℕ → Bool
is_active active start = is_among active start

-- the starts but this one
abbrev pub without : List ℕ → ℕ → List ℕ
without active start = filter (λ s. not (s == start)) active

-- after a start is drawn
abbrev pub begun : {K : Type 0} → OracleState K → OracleState K
begun o = record { next = o.next + 1; active = o.active ++ o.next ∷ []; commits = o.commits; line = o.line }

-- after the transaction with this start commits these keys
abbrev pub committed : {K : Type 0} → OracleState K → ℕ → List K → OracleState K
committed o start keys = record {
  next = o.next + 1;
  active = without o.active start;
  commits = o.commits ++ (record { ts = o.next; keys = keys }) ∷ [];
  line = o.line;
}

-- after the transaction with this start ends
abbrev pub ended : {K : Type 0} → OracleState K → ℕ → OracleState K
ended o start = record { next = o.next; active = without o.active start; commits = o.commits; line = o.line }

-- after two timestamps are drawn
abbrev pub two_drawn : {K : Type 0} → OracleState K → OracleState K
two_drawn o = record { next = o.next + 2; active = o.active; commits = o.commits; line = o.line }

-- the first of these starts, which is the least of them, since they ascend
abbrev pub first_start : List ℕ → Option ℕ
first_start [] = None
first_start (start ∷ starts) = Some start

-- the number below the first of these starts, or else the last timestamp
abbrev pub below_first : List ℕ → ℕ → ℕ
below_first [] next = next - 1
below_first (start ∷ starts) next = start - 1

-- the commits above a line
abbrev pub above : {K : Type 0} → ℕ → List (Commit K) → List (Commit K)
above line commits = filter (λ c. nat_lt line c.ts) commits

-- after the keys of the commits at or below this line are forgotten
abbrev pub purged : {K : Type 0} → OracleState K → ℕ → OracleState K
purged o line = record { next = o.next; active = o.active; commits = above line o.commits; line = max o.line line }
