-- The first record above a timestamp stands behind those that aren't.
use Rattle.std.proofs.Common.{◌≡◌, ℕ, zero, suc, ◌<◌, ◌≤◌, true, false, List, [], ◌∷◌, length, get_or, sym, refl, arith}
use Rattle.std.specs.Prelude.{find, nat_lt, nat_le, slice_get, map}
use Rattle.std.specs.List.Sorted.{IsPartitionPoint, IsPartitionedBy}
use Rattle.std.proofs.lemmas.Grind.{common_steps}
use Rattle.dg_keys.specs.declared.record.Record.{Record}
use Rattle.dg_oracle.specs.Commits.{Ascends}
use Rattle.dg_zero.specs.Records.{ts_of}

-- what ascends from a number on is above it
above_low : (low : ℕ) (rs : List Record) (j : ℕ) (d : Record) → Ascends low (map ts_of rs) → j < length rs → low < (get_or rs j d).ts
above_low low [] j d a lt = absurd (omega arith)
above_low low (r ∷ rs) zero d a lt = a.0
above_low low (r ∷ rs) (suc j) d a lt = let up = above_low r.ts rs j d a.1 (omega arith) in omega (arith, a.0, up)

-- records that aren't above a timestamp come first
pub parted_upto : (after low : ℕ) (rs : List Record) → Ascends low (map ts_of rs) → IsPartitionedBy (λ r. nat_le r.ts after) rs
parted_upto after low [] a i j d le lt e = absurd (omega arith)
parted_upto after low (r ∷ rs) a zero zero d le lt e = e
parted_upto after low (r ∷ rs) a zero (suc j) d le lt e = let up = above_low r.ts rs j d a.1 (omega arith) in grind (arith, common_steps)
parted_upto after low (r ∷ rs) a (suc i) zero d le lt e = absurd (omega arith)
parted_upto after low (r ∷ rs) a (suc i) (suc j) d le lt e = parted_upto after r.ts rs a.1 i j d (omega arith) (omega arith) e

-- so the first one that is above it stands behind them
pub found_behind : (after : ℕ) (rs : List Record) (i : ℕ) → i ≤ length rs → IsPartitionPoint (λ r. nat_le r.ts after ≡ true) (λ r. nat_le r.ts after ≡ false) rs i → slice_get rs i ≡ find (λ r. nat_lt after r.ts) rs
found_behind after [] zero le p = refl
found_behind after [] (suc i) le p = refl
found_behind after (r ∷ rs) zero le p =
    let up : nat_le r.ts after ≡ false = p.1 0 r (omega arith) (omega arith) in
    let yes : nat_lt after r.ts ≡ true = grind (arith, common_steps) in
    sym (rw yes refl)
found_behind after (r ∷ rs) (suc i) le p =
    let low : nat_le r.ts after ≡ true = p.0 0 r (omega arith) (omega arith) in
    let none : nat_lt after r.ts ≡ false = grind (arith, common_steps) in
    rw none (found_behind after rs i (omega arith) ((λ k d from upto. p.0 (suc k) d (omega arith) (omega arith)), (λ k d from upto. p.1 (suc k) d (omega arith) (omega arith))))
