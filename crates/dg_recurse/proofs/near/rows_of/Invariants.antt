use Rattle.std.proofs.Common.{◌≡◌, ℕ, List, length}
use Rattle.std.specs.Prelude.{Some, slice_get}
use Rattle.dg_recurse.specs.Near.{own_row}
use Rattle.dg_recurse.proofs.near.rows_of.Given as goal

-- the rows so far
abbrev pub invariant-loop-place : goal.invariant-loop-place
invariant-loop-place l = (length l.rows.items ≡ l.place) × ((i : ℕ) (row : List ℕ) → slice_get l.rows.items i ≡ Some row → row ≡ own_row l.columns i)
