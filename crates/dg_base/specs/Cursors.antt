-- How far packed numbers are written or read.
use Rattle.std.specs.Prelude.{◌≡◌, ℕ, zero, suc, ◌^◌, ◌<◌, List, ◌∷◌, ◌++◌, length, drop}
use Rattle.std.specs.Ordering.{nat_cmp}
use Rattle.std.specs.List.{AllByRecursion}
use Rattle.dg_values.specs.Ascending.{Ascends}
use Rattle.dg_base.specs.declared.packing.Packing.{Packing}
use Rattle.dg_base.specs.declared.reading.Cursor.{Cursor}
use Rattle.dg_base.specs.Packed.{packed_after, packed}
use Rattle.dg_base.specs.Starts.{starts_after, starts_of}

-- the numbers ascend, and where they go on in a block they ascend from the last one on
abbrev pub Follow : ℕ → ℕ → List ℕ → Type 0
Follow last zero xs = Ascends nat_cmp xs
Follow last (suc room) xs = Ascends nat_cmp (last ∷ xs)

-- of the whole these numbers are still to be written
pub record IsPackedBut (packing : Packing) (whole later : List ℕ) : Type 0 where
  pub bytes : packing.bytes.items ++ packed_after packing.last packing.room later ≡ packed whole
  pub starts : packing.starts.items ++ starts_after (length packing.bytes.items) packing.last packing.room later ≡ starts_of whole
  pub follow : Follow packing.last packing.room later

-- the numbers that stand behind a cursor
pub record StandsBefore (bytes : List ℕ) (cursor : Cursor) (numbers : List ℕ) : Type 0 where
  pub left : drop cursor.at bytes ≡ packed_after cursor.last cursor.room numbers
  pub follow : Follow cursor.last cursor.room numbers
  pub fit : AllByRecursion (λ x. x < 2 ^ 64) numbers
