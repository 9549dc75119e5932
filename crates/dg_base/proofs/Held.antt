-- Packed numbers as they are held, and a block among them.
use Rattle.std.proofs.Common.{◌≡◌, ℕ, ◌+◌, ◌-◌, ◌*◌, ◌^◌, ◌<◌, ◌≤◌, true, false, List, length, get_or, drop, ap, sym, subst, ◌∙◌, arith}
use Rattle.std.specs.Prelude.{min, nat_le, count_by}
use Rattle.std.specs.Ordering.{nat_cmp, is_lt}
use Rattle.std.specs.List.{AllByRecursion}
use Rattle.std.specs.List.Sorted.{IsPartitionPoint, IsPartitionedBy}
use Rattle.std.proofs.lemmas.Bool.Decides.{nat_tests}
use Rattle.dg_values.specs.Ascending.{Ascends, has}
use Rattle.dg_base.specs.declared.packing.Start.{Start}
use Rattle.dg_base.specs.declared.reading.Cursor.{Cursor}
use Rattle.dg_base.specs.Packed.{packed}
use Rattle.dg_base.specs.Unpacked.{unpacked}
use Rattle.dg_base.specs.Starts.{starts_of, IsHeld}
use Rattle.dg_base.specs.Cursors.{StandsBefore}
use Rattle.dg_base.proofs.Unpacking.{length-packed_after}
use Rattle.dg_base.proofs.Blocks.{IsStart, start_is, block_is, stands_at}
use Rattle.dg_base.proofs.Finding.{ascends_at, counted, missing, starts_parted}

-- the bytes and the blocks are those of these numbers
pub record Holds (bytes : List ℕ) (starts : List Start) (count : ℕ) (xs : List ℕ) : Type 0 where
  pub packs : bytes ≡ packed xs
  pub begin : starts ≡ starts_of xs
  pub counts : count ≡ length xs
  pub ascend : Ascends nat_cmp xs
  pub fit : AllByRecursion (λ x. x < 2 ^ 64) xs

pub holds : (bytes bs : List ℕ) (starts ss : List Start) (count : ℕ) (xs : List ℕ) → IsHeld bytes starts count → unpacked bytes ≡ xs → bs ≡ bytes → ss ≡ starts → Holds bs ss count xs
holds bytes bs starts ss count xs h e f g = record {
  packs = f ∙ h.packs ∙ ap packed e;
  begin = g ∙ h.begin ∙ ap starts_of e;
  counts = h.counts ∙ ap (λ (ys : List ℕ). length ys) e;
  ascend = subst (λ (ys : List ℕ). Ascends nat_cmp ys) e h.ascend;
  fit = subst (λ (ys : List ℕ). AllByRecursion (λ x. x < 2 ^ 64) ys) e h.fit;
}

some_start : Start
some_start = record { first = 0; at = 0 }

above_first : (x u : ℕ) → nat_le x u ≡ false → u < x
above_first x u e = grind (arith, nat_tests)

from_first : (x u : ℕ) → nat_le x u ≡ true → x ≤ u
from_first x u e = grind (arith, nat_tests)

-- each number takes at least one byte
pub few : (bs : List ℕ) (ss : List Start) (count : ℕ) (xs : List ℕ) → Holds bs ss count xs → length xs ≤ length bs
few bs ss count xs h = omega (arith, length-packed_after 0 0 xs, ap (λ (ys : List ℕ). length ys) h.packs)

module _ (bs : List ℕ) (ss : List Start) (count : ℕ) (xs : List ℕ) (h : Holds bs ss count xs) where
  pub start_at : (k : ℕ) (d : Start) → k < length ss → IsStart bs xs (128 * k) (get_or ss k d)
  start_at k d within = start_is bs ss xs h.packs h.begin k d within

  pub block_at : (k : ℕ) → 128 * k < length xs → k < length ss
  block_at k within = block_is ss xs h.begin k within

  -- a cursor at the beginning of a block
  pub stands_in : (k : ℕ) (d : Start) (cursor : Cursor) → k < length ss → cursor.last ≡ 0 → cursor.at ≡ (get_or ss k d).at → cursor.room ≡ 0 → StandsBefore bs cursor (drop (128 * k) xs)
  stands_in k d cursor within last at room = stands_at bs xs (128 * k) (get_or ss k d) cursor (start_at k d within) last at room h.ascend h.fit

  pub parted_starts : (u : ℕ) → IsPartitionedBy (λ (s : Start). nat_le s.first u) ss
  parted_starts u = starts_parted bs ss xs u start_at h.ascend

  -- ---- so many blocks begin at or below a number

  module _ (u after : ℕ) (in_reach : after ≤ length ss) (point : IsPartitionPoint (λ (s : Start). nat_le s.first u ≡ true) (λ (s : Start). nat_le s.first u ≡ false) ss after) where
    above_block : (k : ℕ) → after ≤ k → 128 * k < length xs → u < get_or xs (128 * k) 0
    above_block k from within =
        let there : k < length ss = block_at k within in
        let first = (start_at k some_start there).first in
        let above = above_first (get_or ss k some_start).first u (point.1 k some_start from there) in
        omega (arith, first, above)

    pub within_last : 0 < after → 128 * (after - 1) < length xs
    within_last some = (start_at (after - 1) some_start (omega arith)).within

    pub low_before : 0 < after → (j : ℕ) → j < 128 * (after - 1) → get_or xs j 0 < u
    low_before some j l =
        let there : after - 1 < length ss = omega arith in
        let start = start_at (after - 1) some_start there in
        let low = from_first (get_or ss (after - 1) some_start).first u (point.0 (after - 1) some_start (omega arith) (omega arith)) in
        omega (arith, ascends_at xs j (128 * (after - 1)) h.ascend l start.within, start.first, low)

    -- the first number that stands behind the block is above
    above_end : 0 < after → (n : ℕ) → n ≡ 128 * (after - 1) + min 128 (count - 128 * (after - 1)) → n < length xs → u < get_or xs n 0
    above_end some n e within =
        let whole : n ≡ 128 * after = omega (arith, h.counts) in
        let reach : 128 * after < length xs = omega arith in
        let above = above_block after (omega arith) reach in
        subst (λ (m : ℕ). u < get_or xs m 0) (sym whole) above

    pub none_below : after ≡ 0 → 0 ≡ count_by (λ y. is_lt (nat_cmp y u)) xs
    none_below none = counted xs u 0 h.ascend (omega arith) (λ j l. absurd (omega arith)) (λ l. (let a = above_block 0 (omega arith) l in omega arith))

    pub none_there : after ≡ 0 → false ≡ has nat_cmp xs u
    none_there none = missing xs u 0 h.ascend (omega arith) (λ j l. absurd (omega arith)) (λ l. above_block 0 (omega arith) l)

    module _ (some : 0 < after) (n : ℕ) (e : n ≡ 128 * (after - 1) + min 128 (count - 128 * (after - 1))) (low : (j : ℕ) → j < n → get_or xs j 0 < u) where
      pub end_below : n ≡ count_by (λ y. is_lt (nat_cmp y u)) xs
      end_below =
          let last = within_last some in
          counted xs u n h.ascend (omega (arith, h.counts)) low (λ l. (let a = above_end some n e l in omega arith))

      pub end_there : false ≡ has nat_cmp xs u
      end_there =
          let last = within_last some in
          missing xs u n h.ascend (omega (arith, h.counts)) low (λ l. above_end some n e l)
