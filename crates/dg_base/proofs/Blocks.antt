-- Where blocks begin, and what stands there.
use Rattle.std.proofs.Common.{◌≡◌, ℕ, zero, suc, ◌+◌, ◌-◌, ◌*◌, ◌^◌, ◌<◌, List, [], ◌∷◌, ◌++◌, length, get_or, drop, refl, ap, sym, subst, append_assoc, arith}
use Rattle.std.specs.Prelude.{min}
use Rattle.std.specs.Int.{w64, to_be_bytes}
use Rattle.std.specs.Ordering.{nat_cmp}
use Rattle.std.specs.List.{AllByRecursion}
use Rattle.std.proofs.lemmas.List.{drop_at, length-append}
use Rattle.dg_values.specs.Ascending.{Ascends}
use Rattle.dg_base.specs.declared.packing.Start.{Start}
use Rattle.dg_base.specs.declared.reading.Cursor.{Cursor}
use Rattle.dg_base.specs.Packed.{groups, packed_after, packed}
use Rattle.dg_base.specs.Starts.{starts_after, starts_of}
use Rattle.dg_base.specs.Cursors.{StandsBefore}

-- the block that begins with the number at a place
pub record IsStart (bytes : List ℕ) (xs : List ℕ) (place : ℕ) (start : Start) : Type 0 where
  pub left : drop start.at bytes ≡ packed_after 0 0 (drop place xs)
  pub first : start.first ≡ get_or xs place 0
  pub within : place < length xs

behind_one : (bytes : List ℕ) (x : ℕ) (xs : List ℕ) (place : ℕ) (start : Start) → IsStart bytes xs place start → IsStart bytes (x ∷ xs) (suc place) start
behind_one bytes x xs place start s = record { left = s.left; first = s.first; within = omega (arith, s.within) }

starts : (at last room : ℕ) (xs : List ℕ) (before : List ℕ) (k : ℕ) (d : Start) → length before ≡ at → k < length (starts_after at last room xs)
    → IsStart (before ++ packed_after last room xs) xs (room + 128 * k) (get_or (starts_after at last room xs) k d)
starts at last room [] before k d e h = absurd (omega arith)
starts at last zero (x ∷ xs) before zero d e h = record { left = drop_at before (packed_after last 0 (x ∷ xs)) at e; first = refl; within = omega arith }
starts at last zero (x ∷ xs) before (suc k) d e h =
    let head : List ℕ = min 127 (length xs) ∷ to_be_bytes w64 x in
    let long : length (before ++ head) ≡ at + 9 = omega (arith, length-append before head) in
    let later = starts (at + 9) x 127 xs (before ++ head) k d long (omega arith) in
    let place : 0 + 128 * suc k ≡ suc (127 + 128 * k) = omega arith in
    let bytes = append_assoc before head (packed_after x 127 xs) in
    let start = get_or (starts_after (at + 9) x 127 xs) k d in
    subst (λ (n : ℕ). IsStart (before ++ packed_after last 0 (x ∷ xs)) (x ∷ xs) n start) (sym place)
    (subst (λ (bs : List ℕ). IsStart bs (x ∷ xs) (suc (127 + 128 * k)) start) bytes (behind_one ((before ++ head) ++ packed_after x 127 xs) x xs (127 + 128 * k) start later))
starts at last (suc room) (x ∷ xs) before k d e h =
    let head : List ℕ = groups 9 (x - last) in
    let long : length (before ++ head) ≡ at + length head = omega (arith, length-append before head) in
    let later = starts (at + length head) x room xs (before ++ head) k d long h in
    let place : suc room + 128 * k ≡ suc (room + 128 * k) = omega arith in
    let bytes = append_assoc before head (packed_after x room xs) in
    let start = get_or (starts_after (at + length head) x room xs) k d in
    subst (λ (n : ℕ). IsStart (before ++ packed_after last (suc room) (x ∷ xs)) (x ∷ xs) n start) (sym place)
    (subst (λ (bs : List ℕ). IsStart bs (x ∷ xs) (suc (room + 128 * k)) start) bytes (behind_one ((before ++ head) ++ packed_after x room xs) x xs (room + 128 * k) start later))

-- the block at a place begins with the number at 128 times that place
pub start_is : (bytes : List ℕ) (starts_held : List Start) (xs : List ℕ) → bytes ≡ packed xs → starts_held ≡ starts_of xs → (k : ℕ) (d : Start) → k < length starts_held → IsStart bytes xs (128 * k) (get_or starts_held k d)
start_is bytes starts_held xs e f k d h =
    let within : k < length (starts_of xs) = omega (arith, h, ap (λ (ss : List Start). length ss) f) in
    let none : 0 + 128 * k ≡ 128 * k = omega arith in
    subst (λ (bs : List ℕ). IsStart bs xs (128 * k) (get_or starts_held k d)) (sym e)
    (subst (λ (ss : List Start). IsStart (packed xs) xs (128 * k) (get_or ss k d)) (sym f)
    (subst (λ (n : ℕ). IsStart (packed xs) xs n (get_or (starts_of xs) k d)) none (starts 0 0 0 xs [] k d refl within)))

blocks_reach : (at last room : ℕ) (xs : List ℕ) (k : ℕ) → room + 128 * k < length xs → k < length (starts_after at last room xs)
blocks_reach at last room [] k h = absurd (omega arith)
blocks_reach at last zero (x ∷ xs) zero h = omega arith
blocks_reach at last zero (x ∷ xs) (suc k) h = omega (arith, blocks_reach (at + 9) x 127 xs k (omega arith))
blocks_reach at last (suc room) (x ∷ xs) k h = blocks_reach (at + length (groups 9 (x - last))) x room xs k (omega arith)

-- a number has a block
pub block_is : (starts_held : List Start) (xs : List ℕ) → starts_held ≡ starts_of xs → (k : ℕ) → 128 * k < length xs → k < length starts_held
block_is starts_held xs f k h = omega (arith, blocks_reach 0 0 0 xs k (omega arith), ap (λ (ss : List Start). length ss) f)

-- ---- a cursor at the beginning of a block

pub ascends_drop : (n : ℕ) (xs : List ℕ) → Ascends nat_cmp xs → Ascends nat_cmp (drop n xs)
ascends_drop zero xs a = a
ascends_drop (suc n) [] a = tt
ascends_drop (suc n) (x ∷ xs) a = ascends_drop n xs a.1

pub all_drop : {X : Type 0} (P : X → Type 0) (n : ℕ) (xs : List X) → AllByRecursion P xs → AllByRecursion P (drop n xs)
all_drop P zero xs a = a
all_drop P (suc n) [] a = tt
all_drop P (suc n) (x ∷ xs) a = all_drop P n xs a.1

pub stands_at : (bytes : List ℕ) (xs : List ℕ) (place : ℕ) (start : Start) (cursor : Cursor) → IsStart bytes xs place start → cursor.last ≡ 0 → cursor.at ≡ start.at → cursor.room ≡ 0
    → Ascends nat_cmp xs → AllByRecursion (λ x. x < 2 ^ 64) xs → StandsBefore bytes cursor (drop place xs)
stands_at bytes xs place start cursor s last at room a fit = record {
  left = rw (at, last, room) s.left;
  follow = rw room (ascends_drop place xs a);
  fit = all_drop (λ x. x < 2 ^ 64) place xs fit;
}
