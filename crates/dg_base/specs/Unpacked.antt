-- Packed bytes read back.
use Rattle.std.specs.Prelude.{◌≡◌, ℕ, zero, suc, ◌+◌, ◌-◌, ◌*◌, ◌^◌, ◌<◌, nat_lt, cond, Bool, true, false, List, [], ◌∷◌, length, take, drop}
use Rattle.std.specs.Int.{w64, from_be_bytes}
use Rattle.std.specs.Ordering.{nat_cmp}
use Rattle.std.specs.List.{AllByRecursion}
use Rattle.dg_values.specs.Ascending.{Ascends}
use Rattle.dg_base.specs.Packed.{packed}

-- a number from its groups, of which at most so many follow the first, and the bytes after them
unfoldable pub read_groups : ℕ → List ℕ → ℕ × List ℕ
read_groups more [] = (0, [])
read_groups zero (b ∷ bs) = (b, bs)
read_groups (suc more) (b ∷ bs) = cond (nat_lt b 128) (b, bs) ((b - 128) + 128 * (read_groups more bs).0, (read_groups more bs).1)

-- the groups of a number end within the bytes
unfoldable pub has_groups : ℕ → List ℕ → Bool
has_groups more [] = false
has_groups zero (b ∷ bs) = true
has_groups (suc more) (b ∷ bs) = cond (nat_lt b 128) true (has_groups more bs)

-- the numbers behind a last one, whose block has so many more; no more are read than the first argument says
abbrev pub unpacked_after : ℕ → ℕ → ℕ → List ℕ → List ℕ
unpacked_after zero last left bs = []
unpacked_after (suc most) last zero [] = []
unpacked_after (suc most) last zero (count ∷ bs) =
    let x = from_be_bytes w64 (take 8 bs) in
    x ∷ unpacked_after most x count (drop 8 bs)
unpacked_after (suc most) last (suc left) bs =
    let d = read_groups 9 bs in
    (last + d.0) ∷ unpacked_after most (last + d.0) left d.1

-- numbers from their bytes; each number takes at least one byte
abbrev pub unpacked : List ℕ → List ℕ
unpacked bs = unpacked_after (length bs) 0 0 bs

-- unpacking what was packed gives the numbers back
abbrev pub IsReadBack : Type 0
IsReadBack = (xs : List ℕ) → Ascends nat_cmp xs → AllByRecursion (λ x. x < 2 ^ 64) xs → unpacked (packed xs) ≡ xs
