-- Packing numbers and reading them back.
use Rattle.std.proofs.Common.{◌≡◌, ℕ, zero, suc, ◌+◌, ◌-◌, ◌^◌, ◌<◌, ◌≤◌, List, [], ◌∷◌, length, refl, ap, arith, subst}
use Rattle.std.specs.Prelude.{min}
use Rattle.std.specs.Int.{w64, to_be_bytes}
use Rattle.std.specs.Ordering.{nat_cmp}
use Rattle.std.specs.List.{AllByRecursion}
use Rattle.std.proofs.lemmas.List.{length-append}
use Rattle.std.proofs.lemmas.Nat.{from_be_bytes-to_be_bytes_8}
use Rattle.dg_values.specs.Ascending.{Ascends}
use Rattle.dg_base.specs.Packed.{groups, packed_after, packed}
use Rattle.dg_base.specs.Unpacked.{unpacked_after, unpacked}
use Rattle.dg_base.specs.Cursors.{Follow}
use Rattle.dg_base.proofs.Numbers.{less, follow}
use Rattle.dg_base.proofs.Groups.{read-groups, some_groups}

-- numbers are read back, as many as are asked for at least
unpacked-packed_after : (most last room : ℕ) (xs : List ℕ) → length xs ≤ most → Follow last room xs → AllByRecursion (λ x. x < 2 ^ 64) xs → unpacked_after most last (min room (length xs)) (packed_after last room xs) ≡ xs
unpacked-packed_after zero last room [] h f a = refl
unpacked-packed_after zero last room (x ∷ xs) h f a = absurd (omega arith)
unpacked-packed_after (suc most) last room [] h f a = let none : min room 0 ≡ 0 = omega arith in rw none refl
unpacked-packed_after (suc most) last zero (x ∷ xs) h f a =
    let none : min 0 (suc (length xs)) ≡ 0 = omega arith in
    rw none
    (rw (from_be_bytes-to_be_bytes_8 x a.0) (ap (λ ys. x ∷ ys) (unpacked-packed_after most x 127 xs (omega arith) f a.1)))
unpacked-packed_after (suc most) last (suc room) (x ∷ xs) h f a =
    let some : min (suc room) (suc (length xs)) ≡ suc (min room (length xs)) = omega arith in
    let up : last < x = less last x f.0.0 in
    let back : last + (x - last) ≡ x = omega arith in
    rw some
    (rw (read-groups 9 (x - last) (packed_after x room xs), back)
    (ap (λ ys. x ∷ ys) (unpacked-packed_after most x room xs (omega arith) (follow room x xs f.1) a.1)))

-- each number takes at least one byte
pub length-packed_after : (last room : ℕ) (xs : List ℕ) → length xs ≤ length (packed_after last room xs)
length-packed_after last room [] = omega arith
length-packed_after last zero (x ∷ xs) = omega (arith, length-packed_after x 127 xs, length-append (to_be_bytes w64 x) (packed_after x 127 xs))
length-packed_after last (suc room) (x ∷ xs) =
    omega (arith, length-packed_after x room xs, length-append (groups 9 (x - last)) (packed_after x room xs), some_groups 9 (x - last))

pub unpacked-packed : (xs : List ℕ) → Ascends nat_cmp xs → AllByRecursion (λ x. x < 2 ^ 64) xs → unpacked (packed xs) ≡ xs
unpacked-packed xs f a =
    let none : min 0 (length xs) ≡ 0 = omega arith in
    subst (λ (n : ℕ). unpacked_after (length (packed xs)) 0 n (packed xs) ≡ xs) none (unpacked-packed_after (length (packed xs)) 0 0 xs (length-packed_after 0 0 xs) f a)

pub example : packed (1 ∷ 2 ∷ 130 ∷ []) ≡ 2 ∷ 0 ∷ 0 ∷ 0 ∷ 0 ∷ 0 ∷ 0 ∷ 0 ∷ 1 ∷ 1 ∷ 128 ∷ 1 ∷ []
unfolding groups
example = refl
