-- Hexadecimal digits and their value.
use Rattle.std.proofs.Common.{◌≡◌, ℕ, zero, suc, ◌+◌, ◌*◌, ◌^◌, ◌<◌, ◌≤◌, true, List, [], ◌∷◌, length, get_or, take, arith}
use Rattle.std.specs.Prelude.{nat_lt}
use Rattle.std.specs.List.{list_all}
use Rattle.std.specs.Char.{digit_value}
use Rattle.std.specs.Str.Parse.{AllDigits, digits_value}
use Rattle.std.proofs.lemmas.Bool.{and_parts}
use Rattle.std.proofs.lemmas.Bool.Decides.{nat_tests}
use Rattle.std.proofs.lemmas.Int.Digits.{digits_value-lt, digits_value_more}
use Rattle.std.proofs.lemmas.Str.Parse.{digits_value-take-le}
use Rattle.std.proofs.Math.Nat.{pow-le-pow_right}

-- each is a digit
pub digit_below : (ds : List ℕ) (i : ℕ) → AllDigits 16 ds → i < length ds → digit_value (get_or ds i 0) < 16
digit_below [] i h lt = absurd (omega arith)
digit_below (d ∷ ds) zero h lt = h.0
digit_below (d ∷ ds) (suc i) h lt = digit_below ds i h.1 (omega arith)

-- what is tested byte by byte
pub all_hex : (ds : List ℕ) → list_all (λ d. nat_lt (digit_value d) 16) ds ≡ true → AllDigits 16 ds
all_hex [] h = tt
all_hex (d ∷ ds) h = let parts = and_parts (nat_lt (digit_value d) 16) (list_all (λ b. nat_lt (digit_value b) 16) ds) h in (below d parts.0, all_hex ds parts.1)
  where
    below : (d : ℕ) → nat_lt (digit_value d) 16 ≡ true → digit_value d < 16
    below d h = grind (arith, nat_tests)

powers : (ds : List ℕ) → length ds ≤ 16 → 16 ^ length ds ≤ 16 ^ 16
powers ds le = pow-le-pow_right {n = 16} (omega arith) le

-- sixteen digits fit
pub hex_small : (ds : List ℕ) → AllDigits 16 ds → length ds ≤ 16 → digits_value 16 ds < 2 ^ 64
hex_small ds h le =
    let a : digits_value 16 ds < 16 ^ length ds = digits_value-lt 16 ds h in
    let b : 16 ^ length ds ≤ 16 ^ 16 = powers ds le in
    omega arith

-- one more digit
pub hex_more : (ds : List ℕ) (i v : ℕ) → digits_value 16 ds < 2 ^ 64 → v ≡ digits_value 16 (take i ds) → i < length ds → (v * 16 + digit_value (get_or ds i 0) ≡ digits_value 16 (take (i + 1) ds)) × (v * 16 + digit_value (get_or ds i 0) < 2 ^ 64)
hex_more ds i v small is lt =
    let more : digits_value 16 (take (i + 1) ds) ≡ digits_value 16 (take i ds) * 16 + digit_value (get_or ds i 0) = digits_value_more 16 ds i lt in
    let le : digits_value 16 (take (i + 1) ds) ≤ digits_value 16 ds = digits_value-take-le 16 ds (i + 1) (omega arith) in
    (omega arith, omega arith)
