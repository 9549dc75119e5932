-- A character that stands for itself between quotes.
use Rattle.std.proofs.Common.{◌≡◌, ℕ, suc, ◌<◌, ◌≤◌, Bool, true, false, List, [], ◌∷◌, ◌++◌, length, get_or, refl, sym, ap, ◌∙◌, arith}
use Rattle.std.specs.Prelude.{flat_map, nat_lt}
use Rattle.std.specs.Char.{encode_utf8}
use Rattle.std.proofs.lemmas.Str.{encode_ascii, inside_one}
use Rattle.std.proofs.lemmas.List.{append-nil}
use Rattle.std.proofs.lemmas.Bool.Decides.{nat_tests}
use Rattle.dg_text.specs.Quoting.{quoted_byte}

-- a byte that isn't one of four stands for itself
plain_byte : (b : ℕ) → (b ≡ 34 → ⊥) → (b ≡ 92 → ⊥) → (b ≡ 10 → ⊥) → (b ≡ 13 → ⊥) → quoted_byte b ≡ b ∷ []
plain_byte b q s n r = grind (arith, nat_tests)

plain_bytes : (bs : List ℕ) → ((k : ℕ) → k < length bs → 128 ≤ get_or bs k 0) → flat_map quoted_byte bs ≡ bs
plain_bytes [] h = refl
plain_bytes (b ∷ bs) h =
    let high : 128 ≤ b = h 0 (omega arith) in
    let one : quoted_byte b ≡ b ∷ [] = plain_byte b (λ e. omega arith) (λ e. omega arith) (λ e. omega arith) (λ e. omega arith) in
    rw one (ap (λ (l : List ℕ). b ∷ l) (plain_bytes bs (λ k lt. h (suc k) (omega arith))))

-- the bytes of a character beyond ASCII
high_bytes : (c : ℕ) → 128 ≤ c → (k : ℕ) → k < length (encode_utf8 c) → 128 ≤ get_or (encode_utf8 c) k 0
high_bytes c le k lt = by (nat_lt (get_or (encode_utf8 c) k 0) 128) refl
  where
    by : (v : Bool) → nat_lt (get_or (encode_utf8 c) k 0) 128 ≡ v → 128 ≤ get_or (encode_utf8 c) k 0
    by true e =
        let low : get_or (encode_utf8 c) k 0 < 128 = grind (arith, nat_tests) in
        let same : c ≡ get_or (encode_utf8 c) k 0 = inside_one c [] (encode_utf8 c) k (sym (append-nil (encode_utf8 c))) lt low in
        absurd (omega (arith, le, same, low))
    by false e = grind (arith, nat_tests)

pub plain_char : (c : ℕ) → (c ≡ 34 → ⊥) → (c ≡ 92 → ⊥) → (c ≡ 10 → ⊥) → (c ≡ 13 → ⊥) → flat_map quoted_byte (encode_utf8 c) ≡ encode_utf8 c
plain_char c q s n r = by (nat_lt c 128) refl
  where
    by : (v : Bool) → nat_lt c 128 ≡ v → flat_map quoted_byte (encode_utf8 c) ≡ encode_utf8 c
    by true e =
        let low : c < 128 = grind (arith, nat_tests) in
        let one : encode_utf8 c ≡ c ∷ [] = encode_ascii c low in
        let alone : quoted_byte c ≡ c ∷ [] = plain_byte c q s n r in
        ap (flat_map quoted_byte) one ∙ ap (λ (l : List ℕ). l ++ []) alone ∙ sym one
    by false e = plain_bytes (encode_utf8 c) (high_bytes c (grind (arith, nat_tests)))

-- the four that stand behind a \
pub quote_char : (c : ℕ) → c ≡ 34 → flat_map quoted_byte (encode_utf8 c) ≡ 92 ∷ 34 ∷ []
unfolding encode_utf8
quote_char c e = ap (λ (n : ℕ). flat_map quoted_byte (encode_utf8 n)) e

pub slash_char : (c : ℕ) → c ≡ 92 → flat_map quoted_byte (encode_utf8 c) ≡ 92 ∷ 92 ∷ []
unfolding encode_utf8
slash_char c e = ap (λ (n : ℕ). flat_map quoted_byte (encode_utf8 n)) e

pub feed_char : (c : ℕ) → c ≡ 10 → flat_map quoted_byte (encode_utf8 c) ≡ 92 ∷ 110 ∷ []
unfolding encode_utf8
feed_char c e = ap (λ (n : ℕ). flat_map quoted_byte (encode_utf8 n)) e

pub return_char : (c : ℕ) → c ≡ 13 → flat_map quoted_byte (encode_utf8 c) ≡ 92 ∷ 114 ∷ []
unfolding encode_utf8
return_char c e = ap (λ (n : ℕ). flat_map quoted_byte (encode_utf8 n)) e
