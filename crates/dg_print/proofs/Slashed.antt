-- Patterns with a backslash before each slash, character by character.
use Rattle.std.proofs.Common.{◌≡◌, ℕ, suc, ◌<◌, ◌≤◌, Bool, true, false, List, [], ◌∷◌, ◌++◌, length, get_or, refl, sym, ap, ◌∙◌, arith}
use Rattle.std.specs.Prelude.{nat_lt, nat_eq, if◌then◌else◌}
use Rattle.std.specs.Char.{encode_utf8}
use Rattle.std.proofs.lemmas.Str.{encode_ascii, inside_one}
use Rattle.std.proofs.lemmas.List.{append-nil}
use Rattle.std.proofs.lemmas.Bool.Decides.{nat_tests}
use Rattle.dg_text.specs.Spelling.{slashed}

-- a byte that is no slash
plain_byte : (b : ℕ) (rest : List ℕ) → (b ≡ 47 → ⊥) → slashed (b ∷ rest) ≡ b ∷ slashed rest
plain_byte b rest n = grind (arith, nat_tests)

-- a text before another
slashed_both : (xs ys : List ℕ) → slashed (xs ++ ys) ≡ slashed xs ++ slashed ys
slashed_both [] ys = refl
slashed_both (b ∷ xs) ys =
    ap (λ (l : List ℕ). if nat_eq b 47 then 92 ∷ 47 ∷ l else b ∷ l) (slashed_both xs ys) ∙ by (nat_eq b 47)
  where
    by : (v : Bool) → (if v then 92 ∷ 47 ∷ (slashed xs ++ slashed ys) else b ∷ (slashed xs ++ slashed ys)) ≡ (if v then 92 ∷ 47 ∷ slashed xs else b ∷ slashed xs) ++ slashed ys
    by true = refl
    by false = refl

plain_bytes : (bs : List ℕ) → ((k : ℕ) → k < length bs → 128 ≤ get_or bs k 0) → slashed bs ≡ bs
plain_bytes [] h = refl
plain_bytes (b ∷ bs) h =
    let high : 128 ≤ b = h 0 (omega arith) in
    plain_byte b bs (λ e. omega arith) ∙ ap (λ (l : List ℕ). b ∷ l) (plain_bytes bs (λ k lt. h (suc k) (omega arith)))

-- the bytes of a character beyond ASCII
high_bytes : (c : ℕ) → 128 ≤ c → (k : ℕ) → k < length (encode_utf8 c) → 128 ≤ get_or (encode_utf8 c) k 0
high_bytes c le k lt = by (nat_lt (get_or (encode_utf8 c) k 0) 128) refl
  where
    by : (v : Bool) → nat_lt (get_or (encode_utf8 c) k 0) 128 ≡ v → 128 ≤ get_or (encode_utf8 c) k 0
    by true e =
        let low : get_or (encode_utf8 c) k 0 < 128 = grind (arith, nat_tests) in
        let same : c ≡ get_or (encode_utf8 c) k 0 = inside_one c [] (encode_utf8 c) k (sym (append-nil (encode_utf8 c))) lt low in
        absurd (omega (arith, le, same, low))
    by false e = grind (arith, nat_tests)

-- a character that is no slash
pub plain_char : (c : ℕ) → (c ≡ 47 → ⊥) → slashed (encode_utf8 c) ≡ encode_utf8 c
plain_char c n = by (nat_lt c 128) refl
  where
    by : (v : Bool) → nat_lt c 128 ≡ v → slashed (encode_utf8 c) ≡ encode_utf8 c
    by true e =
        let low : c < 128 = grind (arith, nat_tests) in
        let one : encode_utf8 c ≡ c ∷ [] = encode_ascii c low in
        ap slashed one ∙ plain_byte c [] n ∙ sym one
    by false e = plain_bytes (encode_utf8 c) (high_bytes c (grind (arith, nat_tests)))

-- a slash
pub slash_char : (c : ℕ) → c ≡ 47 → slashed (encode_utf8 c) ≡ 92 ∷ 47 ∷ []
unfolding encode_utf8
slash_char c e = ap (λ (n : ℕ). slashed (encode_utf8 n)) e

-- a character, and what follows it
pub one_more : (c : ℕ) (rest : List ℕ) → slashed (encode_utf8 c ++ rest) ≡ slashed (encode_utf8 c) ++ slashed rest
one_more c rest = slashed_both (encode_utf8 c) rest
