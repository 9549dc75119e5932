-- What escapes say, at a place of a text.
use Rattle.std.proofs.Common.{◌≡◌, ℕ, zero, suc, ◌+◌, ◌-◌, ◌≤◌, ◌<◌, Bool, true, false, not, List, [], ◌∷◌, ◌++◌, length, take, drop, get_or, ◌==◌, slice_range, length-drop, refl, sym, ap, subst, ◌∙◌, arith}
use Rattle.std.specs.List.{prefix_len}
use Rattle.std.specs.Str.{IsUtf8, IsCharBoundary}
use Rattle.std.proofs.lemmas.List.{drop_more, drop_all, drop-drop, get_or-drop, append_assoc, append-nil}
use Rattle.std.proofs.lemmas.List.Sums.{prefix_len_stops}
use Rattle.std.proofs.lemmas.Str.{IsCharBoundary-after_ascii}
use Rattle.std.proofs.lemmas.Grind.{common_steps}
use Rattle.dg_text.specs.Escapes.{HasLowEnd, says, unescaped, escape_len, escape_bytes}

-- the bytes of an escape that was read are passed
pub passed : (k : ℕ) (text : List ℕ) → says k text ≡ unescaped (drop k text)
unfolding says
passed zero text = refl
passed (suc k) [] = refl
passed (suc k) (b ∷ rest) = passed k rest

escape_first : (b : ℕ) (rest : List ℕ) → (b == 92) ≡ true → unescaped (b ∷ rest) ≡ escape_bytes rest ++ says (escape_len rest) rest
unfolding says
escape_first b rest h = rw h refl

is_backslash : (b : ℕ) → b ≡ 92 → (b == 92) ≡ true
is_backslash b h = grind (arith, common_steps)

other_byte : (b : ℕ) → ((b ≡ 92) → ⊥) → (b == 92) ≡ false
other_byte b h = grind (arith, common_steps)

-- an escape
at_escape : (bytes : List ℕ) (at : ℕ) → at < length bytes → (get_or bytes at 0 == 92) ≡ true
    → unescaped (drop at bytes) ≡ escape_bytes (drop (at + 1) bytes) ++ unescaped (drop (at + 1 + escape_len (drop (at + 1) bytes)) bytes)
at_escape bytes at lt h =
    let rest : List ℕ = drop (at + 1) bytes in
    let e : says (escape_len rest) rest ≡ unescaped (drop (at + 1 + escape_len rest) bytes) = passed (escape_len rest) rest ∙ ap unescaped (drop-drop (escape_len rest) (at + 1) bytes) in
    ap unescaped (drop_more bytes at 0 lt) ∙ escape_first (get_or bytes at 0) rest h ∙ ap (λ more. escape_bytes rest ++ more) e

abbrev pub is_plain : ℕ → Bool
is_plain b = not (b == 92)

plain_step : (b n : ℕ) (rest : List ℕ) → (b == 92) ≡ false → unescaped rest ≡ take n rest ++ unescaped (drop n rest)
    → unescaped (b ∷ rest) ≡ take (suc n) (b ∷ rest) ++ unescaped (drop (suc n) (b ∷ rest))
unfolding says
plain_step b n rest h more = rw h (ap (λ said. b ∷ said) more)

one_plain : (b : ℕ) (rest : List ℕ) → (b == 92) ≡ false → prefix_len is_plain (b ∷ rest) ≡ suc (prefix_len is_plain rest)
one_plain b rest h =
    let e : prefix_len is_plain (b ∷ rest) ≡ 1 + prefix_len is_plain rest = rw h refl in
    omega (arith, e)

none_plain : (b : ℕ) (rest : List ℕ) → (b == 92) ≡ true → prefix_len is_plain (b ∷ rest) ≡ 0
none_plain b rest h = rw h refl

plain_first : (b : ℕ) (rest : List ℕ) → (t : Bool) → (b == 92) ≡ t
    → unescaped rest ≡ take (prefix_len is_plain rest) rest ++ unescaped (drop (prefix_len is_plain rest) rest)
    → unescaped (b ∷ rest) ≡ take (prefix_len is_plain (b ∷ rest)) (b ∷ rest) ++ unescaped (drop (prefix_len is_plain (b ∷ rest)) (b ∷ rest))
unfolding says
plain_first b rest true h more =
    let P : ℕ → Type 0 = λ n. unescaped (b ∷ rest) ≡ take n (b ∷ rest) ++ unescaped (drop n (b ∷ rest)) in
    subst P (sym (none_plain b rest h)) refl
plain_first b rest false h more =
    let P : ℕ → Type 0 = λ n. unescaped (b ∷ rest) ≡ take n (b ∷ rest) ++ unescaped (drop n (b ∷ rest)) in
    subst P (sym (one_plain b rest h)) (plain_step b (prefix_len is_plain rest) rest h more)

-- characters up to the next escape say themselves
pub plain : (text : List ℕ) → unescaped text ≡ take (prefix_len is_plain text) text ++ unescaped (drop (prefix_len is_plain text) text)
unfolding says
plain [] = refl
plain (b ∷ rest) = plain_first b rest (b == 92) refl (plain rest)

at_plain : (bytes : List ℕ) (at : ℕ) → unescaped (drop at bytes) ≡ take (prefix_len is_plain (drop at bytes)) (drop at bytes) ++ unescaped (drop (at + prefix_len is_plain (drop at bytes)) bytes)
at_plain bytes at = plain (drop at bytes) ∙ ap (λ rest. take (prefix_len is_plain (drop at bytes)) (drop at bytes) ++ unescaped rest) (drop-drop (prefix_len is_plain (drop at bytes)) at bytes)

-- an escape adds the character that it names
pub escape_says : (old new bytes : List ℕ) (at n : ℕ) → at < length bytes → get_or bytes at 0 ≡ 92 → new ≡ old ++ escape_bytes (drop (at + 1) bytes) → n ≡ escape_len (drop (at + 1) bytes)
    → new ++ unescaped (drop (at + 1 + n) bytes) ≡ old ++ unescaped (drop at bytes)
escape_says old new bytes at n lt h added len =
    let rest : List ℕ = drop (at + 1) bytes in
    ap (λ x. x ++ unescaped (drop (at + 1 + n) bytes)) added
    ∙ append_assoc old (escape_bytes rest) (unescaped (drop (at + 1 + n) bytes))
    ∙ ap (λ k. old ++ (escape_bytes rest ++ unescaped (drop (at + 1 + k) bytes))) len
    ∙ ap (λ x. old ++ x) (sym (at_escape bytes at lt (is_backslash (get_or bytes at 0) h)))

-- characters up to the next escape are added
pub plain_says : (old new bytes : List ℕ) (at n : ℕ) → new ≡ old ++ slice_range bytes at (at + n) → n ≡ prefix_len is_plain (drop at bytes)
    → new ++ unescaped (drop (at + n) bytes) ≡ old ++ unescaped (drop at bytes)
plain_says old new bytes at n added len =
    let e : (at + n) - at ≡ n = omega arith in
    ap (λ x. x ++ unescaped (drop (at + n) bytes)) added
    ∙ append_assoc old (take ((at + n) - at) (drop at bytes)) (unescaped (drop (at + n) bytes))
    ∙ ap (λ k. old ++ (take k (drop at bytes) ++ unescaped (drop (at + n) bytes))) e
    ∙ ap (λ k. old ++ (take k (drop at bytes) ++ unescaped (drop (at + k) bytes))) len
    ∙ ap (λ x. old ++ x) (sym (at_plain bytes at))

is_low : (b : ℕ) → is_plain b ≡ false → b < 128
is_low b h = grind (arith, common_steps)

-- a text may be cut where an escape begins, or at its end
pub plain_ends : (bytes : List ℕ) (at n : ℕ) → at ≤ length bytes → n ≡ prefix_len is_plain (drop at bytes) → n ≤ length bytes - at → IsCharBoundary bytes (at + n)
plain_ends bytes at n le len bound = (
  omega arith,
  λ within high.
      let less : prefix_len is_plain (drop at bytes) < length (drop at bytes) = omega (arith, length-drop at bytes, len) in
      let stop : is_plain (get_or (drop at bytes) (prefix_len is_plain (drop at bytes)) 0) ≡ false = prefix_len_stops is_plain (drop at bytes) 0 less in
      let P : ℕ → Type 0 = λ k. is_plain (get_or (drop at bytes) k 0) ≡ false in
      let Q : ℕ → Type 0 = λ b. is_plain b ≡ false in
      let low : get_or bytes (at + n) 0 < 128 = is_low (get_or bytes (at + n) 0) (subst Q (get_or-drop at bytes n 0) (subst P (sym len) stop)) in
      absurd (omega (arith, low, high)),
)

low_before : (bytes : List ℕ) (at n : ℕ) → get_or bytes at 0 ≡ 92 → HasLowEnd bytes (at + 1) n → get_or bytes ((at + 1 + n) - 1) 0 < 128
low_before bytes at zero h low =
    let e : at ≡ (at + 1 + zero) - 1 = omega arith in
    let P : ℕ → Type 0 = λ i. get_or bytes i 0 < 128 in
    subst P e (omega (arith, h))
low_before bytes at (suc n) h low = low (omega arith)

-- a text may be cut after an escape
pub escape_ends : (bytes : List ℕ) (at n : ℕ) → IsUtf8 bytes → at < length bytes → get_or bytes at 0 ≡ 92 → n ≤ length bytes - (at + 1) → HasLowEnd bytes (at + 1) n → IsCharBoundary bytes (at + 1 + n)
escape_ends bytes at n utf8 lt h bound low =
    let e : ((at + 1 + n) - 1) + 1 ≡ at + 1 + n = omega arith in
    let P : ℕ → Type 0 = λ i. IsCharBoundary bytes i in
    subst P e (IsCharBoundary-after_ascii bytes ((at + 1 + n) - 1) utf8 (omega arith) (low_before bytes at n h low))

some_plain : (b : ℕ) (rest : List ℕ) → (b == 92) ≡ false → 0 < prefix_len is_plain (b ∷ rest)
some_plain b rest h = omega (arith, one_plain b rest h)

-- a character that is no \ is one at least
pub plain_some : (bytes : List ℕ) (at n : ℕ) → at < length bytes → ((get_or bytes at 0 ≡ 92) → ⊥) → n ≡ prefix_len is_plain (drop at bytes) → at < at + n
plain_some bytes at n lt h len =
    let P : List ℕ → Type 0 = λ text. 0 < prefix_len is_plain text in
    let some : 0 < prefix_len is_plain (drop at bytes) = subst P (sym (drop_more bytes at 0 lt)) (some_plain (get_or bytes at 0) (drop (at + 1) bytes) (other_byte (get_or bytes at 0) h)) in
    omega (arith, some, len)

-- all was read
pub all_said : (out text : List ℕ) (at : ℕ) → length text ≤ at → out ++ unescaped (drop at text) ≡ unescaped text → out ≡ unescaped text
unfolding says
all_said out text at le so_far =
    let e : drop at text ≡ [] = drop_all at text le in
    sym (append-nil out) ∙ ap (λ rest. out ++ unescaped rest) (sym e) ∙ so_far

-- nothing was read
pub none_said : (out text : List ℕ) → out ≡ [] → out ++ unescaped text ≡ unescaped text
none_said out text e = ap (λ x. x ++ unescaped text) e
