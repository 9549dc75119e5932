-- A pattern that is built is found in a text where what the grammar reads is.
use Rattle.std.proofs.Common.{◌≡◌, ℕ, zero, suc, ◌+◌, ◌/◌, ◌<◌, Bool, true, false, cond, List, [], ◌∷◌, ◌++◌, refl, ap, sym, ◌∙◌, subst, arith, All, ⊎_elim, ltb-true, nat_lt}
use Rattle.std.specs.Prelude.{◌&&◌, Option, Some, None, is_some, IsSomeAnd, chars}
use Rattle.std.specs.List.{AllByRecursion}
use Rattle.std.specs.Str.{IsUtf8, is_utf8}
use Rattle.std.proofs.lemmas.Bool.{and_parts}
use Rattle.std.proofs.lemmas.Str.{is_utf8-from_IsUtf8, IsUtf8-from_is_utf8}
use lib.Utf8.{scalar, scalars, next, encode, encodes, scalar_cases}
use Rattle.regex_syntax.specs.Brackets.{Nested}
use Rattle.regex_syntax.specs.Grammar.{Names, read}
use Rattle.regex_syntax.specs.Verdict.{Reads}
use Rattle.regex_syntax.proofs.CapturesLemmas.{spans, find_str_alike}
use Rattle.regex_syntax.proofs.Written.{is_some-option_map}
use Rattle.regex.specs.Patterns.{Re, SameCaptures, find_str, Config}
use Rattle.regex.specs.Strings.{regex_pattern, regex_source, regex_config, IsReadFromSource}
use Rattle.regex.specs.declared.string.regex.Regex.{Regex}
use Rattle.dg_check.specs.Patterns.{config_of, IsBuiltFrom}
use Rattle.dg_funcs.specs.Truth.{found_in, finds}
use Rattle.dg_funcs.specs.Meaning.{found_by_read, found_by}

-- in UTF-8 it is enough that a pattern is found
pub found_in_text : (pattern : Re) (t : List ℕ) → IsUtf8 t → is_some (find_str pattern t 0) ≡ found_in pattern t
found_in_text pattern t text = let back = sym (is_utf8-from_IsUtf8 t text) in λ i. back i && is_some (find_str pattern t 0)

-- ---- UTF-8 is of bytes

abbrev AreBytes : List ℕ → Type 0
AreBytes = AllByRecursion (λ b. b < 256)

small_code : (c : ℕ) → scalar c ≡ true → c < 1114112
small_code c e = ⊎_elim (λ (h : c < 55296). omega arith) (λ h. h.1) (scalar_cases c e)

bytes_of_char : (c : ℕ) → c < 1114112 → AreBytes (encode c)
unfolding encode
bytes_of_char c small = by (nat_lt c 128) (nat_lt c 2048) (nat_lt c 65536) refl refl refl
  where
    by : (u v w : Bool) → nat_lt c 128 ≡ u → nat_lt c 2048 ≡ v → nat_lt c 65536 ≡ w → AreBytes (cond u (c ∷ []) (cond v ((192 + c / 64) ∷ next c ∷ []) (cond w ((224 + c / 4096) ∷ next (c / 64) ∷ next c ∷ []) ((240 + c / 262144) ∷ next (c / 4096) ∷ next (c / 64) ∷ next c ∷ []))))
    by true v w e f g = let h : c < 128 = ltb-true c 128 e in (omega (arith, h), tt)
    by false true w e f g = let h : c < 2048 = ltb-true c 2048 f in (omega (arith, h), (omega arith, tt))
    by false false true e f g = let h : c < 65536 = ltb-true c 65536 g in (omega (arith, h), (omega arith, (omega arith, tt)))
    by false false false e f g = (omega (arith, small), (omega arith, (omega arith, (omega arith, tt))))

bytes_joined : (xs ys : List ℕ) → AreBytes xs → AreBytes ys → AreBytes (xs ++ ys)
bytes_joined [] ys a b = b
bytes_joined (x ∷ xs) ys a b = (a.0, bytes_joined xs ys a.1 b)

bytes_of_chars : (cs : List ℕ) → scalars cs ≡ true → AreBytes (encodes cs)
bytes_of_chars [] e = tt
bytes_of_chars (c ∷ cs) e =
    let p = and_parts _ _ e in
    bytes_joined (encode c) (encodes cs) (bytes_of_char c (small_code c p.0)) (bytes_of_chars cs p.1)

each_byte : (t : List ℕ) → AreBytes t → All (λ b. b < 256) t
each_byte [] a k d h = absurd (omega (arith, h))
each_byte (b ∷ t) a zero d h = a.0
each_byte (b ∷ t) a (suc k) d h = each_byte t a.1 k d (omega (arith, h))

bytes_of_text : (t : List ℕ) → IsUtf8 t → All (λ b. b < 256) t
bytes_of_text t text = each_byte t (subst AreBytes text.1.1 (bytes_of_chars text.0 text.1.0))

-- ---- the same is found

found_alike : (a b : Re) → SameCaptures a b → (t : List ℕ) → found_in a t ≡ found_in b t
found_alike a b same t = by (is_utf8 t) refl
  where
    by : (v : Bool) → is_utf8 t ≡ v → (v && is_some (find_str a t 0)) ≡ (v && is_some (find_str b t 0))
    by false e = refl
    by true e =
        sym (is_some-option_map spans (find_str a t 0))
        ∙ (ap is_some (find_str_alike a b same t (bytes_of_text t (IsUtf8-from_is_utf8 t e)) 0)
        ∙ is_some-option_map spans (find_str b t 0))

read_found : (o : Option (Nested Re × Names)) (a : Re) (P : Nested Re × Names → Type 0) → ((x : Nested Re × Names) → P x → SameCaptures a x.0.value) → IsSomeAnd o P → (t : List ℕ) → found_by_read o t ≡ found_in a t
read_found None a P same h t = absurd h
read_found (Some x) a P same h t = sym (found_alike a x.0.value (same x h) t)

read_from_source : (config : Config) (text : List ℕ) (regex : Regex) → regex_source regex ≡ text → regex_config regex ≡ config → IsReadFromSource regex → (t : List ℕ) → found_by_read (read config (chars text)) t ≡ finds regex t
unfolding Reads
read_from_source config text regex e f h = read_found (read config (chars text)) (regex_pattern regex) _ (λ x p. p.1) (rw (e, f) at h)

pub built_found : (pattern : List ℕ) (fold : Bool) (regex : Regex) → IsBuiltFrom pattern fold regex → (t : List ℕ) → found_by pattern fold t ≡ finds regex t
built_found pattern fold regex built = read_from_source (record (config_of fold) { utf8 = true }) pattern regex built.0 built.1 built.2
