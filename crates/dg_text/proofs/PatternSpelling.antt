-- Patterns as they are written, and that they read back.
use Rattle.std.proofs.Common.{◌≡◌, ℕ, ◌-◌, Bool, true, false, cond, ◌||◌, ◌==◌, ◌⊎◌, inl, inr, List, [], ◌∷◌, ◌++◌, length, take, drop, append_assoc, refl, sym, ap, subst, ◌∙◌, arith}
use Rattle.std.specs.Prelude.{Option, Some, None}
use Rattle.std.specs.List.{concat, AllByRecursion}
use Rattle.std.specs.Str.{bytes_eq}
use Rattle.std.proofs.Math.Seq.{take-append_seam, drop-append_seam}
use Rattle.std.proofs.lemmas.Bool.{eqb-true, cases_Bool, not-true, or_parts, and_right}
use Rattle.dg_text.specs.declared.token.TokenKind.TheVariants as kinds
use Rattle.dg_text.specs.Language.{IsRegex, IsRegexPiece, is_regex_byte}
use Rattle.dg_text.specs.Patterns.{begins_with, unslashed, regex_meant}
use Rattle.dg_text.specs.Said.{before}
use Rattle.dg_text.specs.Spelling.{slashed, flag_text, regex_word}
use Rattle.dg_text.specs.SpellingLaws.{PatternsReadBack}
use Rattle.dg_text.proofs.Fronts.{long_by_one}
use Rattle.dg_text.proofs.NodeSpelling.{said_text, said_kind, reads_by}

-- ---- slashes

plain_byte : (b : ℕ) → is_regex_byte b ≡ true → ((b == 47) ≡ false) × ((b == 92) ≡ false)
plain_byte b h =
    let parts = or_parts ((b == 47) || (b == 92)) (b == 10) (not-true ((b == 47) || (b == 92) || (b == 10)) h) in
    or_parts (b == 47) (b == 92) parts.0

-- no piece begins with a slash
no_slash : (pieces : List (List ℕ)) → AllByRecursion IsRegexPiece pieces → begins_with 47 (concat pieces) ≡ false
no_slash [] a = refl
no_slash ([] ∷ pieces) a = absurd a.0
no_slash ((b ∷ []) ∷ pieces) a = (plain_byte b a.0).0
no_slash ((b ∷ c ∷ []) ∷ pieces) a = subst (λ (x : ℕ). (x == 47) ≡ false) (sym a.0) refl
no_slash ((b ∷ c ∷ d ∷ piece) ∷ pieces) a = absurd a.0

plain_again : (b : ℕ) (rest : List ℕ) → is_regex_byte b ≡ true → slashed (unslashed rest) ≡ rest → slashed (unslashed (b ∷ rest)) ≡ b ∷ rest
unfolding unslashed
plain_again b rest h e =
    let plain = plain_byte b h in
    rw (plain.1, plain.0) (ap (λ (l : List ℕ). b ∷ l) e)

taken_again : (c : ℕ) (rest : List ℕ) → begins_with 47 rest ≡ false → slashed (unslashed rest) ≡ rest → slashed (unslashed (92 ∷ c ∷ rest)) ≡ 92 ∷ c ∷ rest
unfolding unslashed
taken_again c rest starts e = by (cases_Bool (c == 47))
  where
    by : ((c == 47) ≡ true) ⊎ ((c == 47) ≡ false) → slashed (unslashed (92 ∷ c ∷ rest)) ≡ 92 ∷ c ∷ rest
    by (inl slash) = subst (λ (x : ℕ). slashed (unslashed (92 ∷ x ∷ rest)) ≡ 92 ∷ x ∷ rest) (sym (eqb-true c 47 slash)) (ap (λ (l : List ℕ). 92 ∷ 47 ∷ l) e)
    by (inr other) = rw (other, and_right (c == 92) (begins_with 47 rest) starts, other) (ap (λ (l : List ℕ). 92 ∷ c ∷ l) e)

none_again : slashed (unslashed []) ≡ []
unfolding unslashed
none_again = refl

-- between slashes each slash stands behind a backslash, so it gets it back
slashed_again : (pieces : List (List ℕ)) → AllByRecursion IsRegexPiece pieces → slashed (unslashed (concat pieces)) ≡ concat pieces
slashed_again [] a = none_again
slashed_again ([] ∷ pieces) a = absurd a.0
slashed_again ((b ∷ []) ∷ pieces) a = plain_again b (concat pieces) a.0 (slashed_again pieces a.1)
slashed_again ((b ∷ c ∷ []) ∷ pieces) a =
    subst (λ (x : ℕ). slashed (unslashed (x ∷ c ∷ concat pieces)) ≡ x ∷ c ∷ concat pieces) (sym a.0)
    (taken_again c (concat pieces) (no_slash pieces a.1) (slashed_again pieces a.1))
slashed_again ((b ∷ c ∷ d ∷ piece) ∷ pieces) a = absurd a.0

-- ---- what stands before the last byte

one_less : (xs : List ℕ) (b : ℕ) → length (xs ++ b ∷ []) - 1 ≡ length xs
one_less xs b = omega (arith, long_by_one xs b)

before_is : (xs : List ℕ) (b byte : ℕ) → before byte (xs ++ b ∷ []) ≡ cond (bytes_eq (b ∷ []) (byte ∷ [])) (Some xs) None
before_is xs b byte =
    let dropped : drop (length (xs ++ b ∷ []) - 1) (xs ++ b ∷ []) ≡ b ∷ [] = ap (λ (k : ℕ). drop k (xs ++ b ∷ [])) (one_less xs b) ∙ drop-append_seam xs (b ∷ []) in
    let taken : take (length (xs ++ b ∷ []) - 1) (xs ++ b ∷ []) ≡ xs = ap (λ (k : ℕ). take k (xs ++ b ∷ [])) (one_less xs b) ∙ take-append_seam xs (b ∷ []) in
    λ i. cond (bytes_eq (dropped i) (byte ∷ [])) (Some (taken i)) None

-- ---- what a Regex means

-- the pattern of pieces without a flag, and with one
unflagged : (inner : List ℕ) (start : ℕ) → regex_meant (record { kind = kinds.Regex; text = 47 ∷ (inner ++ 47 ∷ []); start = start }) ≡ Some (unslashed inner, false)
unflagged inner start =
    rw (before_is inner 47 105, before_is (47 ∷ inner) 47 105, before_is inner 47 47) refl

flagged : (inner : List ℕ) (start : ℕ) → regex_meant (record { kind = kinds.Regex; text = 47 ∷ (inner ++ 47 ∷ 105 ∷ []); start = start }) ≡ Some (unslashed inner, true)
flagged inner start =
    rw (sym (append_assoc inner (47 ∷ []) (105 ∷ [])), before_is (inner ++ 47 ∷ []) 105 105, before_is (47 ∷ (inner ++ 47 ∷ [])) 105 105, before_is inner 47 47) refl

abbrev meaning : List ℕ → Bool → Option (List ℕ × Bool)
meaning pattern i = Some (pattern, i)

abbrev pattern_in : Option (List ℕ × Bool) → List ℕ
pattern_in None = []
pattern_in (Some p) = p.0

abbrev flag_in : Option (List ℕ × Bool) → Bool
flag_in None = false
flag_in (Some p) = p.1

-- pieces and what they mean are the text that is written
same_text : (inner pattern : List ℕ) (v i : Bool) → slashed (unslashed inner) ≡ inner → meaning (unslashed inner) v ≡ meaning pattern i → 47 ∷ (inner ++ 47 ∷ flag_text v) ≡ 47 ∷ (slashed pattern ++ 47 ∷ flag_text i)
same_text inner pattern v i again e =
    let p : unslashed inner ≡ pattern = ap pattern_in e in
    let f : v ≡ i = ap flag_in e in
    ap (λ (l : List ℕ). 47 ∷ (l ++ 47 ∷ flag_text v)) (sym again ∙ ap slashed p) ∙ ap (λ (b : Bool). 47 ∷ (slashed pattern ++ 47 ∷ flag_text b)) f

meant_is : (text pattern : List ℕ) (i : Bool) (start : ℕ) → IsRegex text → regex_meant (record { kind = kinds.Regex; text = text; start = start }) ≡ Some (pattern, i) → text ≡ 47 ∷ (slashed pattern ++ 47 ∷ flag_text i)
meant_is text pattern i start r h = by r.flagged
  where
    inner : List ℕ
    inner = concat r.pieces

    again : slashed (unslashed inner) ≡ inner
    again = slashed_again r.pieces r.each

    with_flag : (v : Bool) → r.flag ≡ flag_text v → ((s : ℕ) → regex_meant (record { kind = kinds.Regex; text = 47 ∷ (inner ++ 47 ∷ flag_text v); start = s }) ≡ Some (unslashed inner, v)) → text ≡ 47 ∷ (slashed pattern ++ 47 ∷ flag_text i)
    with_flag v e means =
        let is : text ≡ 47 ∷ (inner ++ 47 ∷ flag_text v) = r.is ∙ ap (λ (l : List ℕ). 47 ∷ (inner ++ 47 ∷ l)) e in
        is ∙ same_text inner pattern v i again (sym (means start) ∙ sym (ap (λ (l : List ℕ). regex_meant (record { kind = kinds.Regex; text = l; start = start })) is) ∙ h)

    by : (r.flag ≡ []) ⊎ (r.flag ≡ 105 ∷ []) → text ≡ 47 ∷ (slashed pattern ++ 47 ∷ flag_text i)
    by (inl e) = with_flag false e (unflagged inner)
    by (inr e) = with_flag true e (flagged inner)

pub patterns_read_back : PatternsReadBack
patterns_read_back t pattern i kind form h =
    let written : List ℕ = 47 ∷ (slashed pattern ++ 47 ∷ flag_text i) in
    let is : t.text ≡ written = meant_is t.text pattern i t.start form (sym (reads_by regex_meant t kinds.Regex t.text kind refl) ∙ h) in
    record {
      word = record { form = subst IsRegex is form; short = refl };
      back = λ u e.
          reads_by regex_meant u kinds.Regex written (said_kind u (regex_word pattern i) kinds.Regex written refl e) (said_text u (regex_word pattern i) kinds.Regex written refl e)
          ∙ sym (reads_by regex_meant t kinds.Regex written kind is) ∙ h;
    }
