-- A token that is written before a blank is the one that starts there.
use Rattle.std.proofs.Common.{◌≡◌, ℕ, zero, suc, ◌+◌, ◌≤◌, ◌<◌, Bool, true, false, nat_lt, List, [], ◌∷◌, ◌++◌, length, take, length-append, append-nil, refl, sym, ap, subst, ◌∙◌, arith}
use Rattle.std.specs.Prelude.{Some}
use Rattle.std.proofs.Math.Seq.{take-append_seam}
use Rattle.std.proofs.lemmas.Bool.{ltb-true, ltb-false}
use Rattle.dg_text.specs.declared.token.TokenKind.{TokenKind}
use Rattle.dg_text.specs.declared.token.TokenKind.TheVariants as kinds
use Rattle.dg_text.specs.Forms.{token_at, quoted_len, regex_len}
use Rattle.dg_text.specs.Language.{HasForm, IsQuoted, IsRegex}
use Rattle.dg_text.specs.Tokenized.{Starts}
use Rattle.dg_text.specs.Written.{Word, IsWord}
use Rattle.dg_text.proofs.ClosedForms.{quoted_most, quoted_exact, regex_most, regex_exact}
use Rattle.dg_text.proofs.FirstToken.{kind_of, form_kind, finds_token}
use Rattle.dg_text.proofs.Unbroken.{broken, name_tight, int_tight, uid_tight, iri_tight, blank_tight, at_tight, caret_tight, punct_tight, form_begins}

-- ---- no form goes on behind a blank

quoted_ends : (text more : List ℕ) → IsQuoted text → IsQuoted (text ++ 32 ∷ more) → ⊥
quoted_ends text more f g =
    let all : List ℕ = text ++ 32 ∷ more in
    let most : length all ≤ quoted_len (all ++ []) = quoted_most all [] g in
    let same : quoted_len (all ++ []) ≡ quoted_len all = ap quoted_len (append-nil all) in
    let exact : quoted_len all ≡ length text = quoted_exact text (32 ∷ more) f in
    let more_long : length all ≡ length text + suc (length more) = length-append text (32 ∷ more) in
    absurd (omega (arith, most, same, exact, more_long))

regex_ends : (text more : List ℕ) → IsRegex text → IsRegex (text ++ 32 ∷ more) → ⊥
regex_ends text more f g =
    let all : List ℕ = text ++ 32 ∷ more in
    let most : length all ≤ regex_len (all ++ []) = regex_most all [] g in
    let same : regex_len (all ++ []) ≡ regex_len all = ap regex_len (append-nil all) in
    let exact : regex_len all ≡ length text = regex_exact text (32 ∷ more) f refl in
    let more_long : length all ≡ length text + suc (length more) = length-append text (32 ∷ more) in
    absurd (omega (arith, most, same, exact, more_long))

ends_before : (kind : TokenKind) (text more : List ℕ) → HasForm kind text → HasForm kind (text ++ 32 ∷ more) → ⊥
ends_before kinds.Name text more f g = broken text more (name_tight (text ++ 32 ∷ more) g)
ends_before kinds.Int text more f g = broken text more (int_tight (text ++ 32 ∷ more) g)
ends_before kinds.Uid text more f g = broken text more (uid_tight (text ++ 32 ∷ more) g)
ends_before kinds.Quoted text more f g = quoted_ends text more f g
ends_before kinds.Iri text more f g = broken text more (iri_tight (text ++ 32 ∷ more) g)
ends_before kinds.Blank text more f g = broken text more (blank_tight (text ++ 32 ∷ more) g)
ends_before kinds.At text more f g = broken text more (at_tight (text ++ 32 ∷ more) g)
ends_before kinds.Regex text more f g = regex_ends text more f g
ends_before kinds.Caret text more f g = broken text more (caret_tight (text ++ 32 ∷ more) g)
ends_before (kinds.Punct b) text more f g = broken text more (punct_tight b (text ++ 32 ∷ more) g)

-- ---- the longest

-- a blank behind a text leaves its kind
same_kind : (text more : List ℕ) → 0 < length text → kind_of (text ++ 32 ∷ more) ≡ kind_of text
same_kind [] more some = absurd (omega (arith, some))
same_kind (b ∷ []) more some = refl
same_kind (b ∷ c ∷ text) more some = refl

-- bytes past a blank
record Past (n : ℕ) (text rest : List ℕ) : Type 0 where
  pub more : List ℕ
  pub is : take n (text ++ 32 ∷ rest) ≡ text ++ 32 ∷ more

past_blank : (n : ℕ) (text rest : List ℕ) → length text < n → Past n text rest
past_blank zero text rest lt = absurd (omega (arith, lt))
past_blank (suc n) [] rest lt = record { more = take n rest; is = refl }
past_blank (suc n) (b ∷ text) rest lt =
    let p = past_blank n text rest (omega (arith, lt)) in
    record { more = p.more; is = ap (λ (t : List ℕ). b ∷ t) p.is }

no_longer : (kind other : TokenKind) (n : ℕ) (text rest : List ℕ) → HasForm kind text → HasForm other (take n (text ++ 32 ∷ rest)) → n ≤ length text
no_longer kind other n text rest f g = by (nat_lt (length text) n) refl
  where
    by : (v : Bool) → nat_lt (length text) n ≡ v → n ≤ length text
    by true e =
        let p = past_blank n text rest (ltb-true (length text) n e) in
        let longer : HasForm other (text ++ 32 ∷ p.more) = subst (HasForm other) p.is g in
        let same : other ≡ kind = form_kind other (text ++ 32 ∷ p.more) longer ∙ same_kind text p.more (form_begins kind text f).some ∙ sym (form_kind kind text f) in
        absurd (ends_before kind text p.more f (subst (λ (k : TokenKind). HasForm k (text ++ 32 ∷ p.more)) same longer))
    by false e = ltb-false (length text) n e

-- ---- the token

-- it starts the text
pub word_starts : (w : Word) (rest : List ℕ) → IsWord w → Starts (w.1 ++ 32 ∷ rest) (w.0, length w.1)
word_starts w rest h = record {
  some = (form_begins w.0 w.1 h.form).some;
  within = omega (arith, length-append w.1 (32 ∷ rest));
  form = subst (HasForm w.0) (sym (take-append_seam w.1 (32 ∷ rest))) h.form;
  longest = λ other n le g. no_longer w.0 other n w.1 rest h.form g;
  short = h.short;
}

-- and is found there
pub word_found : (w : Word) (rest : List ℕ) → IsWord w → token_at (w.1 ++ 32 ∷ rest) ≡ Some (w.0, length w.1)
word_found w rest h = (finds_token (w.1 ++ 32 ∷ rest) (w.0, length w.1)).1 (word_starts w rest h)
