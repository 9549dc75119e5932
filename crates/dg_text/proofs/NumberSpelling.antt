-- Numbers as they are written, and that they read back.
use Rattle.std.proofs.Common.{◌≡◌, ℕ, suc, Bool, true, false, cond, List, [], ◌∷◌, ℤ, pos, negsuc, neg_ℤ, refl, subst, ◌∙◌, arith, inl, inr, FitsSigned, w64}
use Rattle.std.specs.Prelude.{Some, None}
use Rattle.std.specs.List.{list_all}
use Rattle.std.specs.Char.{is_ascii_digit}
use Rattle.std.specs.Fmt.{decimal, signed_decimal}
use Rattle.std.specs.Int.{IsInRange}
use Rattle.std.specs.Str.Parse.{AllDigits, IsNumeral}
use Rattle.std.proofs.lemmas.Fmt.{decimal_is_IsNumeral}
use Rattle.std.proofs.lemmas.Grind.{common_steps}
use Rattle.std.proofs.lemmas.Int.{ints}
use Rattle.std.proofs.lemmas.Str.Parse.{digit_from_value}
use Rattle.dg_values.specs.Forms.{IntForm}
use Rattle.dg_values.specs.Forms.IntForm.{plain, minus}
use Rattle.dg_values.specs.Scanning.{int_of_text}
use Rattle.dg_values.proofs.Readings.{int_reads, int_found}
use Rattle.dg_text.specs.declared.token.TokenKind.TheVariants as kinds
use Rattle.dg_text.specs.Language.{AreSome, IsInt}
use Rattle.dg_text.specs.Said.{int_meant}
use Rattle.dg_text.specs.Tokens.{is_int}
use Rattle.dg_text.specs.Spelling.{int_word}
use Rattle.dg_text.specs.SpellingLaws.{NumbersReadBack, NumbersAreBounded}
use Rattle.dg_text.proofs.NodeSpelling.{said_text, said_kind, reads_by}

digit : (b : ℕ) → IsInRange 48 57 b → is_ascii_digit b ≡ true
digit b h = grind (arith, common_steps)

all_digits : (ds : List ℕ) → AllDigits 10 ds → list_all is_ascii_digit ds ≡ true
all_digits [] h = refl
all_digits (d ∷ ds) h = rw (digit d (digit_from_value d h.0)) (all_digits ds h.1)

are_digits : (ds : List ℕ) → IsNumeral 10 ds → AreSome is_ascii_digit ds
are_digits ds n = record { some = n.0; each = all_digits ds n.1 }

-- a number in decimal is an Int
int_form : (z : ℤ) → FitsSigned w64 z → IsInt (signed_decimal z)
int_form (pos n) fits = inl (are_digits (decimal n) (decimal_is_IsNumeral n (omega (arith, ints))).0)
int_form (negsuc n) fits = inr (record { digits = decimal (suc n); some = are_digits (decimal (suc n)) (decimal_is_IsNumeral (suc n) (omega (arith, ints))).0; is = refl })

-- and a form of this number
int_prints : (z : ℤ) → FitsSigned w64 z → IntForm (signed_decimal z) z
int_prints (pos n) fits =
    let d = decimal_is_IsNumeral n (omega (arith, ints)) in
    subst (λ (k : ℕ). IntForm (decimal n) (pos k)) d.1 (plain (decimal n) d.0)
int_prints (negsuc n) fits =
    let d = decimal_is_IsNumeral (suc n) (omega (arith, ints)) in
    subst (λ (k : ℕ). IntForm (45 ∷ decimal (suc n)) (neg_ℤ (pos k))) d.1 (minus (decimal (suc n)) d.0)

pub numbers_read_back : NumbersReadBack
numbers_read_back z fits = record {
  word = record { form = int_form z fits; short = refl };
  back = λ t e. reads_by int_meant t kinds.Int (signed_decimal z) (said_kind t (int_word z) kinds.Int (signed_decimal z) refl e) (said_text t (int_word z) kinds.Int (signed_decimal z) refl e)
      ∙ int_reads (signed_decimal z) z (int_prints z fits) fits;
}

pub numbers_are_bounded : NumbersAreBounded
numbers_are_bounded t z h = by (is_int t) h
  where
    by : (v : Bool) → cond v (int_of_text t.text) None ≡ Some z → FitsSigned w64 z
    by true e = (int_found t.text z e).1
    by false e = absurd (cc)
