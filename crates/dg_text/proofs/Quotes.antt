-- A text that is written as a Quoted token is read back.
use Rattle.std.proofs.Common.{◌≡◌, ℕ, Bool, true, false, ◌==◌, inl, inr, List, [], ◌∷◌, ◌++◌, refl, sym, ap, subst, ◌∙◌}
use Rattle.std.specs.Prelude.{map, flat_map, Some, option_map}
use Rattle.std.specs.List.{concat, AllByRecursion}
use Rattle.std.proofs.lemmas.Bool.{eqb-true}
use Rattle.dg_text.specs.declared.token.TokenKind.{TokenKind}
use Rattle.dg_text.specs.declared.token.TokenKind.TheVariants as kinds
use Rattle.dg_text.specs.Escapes.{says, unescaped}
use Rattle.dg_text.specs.Language.{IsQuotedPiece, is_quoted_byte}
use Rattle.dg_text.specs.Said.{quoted_meant}
use Rattle.dg_text.specs.Quoting.{quoted_byte, quoted_word, QuotesAreWords, QuotesMeanTexts}
use Rattle.dg_text.proofs.Cuts.{before_at}

-- ---- byte by byte

-- a byte that stands for itself
record IsPlain (b : ℕ) : Type 0 where
  pub quote : (b == 34) ≡ false
  pub backslash : (b == 92) ≡ false
  pub feed : (b == 10) ≡ false
  pub return : (b == 13) ≡ false

-- what holds of the four that are written with a \ and of those that stand for themselves
by_byte : (P : ℕ → Type 0) → P 34 → P 92 → P 10 → P 13 → ((b : ℕ) → IsPlain b → P b) → (b : ℕ) → P b
by_byte P quote backslash feed return plain b = by (b == 34) refl (b == 92) refl (b == 10) refl (b == 13) refl
  where
    by : (v : Bool) → (b == 34) ≡ v → (w : Bool) → (b == 92) ≡ w → (x : Bool) → (b == 10) ≡ x → (y : Bool) → (b == 13) ≡ y → P b
    by true e w f x g y h = subst P (sym (eqb-true b 34 e)) quote
    by false e true f x g y h = subst P (sym (eqb-true b 92 f)) backslash
    by false e false f true g y h = subst P (sym (eqb-true b 10 g)) feed
    by false e false f false g true h = subst P (sym (eqb-true b 13 h)) return
    by false e false f false g false h = plain b (record { quote = e; backslash = f; feed = g; return = h })

itself : (b : ℕ) → IsPlain b → quoted_byte b ≡ b ∷ []
itself b p = rw (p.quote, p.backslash, p.feed, p.return) refl

-- ---- the form

plain_piece : (b : ℕ) → IsPlain b → IsQuotedPiece (quoted_byte b)
plain_piece b p =
    let quoted : is_quoted_byte b ≡ true = rw (p.quote, p.backslash, p.feed, p.return) refl in
    subst IsQuotedPiece (sym (itself b p)) (inl (quoted, refl))

piece : (b : ℕ) → IsQuotedPiece (quoted_byte b)
piece b =
    by_byte (λ b. IsQuotedPiece (quoted_byte b)) (inr (refl, inl (refl, refl))) (inr (refl, inl (refl, refl))) (inr (refl, inl (refl, refl))) (inr (refl, inl (refl, refl))) plain_piece b

pieces : (text : List ℕ) → AllByRecursion IsQuotedPiece (map quoted_byte text)
pieces [] = tt
pieces (b ∷ text) = (piece b, pieces text)

joined : (text : List ℕ) → flat_map quoted_byte text ≡ concat (map quoted_byte text)
joined [] = refl
joined (b ∷ text) = ap (λ (t : List ℕ). quoted_byte b ++ t) (joined text)

pub quotes_are_words : QuotesAreWords
quotes_are_words text = record {
  form = record { pieces = map quoted_byte text; each = pieces text; is = ap (λ (t : List ℕ). 34 ∷ (t ++ 34 ∷ [])) (joined text) };
  short = refl;
}

-- ---- the meaning

abbrev SaysByte : List ℕ → ℕ → Type 0
SaysByte rest b = unescaped (quoted_byte b ++ rest) ≡ b ∷ unescaped rest

plain_says : (rest : List ℕ) (b : ℕ) → IsPlain b → SaysByte rest b
unfolding says
plain_says rest b p =
    let one : unescaped (b ∷ rest) ≡ b ∷ unescaped rest = rw p.backslash refl in
    ap (λ (t : List ℕ). unescaped (t ++ rest)) (itself b p) ∙ one

byte_says : (rest : List ℕ) (b : ℕ) → SaysByte rest b
unfolding says lib.Utf8.encode
byte_says rest b = by_byte (SaysByte rest) refl refl refl refl (plain_says rest) b

text_says : (text : List ℕ) → unescaped (flat_map quoted_byte text) ≡ text
unfolding says
text_says [] = refl
text_says (b ∷ text) = byte_says (flat_map quoted_byte text) b ∙ ap (λ (t : List ℕ). b ∷ t) (text_says text)

-- the token of a text at any place
word_means : (text : List ℕ) (start : ℕ) → quoted_meant (record { kind = kinds.Quoted; text = (quoted_word text).1; start = start }) ≡ Some text
word_means text start =
    let between : option_map unescaped (Some (flat_map quoted_byte text)) ≡ Some text = ap (λ (t : List ℕ). Some t) (text_says text) in
    ap (option_map unescaped) (before_at 34 (flat_map quoted_byte text)) ∙ between

pub quotes_mean_texts : QuotesMeanTexts
quotes_mean_texts text t e =
    let kind : t.kind ≡ kinds.Quoted = ap (λ (p : TokenKind × List ℕ). p.0) e in
    let said : t.text ≡ (quoted_word text).1 = ap (λ (p : TokenKind × List ℕ). p.1) e in
    let same : t ≡ record { kind = kinds.Quoted; text = (quoted_word text).1; start = t.start } = (λ i. record { kind = kind i; text = said i; start = t.start }) in
    ap quoted_meant same ∙ word_means text t.start
