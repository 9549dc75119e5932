-- What the lexer calls a Quoted or a Blank says something.
use Rattle.std.proofs.Common.{◌≡◌, ℕ, ◌+◌, ◌-◌, true, false, List, Some, [], ◌∷◌, ◌++◌, length, take, drop, take-append-drop, length-append, length-take, append_assoc, subst, refl, sym, ap, ◌∙◌, arith}
use Rattle.std.specs.Prelude.{Ok, is_some, ◌≤◌, IsTrue}
use Rattle.std.proofs.lemmas.Bool.{false≢true}
use Rattle.std.specs.List.{AllByRecursion, concat, slice_range}
use Rattle.std.specs.Option.{option_map}
use Rattle.std.proofs.Math.Seq.{drop-append_seam}
use Rattle.dg_text.specs.Escapes.{unescaped}
use Rattle.dg_text.specs.Language.{HasForm, IsBlank, IsQuoted}
use Rattle.dg_text.specs.Lexing.{lexed}
use Rattle.dg_text.specs.Tokenized.{IsGap, TokensFrom}
use Rattle.dg_text.specs.Tokens.{Tok, tok_of, toks_of}
use Rattle.dg_text.specs.Forms.{is_short}
use Rattle.dg_text.specs.Written.{IsWord}
use Rattle.dg_text.specs.declared.token.Token.{Token}
use Rattle.dg_text.specs.declared.token.TokenKind.{TokenKind}
use Rattle.dg_text.specs.declared.token.TokenKind.TheVariants as kinds
use Rattle.dg_text.proofs.TokenLists.{lexed_tokens}
use Rattle.dg_nquad.specs.Laws.{IsSaid}
use Rattle.dg_text.specs.Said.{before, between_quotes, blank_name}
use Rattle.dg_text.proofs.Cuts.{before_at}

-- ---- one token

quoted_says : (chars : List ℕ) → IsQuoted chars → is_some (option_map unescaped (between_quotes chars)) ≡ true
quoted_says chars q =
    let P : List ℕ → Type 0 = λ c. is_some (option_map unescaped (between_quotes c)) ≡ true in
    let inner : before 34 (concat q.pieces ++ 34 ∷ []) ≡ Some (concat q.pieces) = before_at 34 (concat q.pieces) in
    subst P (sym q.is) (rw inner refl)

blank_says : (chars : List ℕ) → IsBlank chars → is_some (blank_name chars) ≡ true
blank_says chars b =
    let P : List ℕ → Type 0 = λ c. is_some (blank_name c) ≡ true in
    subst P (sym b.is) refl

token_says : (text : List ℕ) (t : Token) → HasForm t.kind (slice_range text t.start t.end) → IsSaid (tok_of text t)
token_says text t form = by t.kind form
  where
    neither : {A B : Type 0} → (false ≡ true → A) × (false ≡ true → B)
    neither = (λ h. absurd (false≢true h), λ h. absurd (false≢true h))

    by : (kind : TokenKind) → HasForm kind (slice_range text t.start t.end) → IsSaid (tok_of text (record t { kind = kind }))
    by kinds.Name form = neither
    by kinds.Int form = neither
    by kinds.Uid form = neither
    by kinds.Quoted form = (λ h. quoted_says (slice_range text t.start t.end) form, λ h. absurd (false≢true h))
    by kinds.Iri form = neither
    by kinds.Blank form = (λ h. absurd (false≢true h), λ h. blank_says (slice_range text t.start t.end) form)
    by kinds.At form = neither
    by kinds.Regex form = neither
    by kinds.Caret form = neither
    by (kinds.Punct b) form = neither

-- ---- the tokens of a text

-- a text ends with what is left of it
record EndsWith (text left : List ℕ) : Type 0 where
  pub front : List ℕ
  pub is : text ≡ front ++ left

-- where what is left stands
left_at : (text left : List ℕ) → EndsWith text left → drop (length text - length left) text ≡ left
left_at text left e =
    let place : length text - length left ≡ length e.front = omega (arith, ap length e.is, length-append e.front left) in
    ap (λ (n : ℕ). drop n text) place ∙ ap (λ (t : List ℕ). drop (length e.front) t) e.is ∙ drop-append_seam e.front left

-- the characters of a token at the front of what is left
chars_are : (text left : List ℕ) (start end len : ℕ) → EndsWith text left → start ≡ length text - length left → end ≡ start + len → slice_range text start end ≡ take len left
chars_are text left start end len e s n =
    let count : end - start ≡ len = omega arith in
    let behind : drop start text ≡ left = ap (λ (k : ℕ). drop k text) s ∙ left_at text left e in
    ap (λ (k : ℕ). take k (drop start text)) count ∙ ap (λ (l : List ℕ). take len l) behind

-- what is left behind a token and its gap
after_gap : (text left rest : List ℕ) (len : ℕ) → EndsWith text left → IsGap (drop len left) rest → EndsWith text rest
after_gap text left rest len e g =
    let gap : List ℕ = concat g.pieces ++ g.last in
    let behind : drop len left ≡ gap ++ rest = g.is ∙ sym (append_assoc (concat g.pieces) g.last rest) in
    let split : left ≡ take len left ++ (gap ++ rest) = sym (take-append-drop len left) ∙ ap (λ (l : List ℕ). take len left ++ l) behind in
    record {
      front = (e.front ++ take len left) ++ gap;
      is = e.is ∙ ap (λ (l : List ℕ). e.front ++ l) split ∙ sym (append_assoc e.front (take len left) (gap ++ rest)) ∙ sym (append_assoc (e.front ++ take len left) gap rest);
    }

-- the token at the front of what is left is a word
word_at : (text left : List ℕ) (t : Token) (len : ℕ) → slice_range text t.start t.end ≡ take len left → len ≤ length left → HasForm t.kind (take len left) → IsTrue (is_short t.kind len) → IsWord (t.kind, slice_range text t.start t.end)
word_at text left t len chars within form short =
    let long : length (take len left) ≡ len = omega (arith, length-take len left) in
    subst (λ (c : List ℕ). IsWord (t.kind, c)) (sym chars) (record { form = form; short = subst (λ (n : ℕ). IsTrue (is_short t.kind n)) (sym long) short })

-- what holds of each token that is a word in its text
abbrev pub HoldsOfWords : (Tok → Type 0) → Type 0
HoldsOfWords P = (text : List ℕ) (t : Token) → IsWord (t.kind, slice_range text t.start t.end) → P (tok_of text t)

tokens_from : (P : Tok → Type 0) → HoldsOfWords P → (text : List ℕ) (tokens : List Token) (end left : List ℕ) → EndsWith text left → TokensFrom (length text) tokens end left → AllByRecursion P (toks_of text tokens)
tokens_from P h text [] end left e f = tt
tokens_from P h text (t ∷ more) end left e f =
    let chars : slice_range text t.start t.end ≡ take f.len left = chars_are text left t.start t.end f.len e f.start f.end in
    (h text t (word_at text left t f.len chars f.starts.within f.starts.form f.starts.short), tokens_from P h text more end f.rest (after_gap text left f.rest f.len e f.gap) f.more)

-- it holds of all tokens of a text
pub all_tokens : (P : Tok → Type 0) → HoldsOfWords P → (text : List ℕ) (tokens : List Token) → lexed text ≡ Ok tokens → AllByRecursion P (toks_of text tokens)
all_tokens P h text tokens e =
    let o = (lexed_tokens text tokens).0 e in
    tokens_from P h text tokens [] o.rest (after_gap text text o.rest 0 (record { front = []; is = refl }) o.gap) o.from

pub lexed_say : (text : List ℕ) (tokens : List Token) → lexed text ≡ Ok tokens → AllByRecursion IsSaid (toks_of text tokens)
lexed_say text tokens e = all_tokens IsSaid (λ text t w. token_says text t w.form) text tokens e
