-- What is written of words is read as the tokens that they are.
use Rattle.std.proofs.Common.{◌≡◌, ℕ, suc, ◌+◌, ◌-◌, false, inl, List, [], ◌∷◌, ◌++◌, length, take, drop, length-append, append_assoc, refl, sym, ap, subst, ◌∙◌, arith}
use Rattle.std.specs.Prelude.{map, slice_range, Ok}
use Rattle.std.specs.List.{AllByRecursion}
use Rattle.std.proofs.Math.Seq.{take-append_seam, drop-append_seam}
use Rattle.dg_text.specs.declared.token.Token.{Token}
use Rattle.dg_text.specs.declared.token.TokenKind.{TokenKind}
use Rattle.dg_text.specs.declared.token.TokenKind.TheVariants as kinds
use Rattle.dg_text.specs.Language.{HasForm}
use Rattle.dg_text.specs.Lexing.{lexed}
use Rattle.dg_text.specs.Tokenized.{NoneStarts, begins_gap, IsGap, TokensFrom}
use Rattle.dg_text.specs.Tokens.{Tok, toks_of, shown}
use Rattle.dg_text.specs.Written.{Word, IsWord, written, word_said, tok_said, WordsAreRead}
use Rattle.dg_text.proofs.Unbroken.{form_begins}
use Rattle.dg_text.proofs.BeforeBlank.{word_starts}
use Rattle.dg_text.proofs.TokenLists.{lexed_tokens}

-- ---- what a token says

cut_out : (pre text rest : List ℕ) (start end : ℕ) → start ≡ length pre → end ≡ start + length text → slice_range (pre ++ (text ++ rest)) start end ≡ text
cut_out pre text rest start end s e =
    let len : end - start ≡ length text = omega (arith, e) in
    let from : drop start (pre ++ (text ++ rest)) ≡ text ++ rest = ap (λ (k : ℕ). drop k (pre ++ (text ++ rest))) s ∙ drop-append_seam pre (text ++ rest) in
    (λ i. take (len i) (from i)) ∙ take-append_seam text rest

-- what stands between < and > somewhere in a text
iri_cut : (pre between rest : List ℕ) (start : ℕ) → start ≡ length pre
    → slice_range (pre ++ ((60 ∷ (between ++ 62 ∷ [])) ++ rest)) (start + 1) ((start + length (60 ∷ (between ++ 62 ∷ []))) - 1) ≡ between
iri_cut pre between rest start s =
    let closed : (between ++ 62 ∷ []) ++ rest ≡ between ++ 62 ∷ rest = append_assoc between (62 ∷ []) rest in
    let same : pre ++ (60 ∷ ((between ++ 62 ∷ []) ++ rest)) ≡ (pre ++ 60 ∷ []) ++ (between ++ 62 ∷ rest) =
    ap (λ (t : List ℕ). pre ++ (60 ∷ t)) closed ∙ sym (append_assoc pre (60 ∷ []) (between ++ 62 ∷ rest)) in
    let long : length (between ++ 62 ∷ []) ≡ length between + 1 = length-append between (62 ∷ []) in
    let first : start + 1 ≡ length (pre ++ 60 ∷ []) = omega (arith, s, length-append pre (60 ∷ [])) in
    let last : (start + length (60 ∷ (between ++ 62 ∷ []))) - 1 ≡ (start + 1) + length between = omega (arith, long) in
    ap (λ (t : List ℕ). slice_range t (start + 1) ((start + length (60 ∷ (between ++ 62 ∷ []))) - 1)) same
    ∙ cut_out (pre ++ 60 ∷ []) between (62 ∷ rest) (start + 1) ((start + length (60 ∷ (between ++ 62 ∷ []))) - 1) first last

-- an Iri says what stands between < and >
pub iri_said : (between : List ℕ) → word_said (kinds.Iri, 60 ∷ (between ++ 62 ∷ [])) ≡ (kinds.Iri, between)
iri_said between =
    let long : length (between ++ 62 ∷ []) ≡ length between + 1 = length-append between (62 ∷ []) in
    let last : length (60 ∷ (between ++ 62 ∷ [])) - 1 ≡ 1 + length between = omega (arith, long) in
    let cut : slice_range (60 ∷ (between ++ 62 ∷ [])) 1 (length (60 ∷ (between ++ 62 ∷ [])) - 1) ≡ between =
    cut_out (60 ∷ []) between (62 ∷ []) 1 (length (60 ∷ (between ++ 62 ∷ [])) - 1) refl last in
    λ i. (kinds.Iri, cut i)

-- a token of a kind at a place of a text
abbrev placed : TokenKind → ℕ → ℕ → Token
placed kind start len = record { kind = kind; start = start; end = start + len }

-- a word somewhere in a text says what it says alone
shown_is : (kind : TokenKind) (pre text rest : List ℕ) (start : ℕ) → start ≡ length pre → HasForm kind text
    → shown (pre ++ (text ++ rest)) (placed kind start (length text)) ≡ (word_said (kind, text)).1
shown_is kinds.Name pre text rest start s f = cut_out pre text rest start (start + length text) s refl
shown_is kinds.Int pre text rest start s f = cut_out pre text rest start (start + length text) s refl
shown_is kinds.Uid pre text rest start s f = cut_out pre text rest start (start + length text) s refl
shown_is kinds.Quoted pre text rest start s f = cut_out pre text rest start (start + length text) s refl
shown_is kinds.Iri pre text rest start s f =
    subst (λ (t : List ℕ). shown (pre ++ (t ++ rest)) (placed kinds.Iri start (length t)) ≡ (word_said (kinds.Iri, t)).1) (sym f.is)
    (iri_cut pre f.between rest start s ∙ sym (ap (λ (p : TokenKind × List ℕ). p.1) (iri_said f.between)))
shown_is kinds.Blank pre text rest start s f = cut_out pre text rest start (start + length text) s refl
shown_is kinds.At pre text rest start s f = cut_out pre text rest start (start + length text) s refl
shown_is kinds.Regex pre text rest start s f = cut_out pre text rest start (start + length text) s refl
shown_is kinds.Caret pre text rest start s f = cut_out pre text rest start (start + length text) s refl
shown_is (kinds.Punct b) pre text rest start s f = cut_out pre text rest start (start + length text) s refl

-- ---- word by word

-- words begin no blanks and no comment
written_begins : (ws : List Word) → AllByRecursion IsWord ws → begins_gap (written ws) ≡ false
written_begins [] a = refl
written_begins (w ∷ ws) a =
    subst (λ (t : List ℕ). begins_gap t ≡ false) (sym (append_assoc w.1 (32 ∷ []) (written ws))) ((form_begins w.0 w.1 a.0.form).tight (32 ∷ written ws))

no_gap : (text : List ℕ) → begins_gap text ≡ false → IsGap text text
no_gap text h = record { pieces = []; last = []; each = tt; ends = inl (refl, h); is = refl }

one_blank : (rest : List ℕ) → begins_gap rest ≡ false → IsGap (32 ∷ rest) rest
one_blank rest h = record {
  pieces = (32 ∷ []) ∷ [];
  last = [];
  each = (inl (record { byte = 32; blank = refl; is = refl }), tt);
  ends = inl (refl, h);
  is = refl;
}

none_at_end : NoneStarts []
none_at_end t s = absurd (omega (arith, s.some, s.within))

-- the tokens of what is left of a whole text are these words
record AreRead (whole left : List ℕ) (ws : List Word) : Type 0 where
  pub tokens : List Token
  pub from : TokensFrom (length whole) tokens [] left
  pub said : map tok_said (toks_of whole tokens) ≡ map word_said ws

next_read : (whole pre : List ℕ) (w : Word) (ws : List Word) → IsWord w → AllByRecursion IsWord ws → whole ≡ pre ++ (w.1 ++ 32 ∷ written ws) → AreRead whole (written ws) ws → AreRead whole (w.1 ++ 32 ∷ written ws) (w ∷ ws)
next_read whole pre w ws h a at more =
    let rest : List ℕ = 32 ∷ written ws in
    let start : ℕ = length whole - length (w.1 ++ rest) in
    let all : length whole ≡ length pre + length (w.1 ++ rest) = ap length at ∙ length-append pre (w.1 ++ rest) in
    let place : start ≡ length pre = omega (arith, all) in
    let says : shown whole (placed w.0 start (length w.1)) ≡ (word_said w).1 = ap (λ (t : List ℕ). shown t (placed w.0 start (length w.1))) at ∙ shown_is w.0 pre w.1 rest start place h.form in
    record {
      tokens = placed w.0 start (length w.1) ∷ more.tokens;
      from = record {
        len = length w.1;
        rest = written ws;
        starts = word_starts w (written ws) h;
        start = refl;
        end = refl;
        gap = subst (λ (t : List ℕ). IsGap t (written ws)) (sym (drop-append_seam w.1 rest)) (one_blank (written ws) (written_begins ws a));
        more = more.from;
      };
      said = λ i. (w.0, says i) ∷ more.said i;
    }

words_from : (whole pre : List ℕ) (ws : List Word) → AllByRecursion IsWord ws → whole ≡ pre ++ written ws → AreRead whole (written ws) ws
words_from whole pre [] a at = record { tokens = []; from = (refl, none_at_end); said = refl }
words_from whole pre (w ∷ ws) a at =
    let same : (w.1 ++ 32 ∷ []) ++ written ws ≡ w.1 ++ 32 ∷ written ws = append_assoc w.1 (32 ∷ []) (written ws) in
    let more = words_from whole (pre ++ (w.1 ++ 32 ∷ [])) ws a.1 (at ∙ sym (append_assoc pre (w.1 ++ 32 ∷ []) (written ws))) in
    subst (λ (t : List ℕ). AreRead whole t (w ∷ ws)) (sym same) (next_read whole pre w ws a.0 a.1 (at ∙ ap (λ (t : List ℕ). pre ++ t) same) more)

pub words_read : WordsAreRead
words_read ws a =
    let r = words_from (written ws) [] ws a refl in
    let is : lexed (written ws) ≡ Ok r.tokens = (lexed_tokens (written ws) r.tokens).1 (record { rest = written ws; gap = no_gap (written ws) (written_begins ws a); from = r.from }) in
    (r.tokens, (is, r.said))

-- ---- tokens by what they say and where they start

-- the first of places, and those behind it
abbrev pub first_place : List ℕ → ℕ
first_place [] = 0
first_place (start ∷ rest) = start

abbrev pub places_behind : List ℕ → List ℕ
places_behind [] = []
places_behind (start ∷ rest) = rest

-- tokens that say this, at places
abbrev pub spread : List ℕ → List (TokenKind × List ℕ) → List Tok
spread starts [] = []
spread starts (say ∷ more) = record { kind = say.0; text = say.1; start = first_place starts } ∷ spread (places_behind starts) more

-- each list of tokens is spread so
pub spread_is : (ts : List Tok) → ts ≡ spread (map (λ t. t.start) ts) (map tok_said ts)
spread_is [] = refl
spread_is (t ∷ ts) = λ i. t ∷ spread_is ts i

-- tokens that say what words say are these words at places
pub words_spread : (ts : List Tok) (ws : List Word) → map tok_said ts ≡ map word_said ws → ts ≡ spread (map (λ t. t.start) ts) (map word_said ws)
words_spread ts ws e = spread_is ts ∙ ap (λ (says : List (TokenKind × List ℕ)). spread (map (λ t. t.start) ts) says) e

pub length_spread : (starts : List ℕ) (says : List (TokenKind × List ℕ)) → length (spread starts says) ≡ length says
length_spread starts [] = refl
length_spread starts (say ∷ more) = ap suc (length_spread (places_behind starts) more)
