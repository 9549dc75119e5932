-- What the lines of definitions say, token by token, and that the lexer reads it so.
use Rattle.std.proofs.Common.{◌≡◌, ℕ, suc, ◌+◌, ◌-◌, ◌≤◌, ◌<◌, Bool, true, false, ◌&&◌, ◌==◌, not, nat_le, nat_lt, cond, List, [], ◌∷◌, ◌++◌, Some, Ok, length, take, drop, codes, refl, ap, sym, subst, ◌∙◌, append_assoc, arith, length-append, length-drop}
use Rattle.std.specs.Prelude.{map, flat_map, slice_range, is_some}
use Rattle.std.specs.Char.{is_ascii_digit}
use Rattle.std.proofs.lemmas.List.{append-nil}
use Rattle.std.proofs.lemmas.Bool.{eqb-true}
use Rattle.std.proofs.Math.Seq.{take-append_seam, drop-append_seam}
use Rattle.dg_values.specs.declared.kind.Kind.{Kind}
use Rattle.dg_values.specs.declared.kind.Kind.TheVariants as kinds
use Rattle.dg_values.specs.declared.kind.Tokenizer.{Tokenizer}
use Rattle.dg_values.specs.declared.kind.Tokenizer.TheVariants as tokenizers
use Rattle.dg_text.specs.declared.token.Token.{Token}
use Rattle.dg_text.specs.declared.token.TokenKind.{TokenKind}
use Rattle.dg_text.specs.declared.token.TokenKind.TheVariants as tokens
use Rattle.dg_text.specs.Reading.{Reader, turns}
use Rattle.dg_text.specs.Tokens.{Tok, toks_of, shown}
use Rattle.dg_text.specs.Forms.{Sized, token_at, name_len, name_more, closing, is_letter, goes_on, is_punct_byte, int_len, uid_len, quoted_len, regex_len, at_len, iri_len, blank_len, caret_len, punct_len, colon_word, longer, longest}
use Rattle.dg_text.specs.Escapes.{hex_number}
use Rattle.dg_text.specs.Lexing.{gap, skip_gap, token, token_starts}
use Rattle.dg_text.proofs.Turns.{stops}
use Rattle.dg_schema.specs.declared.definition.PredDef.{PredDef}
use Rattle.dg_text.specs.Words.{is_whole_name}
use Rattle.dg_schema.specs.Readable.{IsReadable, AreReadable}
use Rattle.dg_schema.specs.Texts.{kind_word, tokenizer_word, type_text, next_text, index_text, where_so, definition_text}

-- a token's kind and its characters
abbrev pub Say : Type 0
Say = TokenKind × List ℕ

-- what a token says
abbrev pub say_of : Tok → Say
say_of t = (t.kind, t.text)

-- the text after blanks and comments
abbrev pub past : List ℕ → List ℕ
past text = drop (gap false text) text

-- what is left of a whole text is read into tokens that say this
pub record Says (whole left : List ℕ) (says : List Say) : Type 0 where
  pub found : List Token
  pub runs : (n : ℕ) (before : List Token) → length found ≤ n → turns n token_starts (token (length whole)) before left ≡ Ok (before ++ found, [])
  pub said : map say_of (toks_of whole found) ≡ says
  pub short : length found ≤ length left

-- the end of a whole text is read so
abbrev pub Lexes : List ℕ → List ℕ → List Say → Type 0
Lexes whole text says = (pre : List ℕ) → whole ≡ pre ++ text → Says whole (past text) says

-- ---- nothing, a blank, a token

no_token : token_starts [] ≡ false
unfolding token_at name_more closing hex_number
no_token = refl

at_end : (size n : ℕ) (before : List Token) → turns n token_starts (token size) before [] ≡ Ok (before ++ [], [])
at_end size n before =
    stops token_starts (token size) n before [] (turns n token_starts (token size) before []) no_token refl ∙ ap (λ (all : List Token). Ok (all, [])) (sym (append-nil before))

past_end : past [] ≡ []
unfolding gap
past_end = refl

pub nothing : (whole : List ℕ) → Lexes whole [] []
nothing whole pre at = subst (λ (left : List ℕ). Says whole left []) (sym past_end) (record { found = []; runs = λ n before le. at_end (length whole) n before; said = refl; short = omega arith })

past_space : (rest : List ℕ) → past (32 ∷ rest) ≡ past rest
unfolding gap
past_space rest =
    let e : 1 + gap false rest ≡ suc (gap false rest) = omega arith in
    ap (λ (k : ℕ). drop k (32 ∷ rest)) e

past_feed : (rest : List ℕ) → past (10 ∷ rest) ≡ past rest
unfolding gap
past_feed rest =
    let e : 1 + gap false rest ≡ suc (gap false rest) = omega arith in
    ap (λ (k : ℕ). drop k (10 ∷ rest)) e

pub space : (whole rest : List ℕ) (says : List Say) → Lexes whole rest says → Lexes whole (32 ∷ rest) says
space whole rest says more pre at =
    subst (λ (left : List ℕ). Says whole left says) (sym (past_space rest)) (more (pre ++ 32 ∷ []) (at ∙ sym (append_assoc pre (32 ∷ []) rest)))

pub feed : (whole rest : List ℕ) (says : List Say) → Lexes whole rest says → Lexes whole (10 ∷ rest) says
feed whole rest says more pre at =
    subst (λ (left : List ℕ). Says whole left says) (sym (past_feed rest)) (more (pre ++ 10 ∷ []) (at ∙ sym (append_assoc pre (10 ∷ []) rest)))

-- the kinds that are printed, whose characters are all their bytes
abbrev is_printed : TokenKind → Bool
is_printed tokens.Name = true
is_printed tokens.At = true
is_printed (tokens.Punct b) = true
is_printed _ = false

shown_whole : (kind : TokenKind) (text : List ℕ) (start end : ℕ) → is_printed kind ≡ true → shown text (record { kind = kind; start = start; end = end }) ≡ slice_range text start end
shown_whole tokens.Name text start end e = refl
shown_whole tokens.Int text start end e = refl
shown_whole tokens.Uid text start end e = refl
shown_whole tokens.Quoted text start end e = refl
shown_whole tokens.Iri text start end e = absurd (cc)
shown_whole tokens.Blank text start end e = refl
shown_whole tokens.At text start end e = refl
shown_whole tokens.Regex text start end e = refl
shown_whole tokens.Caret text start end e = refl
shown_whole (tokens.Punct b) text start end e = refl

cut_out : (pre w rest : List ℕ) (n : ℕ) → n ≡ length pre → slice_range (pre ++ (w ++ rest)) n (n + length w) ≡ w
cut_out pre w rest n e =
    let len : (n + length w) - n ≡ length w = omega arith in
    let from : drop n (pre ++ (w ++ rest)) ≡ w ++ rest = ap (λ (k : ℕ). drop k (pre ++ (w ++ rest))) e ∙ drop-append_seam pre (w ++ rest) in
    (λ i. take (len i) (from i)) ∙ take-append_seam w rest

-- the token that starts a text at its place
abbrev pub first_of : ℕ → List ℕ → Sized → Token
first_of size text t = record { kind = t.0; start = size - length text; end = (size - length text) + t.1 }

pub read_first : (size : ℕ) (before : List Token) (text rest : List ℕ) (t : Sized) → token_at text ≡ Some t → drop t.1 text ≡ rest → token size before text ≡ Ok (before ++ first_of size text t ∷ [], past rest)
unfolding token skip_gap
read_first size before text rest t e d = rw (e, d) refl

pub turn : {S A : Type 0} (begins : S → Bool) (part : A → Reader S A) (n : ℕ) (before x : A) (left after : S) → begins left ≡ true → part before left ≡ Ok (x, after) → turns (suc n) begins part before left ≡ turns n begins part x after
unfolding turns
turn begins part n before x left after b h = rw (b, h) refl

pub word : (whole w rest : List ℕ) (kind : TokenKind) (says : List Say) → 0 < length w → is_printed kind ≡ true → token_at (w ++ rest) ≡ Some (kind, length w) → gap false (w ++ rest) ≡ 0 → Lexes whole rest says → Lexes whole (w ++ rest) ((kind, w) ∷ says)
word whole w rest kind says some printed starts tight more pre at =
    let text : List ℕ = w ++ rest in
    let left : Says whole (past rest) says = more (pre ++ w) (at ∙ sym (append_assoc pre w rest)) in
    let first : Token = first_of (length whole) text (kind, length w) in
    let here : past text ≡ text = ap (λ (k : ℕ). drop k text) tight in
    let begins : token_starts text ≡ true = ap is_some starts in
    let place : length whole - length text ≡ length pre = let l : length whole ≡ length pre + length text = ap length at ∙ length-append pre text in omega arith in
    let whole_shown : shown whole first ≡ w = shown_whole kind whole first.start first.end printed ∙ ap (λ (all : List ℕ). slice_range all first.start first.end) at ∙ cut_out pre w rest first.start place in
    let goes : (n : ℕ) (before : List Token) → suc (length left.found) ≤ n → turns n token_starts (token (length whole)) before text ≡ Ok (before ++ first ∷ left.found, []) = λ n before le.
    let one : n ≡ suc (n - 1) = omega arith in
    ap (λ (k : ℕ). turns k token_starts (token (length whole)) before text) one
    ∙ turn token_starts (token (length whole)) (n - 1) before (before ++ first ∷ []) text (past rest) begins (read_first (length whole) before text rest (kind, length w) starts (drop-append_seam w rest))
    ∙ left.runs (n - 1) (before ++ first ∷ []) (omega arith)
    ∙ ap (λ (all : List Token). Ok (all, [])) (append_assoc before (first ∷ []) left.found) in
    let fits : suc (length left.found) ≤ length text = let a : length text ≡ length w + length rest = length-append w rest in let b : length (past rest) ≡ length rest - gap false rest = length-drop (gap false rest) rest in let c : length left.found ≤ length (past rest) = left.short in omega arith in
    subst (λ (l : List ℕ). Says whole l ((kind, w) ∷ says)) (sym here) (record { found = first ∷ left.found; runs = goes; said = λ i. (kind, whole_shown i) ∷ left.said i; short = fits })

-- ---- punctuation

pub colon_next : (whole rest : List ℕ) (says : List Say) → Lexes whole rest says → Lexes whole (58 ∷ rest) ((tokens.Punct 58, codes ":") ∷ says)
unfolding token_at name_more closing hex_number gap
colon_next whole rest says more = word whole (codes ":") rest (tokens.Punct 58) says (omega arith) refl refl refl more

pub comma_next : (whole rest : List ℕ) (says : List Say) → Lexes whole rest says → Lexes whole (44 ∷ rest) ((tokens.Punct 44, codes ",") ∷ says)
unfolding token_at name_more closing hex_number gap
comma_next whole rest says more = word whole (codes ",") rest (tokens.Punct 44) says (omega arith) refl refl refl more

pub dot_next : (whole rest : List ℕ) (says : List Say) → Lexes whole rest says → Lexes whole (46 ∷ rest) ((tokens.Punct 46, codes ".") ∷ says)
unfolding token_at name_more closing hex_number gap
dot_next whole rest says more = word whole (codes ".") rest (tokens.Punct 46) says (omega arith) refl refl refl more

pub open_round_next : (whole rest : List ℕ) (says : List Say) → Lexes whole rest says → Lexes whole (40 ∷ rest) ((tokens.Punct 40, codes "(") ∷ says)
unfolding token_at name_more closing hex_number gap
open_round_next whole rest says more = word whole (codes "(") rest (tokens.Punct 40) says (omega arith) refl refl refl more

pub close_round_next : (whole rest : List ℕ) (says : List Say) → Lexes whole rest says → Lexes whole (41 ∷ rest) ((tokens.Punct 41, codes ")") ∷ says)
unfolding token_at name_more closing hex_number gap
close_round_next whole rest says more = word whole (codes ")") rest (tokens.Punct 41) says (omega arith) refl refl refl more

pub open_square_next : (whole rest : List ℕ) (says : List Say) → Lexes whole rest says → Lexes whole (91 ∷ rest) ((tokens.Punct 91, codes "[") ∷ says)
unfolding token_at name_more closing hex_number gap
open_square_next whole rest says more = word whole (codes "[") rest (tokens.Punct 91) says (omega arith) refl refl refl more

pub close_square_next : (whole rest : List ℕ) (says : List Say) → Lexes whole rest says → Lexes whole (93 ∷ rest) ((tokens.Punct 93, codes "]") ∷ says)
unfolding token_at name_more closing hex_number gap
close_square_next whole rest says more = word whole (codes "]") rest (tokens.Punct 93) says (omega arith) refl refl refl more

-- ---- words

-- a kind, and then a blank
pub kind_space : (whole rest : List ℕ) (says : List Say) (kind : Kind) → Lexes whole (32 ∷ rest) says → Lexes whole (kind_word kind ++ (32 ∷ rest)) ((tokens.Name, kind_word kind) ∷ says)
unfolding token_at name_more closing hex_number gap
kind_space whole rest says kinds.Default more = word whole (codes "default") (32 ∷ rest) tokens.Name says (omega arith) refl refl refl more
kind_space whole rest says kinds.Int more = word whole (codes "int") (32 ∷ rest) tokens.Name says (omega arith) refl refl refl more
kind_space whole rest says kinds.Text more = word whole (codes "string") (32 ∷ rest) tokens.Name says (omega arith) refl refl refl more
kind_space whole rest says kinds.Bool more = word whole (codes "bool") (32 ∷ rest) tokens.Name says (omega arith) refl refl refl more
kind_space whole rest says kinds.Time more = word whole (codes "dateTime") (32 ∷ rest) tokens.Name says (omega arith) refl refl refl more
kind_space whole rest says kinds.Uid more = word whole (codes "uid") (32 ∷ rest) tokens.Name says (omega arith) refl refl refl more

-- a kind, and then `]`
pub kind_square : (whole rest : List ℕ) (says : List Say) (kind : Kind) → Lexes whole (93 ∷ rest) says → Lexes whole (kind_word kind ++ (93 ∷ rest)) ((tokens.Name, kind_word kind) ∷ says)
unfolding token_at name_more closing hex_number gap
kind_square whole rest says kinds.Default more = word whole (codes "default") (93 ∷ rest) tokens.Name says (omega arith) refl refl refl more
kind_square whole rest says kinds.Int more = word whole (codes "int") (93 ∷ rest) tokens.Name says (omega arith) refl refl refl more
kind_square whole rest says kinds.Text more = word whole (codes "string") (93 ∷ rest) tokens.Name says (omega arith) refl refl refl more
kind_square whole rest says kinds.Bool more = word whole (codes "bool") (93 ∷ rest) tokens.Name says (omega arith) refl refl refl more
kind_square whole rest says kinds.Time more = word whole (codes "dateTime") (93 ∷ rest) tokens.Name says (omega arith) refl refl refl more
kind_square whole rest says kinds.Uid more = word whole (codes "uid") (93 ∷ rest) tokens.Name says (omega arith) refl refl refl more

-- a tokenizer, and then `,`
pub tokenizer_comma : (whole rest : List ℕ) (says : List Say) (tokenizer : Tokenizer) → Lexes whole (44 ∷ rest) says → Lexes whole (tokenizer_word tokenizer ++ (44 ∷ rest)) ((tokens.Name, tokenizer_word tokenizer) ∷ says)
unfolding token_at name_more closing hex_number gap
tokenizer_comma whole rest says tokenizers.Exact more = word whole (codes "exact") (44 ∷ rest) tokens.Name says (omega arith) refl refl refl more
tokenizer_comma whole rest says tokenizers.Hash more = word whole (codes "hash") (44 ∷ rest) tokens.Name says (omega arith) refl refl refl more
tokenizer_comma whole rest says tokenizers.Term more = word whole (codes "term") (44 ∷ rest) tokens.Name says (omega arith) refl refl refl more
tokenizer_comma whole rest says tokenizers.Trigram more = word whole (codes "trigram") (44 ∷ rest) tokens.Name says (omega arith) refl refl refl more
tokenizer_comma whole rest says tokenizers.Int more = word whole (codes "int") (44 ∷ rest) tokens.Name says (omega arith) refl refl refl more
tokenizer_comma whole rest says tokenizers.Bool more = word whole (codes "bool") (44 ∷ rest) tokens.Name says (omega arith) refl refl refl more
tokenizer_comma whole rest says tokenizers.Year more = word whole (codes "year") (44 ∷ rest) tokens.Name says (omega arith) refl refl refl more
tokenizer_comma whole rest says tokenizers.Month more = word whole (codes "month") (44 ∷ rest) tokens.Name says (omega arith) refl refl refl more
tokenizer_comma whole rest says tokenizers.Day more = word whole (codes "day") (44 ∷ rest) tokens.Name says (omega arith) refl refl refl more
tokenizer_comma whole rest says tokenizers.Hour more = word whole (codes "hour") (44 ∷ rest) tokens.Name says (omega arith) refl refl refl more

-- a tokenizer, and then `)`
pub tokenizer_close : (whole rest : List ℕ) (says : List Say) (tokenizer : Tokenizer) → Lexes whole (41 ∷ rest) says → Lexes whole (tokenizer_word tokenizer ++ (41 ∷ rest)) ((tokens.Name, tokenizer_word tokenizer) ∷ says)
unfolding token_at name_more closing hex_number gap
tokenizer_close whole rest says tokenizers.Exact more = word whole (codes "exact") (41 ∷ rest) tokens.Name says (omega arith) refl refl refl more
tokenizer_close whole rest says tokenizers.Hash more = word whole (codes "hash") (41 ∷ rest) tokens.Name says (omega arith) refl refl refl more
tokenizer_close whole rest says tokenizers.Term more = word whole (codes "term") (41 ∷ rest) tokens.Name says (omega arith) refl refl refl more
tokenizer_close whole rest says tokenizers.Trigram more = word whole (codes "trigram") (41 ∷ rest) tokens.Name says (omega arith) refl refl refl more
tokenizer_close whole rest says tokenizers.Int more = word whole (codes "int") (41 ∷ rest) tokens.Name says (omega arith) refl refl refl more
tokenizer_close whole rest says tokenizers.Bool more = word whole (codes "bool") (41 ∷ rest) tokens.Name says (omega arith) refl refl refl more
tokenizer_close whole rest says tokenizers.Year more = word whole (codes "year") (41 ∷ rest) tokens.Name says (omega arith) refl refl refl more
tokenizer_close whole rest says tokenizers.Month more = word whole (codes "month") (41 ∷ rest) tokens.Name says (omega arith) refl refl refl more
tokenizer_close whole rest says tokenizers.Day more = word whole (codes "day") (41 ∷ rest) tokens.Name says (omega arith) refl refl refl more
tokenizer_close whole rest says tokenizers.Hour more = word whole (codes "hour") (41 ∷ rest) tokens.Name says (omega arith) refl refl refl more

-- `@index`, and then `(`
pub index_next : (whole rest : List ℕ) (says : List Say) → Lexes whole (40 ∷ rest) says → Lexes whole (codes "@index" ++ (40 ∷ rest)) ((tokens.At, codes "@index") ∷ says)
unfolding token_at name_more closing hex_number gap
index_next whole rest says more = word whole (codes "@index") (40 ∷ rest) tokens.At says (omega arith) refl refl refl more

-- `@reverse`, and then a blank
pub reverse_next : (whole rest : List ℕ) (says : List Say) → Lexes whole (32 ∷ rest) says → Lexes whole (codes "@reverse" ++ (32 ∷ rest)) ((tokens.At, codes "@reverse") ∷ says)
unfolding token_at name_more closing hex_number gap
reverse_next whole rest says more = word whole (codes "@reverse") (32 ∷ rest) tokens.At says (omega arith) refl refl refl more

-- `@count`, and then a blank
pub count_next : (whole rest : List ℕ) (says : List Say) → Lexes whole (32 ∷ rest) says → Lexes whole (codes "@count" ++ (32 ∷ rest)) ((tokens.At, codes "@count") ∷ says)
unfolding token_at name_more closing hex_number gap
count_next whole rest says more = word whole (codes "@count") (32 ∷ rest) tokens.At says (omega arith) refl refl refl more

-- `@upsert`, and then a blank
pub upsert_next : (whole rest : List ℕ) (says : List Say) → Lexes whole (32 ∷ rest) says → Lexes whole (codes "@upsert" ++ (32 ∷ rest)) ((tokens.At, codes "@upsert") ∷ says)
unfolding token_at name_more closing hex_number gap
upsert_next whole rest says more = word whole (codes "@upsert") (32 ∷ rest) tokens.At says (omega arith) refl refl refl more

-- ---- what a line says, and then more

-- a type
abbrev pub type_says : Kind → Bool → List Say → List Say
type_says kind false more = (tokens.Name, kind_word kind) ∷ more
type_says kind true more = (tokens.Punct 91, codes "[") ∷ (tokens.Name, kind_word kind) ∷ (tokens.Punct 93, codes "]") ∷ more

-- the tokenizers behind the first
abbrev pub others_say : List Tokenizer → List Say → List Say
others_say [] more = more
others_say (tokenizer ∷ others) more = (tokens.Punct 44, codes ",") ∷ (tokens.Name, tokenizer_word tokenizer) ∷ others_say others more

-- an index, where there is one
abbrev pub index_says : List Tokenizer → List Say → List Say
index_says [] more = more
index_says (first ∷ others) more = (tokens.At, codes "@index") ∷ (tokens.Punct 40, codes "(") ∷ (tokens.Name, tokenizer_word first) ∷ others_say others ((tokens.Punct 41, codes ")") ∷ more)

-- a directive where it holds
abbrev pub flag_says : Bool → List ℕ → List Say → List Say
flag_says true text more = (tokens.At, text) ∷ more
flag_says false text more = more

-- the directives behind the index, and the point
abbrev pub flags_say : Bool → Bool → Bool → List Say → List Say
flags_say reverse count upsert more = flag_says reverse (codes "@reverse") (flag_says count (codes "@count") (flag_says upsert (codes "@upsert") ((tokens.Punct 46, codes ".") ∷ more)))

-- the line of a definition
abbrev pub line_says : PredDef → List Say → List Say
line_says d more = (tokens.Name, d.name) ∷ (tokens.Punct 58, codes ":") ∷ type_says d.kind d.list (index_says d.tokens (flags_say d.reverse d.count d.upsert more))

-- the lines of definitions
abbrev pub lines_say : List PredDef → List Say
lines_say [] = []
lines_say (d ∷ more) = line_says d (lines_say more)

-- ---- what a line prints, and then more

-- a text that begins with a blank
abbrev pub IsSpaced : List ℕ → Type 0
IsSpaced text = text ≡ 32 ∷ drop 1 text

-- the directives behind the index, and the point
abbrev flags_text : Bool → Bool → Bool → List ℕ → List ℕ
flags_text reverse count upsert more = where_so reverse (codes " @reverse") ++ (where_so count (codes " @count") ++ (where_so upsert (codes " @upsert") ++ (codes " .\n" ++ more)))

flags_spaced : (reverse count upsert : Bool) (more : List ℕ) → IsSpaced (flags_text reverse count upsert more)
flags_spaced true count upsert more = refl
flags_spaced false true upsert more = refl
flags_spaced false false true more = refl
flags_spaced false false false more = refl

flags_lex : (whole more : List ℕ) (says : List Say) (reverse count upsert : Bool) → Lexes whole more says → Lexes whole (flags_text reverse count upsert more) (flags_say reverse count upsert says)
flags_lex whole more says reverse count upsert f = first reverse (second count (third upsert point))
  where
    point : Lexes whole (codes " .\n" ++ more) ((tokens.Punct 46, codes ".") ∷ says)
    point = space whole (46 ∷ 10 ∷ more) _ (dot_next whole (10 ∷ more) says (feed whole more says f))

    third : (b : Bool) → Lexes whole (codes " .\n" ++ more) ((tokens.Punct 46, codes ".") ∷ says) → Lexes whole (where_so b (codes " @upsert") ++ (codes " .\n" ++ more)) (flag_says b (codes "@upsert") ((tokens.Punct 46, codes ".") ∷ says))
    third true l = space whole _ _ (upsert_next whole (46 ∷ 10 ∷ more) _ l)
    third false l = l

    second : (b : Bool) → Lexes whole (flags_text false false upsert more) (flags_say false false upsert says) → Lexes whole (flags_text false b upsert more) (flags_say false b upsert says)
    second true l = space whole _ _ (spaced upsert l)
      where
        spaced : (u : Bool) → Lexes whole (flags_text false false u more) (flags_say false false u says) → Lexes whole (codes "@count" ++ flags_text false false u more) ((tokens.At, codes "@count") ∷ flags_say false false u says)
        spaced true l = count_next whole _ _ l
        spaced false l = count_next whole _ _ l
    second false l = l

    first : (b : Bool) → Lexes whole (flags_text false count upsert more) (flags_say false count upsert says) → Lexes whole (flags_text b count upsert more) (flags_say b count upsert says)
    first true l = space whole _ _ (spaced count upsert l)
      where
        spaced : (c u : Bool) → Lexes whole (flags_text false c u more) (flags_say false c u says) → Lexes whole (codes "@reverse" ++ flags_text false c u more) ((tokens.At, codes "@reverse") ∷ flags_say false c u says)
        spaced true u l = reverse_next whole _ _ l
        spaced false true l = reverse_next whole _ _ l
        spaced false false l = reverse_next whole _ _ l
    first false l = l

others_lex : (whole more : List ℕ) (says : List Say) (first : Tokenizer) (others : List Tokenizer) → Lexes whole (41 ∷ more) says → Lexes whole (tokenizer_word first ++ (flat_map next_text others ++ (41 ∷ more))) ((tokens.Name, tokenizer_word first) ∷ others_say others says)
others_lex whole more says first [] f = tokenizer_close whole more says first f
others_lex whole more says first (second ∷ others) f =
    let rest : Lexes whole (tokenizer_word second ++ (flat_map next_text others ++ (41 ∷ more))) ((tokens.Name, tokenizer_word second) ∷ others_say others says) = others_lex whole more says second others f in
    let comma : Lexes whole (44 ∷ 32 ∷ (tokenizer_word second ++ (flat_map next_text others ++ (41 ∷ more)))) ((tokens.Punct 44, codes ",") ∷ (tokens.Name, tokenizer_word second) ∷ others_say others says) = comma_next whole _ _ (space whole _ _ rest) in
    let joined = append_assoc (tokenizer_word second) (flat_map next_text others) (41 ∷ more) in
    subst (λ (text : List ℕ). Lexes whole (tokenizer_word first ++ (44 ∷ 32 ∷ text)) ((tokens.Name, tokenizer_word first) ∷ (tokens.Punct 44, codes ",") ∷ (tokens.Name, tokenizer_word second) ∷ others_say others says)) (sym joined)
    (tokenizer_comma whole _ _ first comma)

-- an index, and then more
abbrev index_then : List Tokenizer → List ℕ → List ℕ
index_then listed more = index_text listed ++ more

index_spaced : (listed : List Tokenizer) (more : List ℕ) → IsSpaced more → IsSpaced (index_then listed more)
index_spaced [] more s = s
index_spaced (first ∷ others) more s = refl

index_lex : (whole more : List ℕ) (says : List Say) (listed : List Tokenizer) → Lexes whole more says → Lexes whole (index_then listed more) (index_says listed says)
index_lex whole more says [] f = f
index_lex whole more says (first ∷ others) f =
    let close : Lexes whole (41 ∷ more) ((tokens.Punct 41, codes ")") ∷ says) = close_round_next whole more says f in
    let listed = space whole _ _ (index_next whole _ _ (open_round_next whole _ _ (others_lex whole more _ first others close))) in
    let inner : (flat_map next_text others ++ codes ")") ++ more ≡ flat_map next_text others ++ (41 ∷ more) = append_assoc (flat_map next_text others) (codes ")") more in
    let joined : (tokenizer_word first ++ (flat_map next_text others ++ codes ")")) ++ more ≡ tokenizer_word first ++ (flat_map next_text others ++ (41 ∷ more)) = append_assoc (tokenizer_word first) (flat_map next_text others ++ codes ")") more ∙ ap (λ (text : List ℕ). tokenizer_word first ++ text) inner in
    subst (λ (text : List ℕ). Lexes whole (codes " @index(" ++ text) (index_says (first ∷ others) says)) (sym joined) listed

type_lex : (whole more : List ℕ) (says : List Say) (kind : Kind) (list : Bool) → IsSpaced more → Lexes whole more says → Lexes whole (type_text kind list ++ more) (type_says kind list says)
type_lex whole more says kind false s f =
    subst (λ (text : List ℕ). Lexes whole (kind_word kind ++ text) ((tokens.Name, kind_word kind) ∷ says)) (sym s)
    (kind_space whole (drop 1 more) says kind (subst (λ (text : List ℕ). Lexes whole text says) s f))
type_lex whole more says kind true s f =
    let listed = open_square_next whole _ _ (kind_square whole more _ kind (close_square_next whole more says f)) in
    subst (λ (text : List ℕ). Lexes whole (91 ∷ text) (type_says kind true says)) (sym (append_assoc (kind_word kind) (codes "]") more)) listed

-- ---- names

-- a byte that passes isn't one that doesn't
apart : (f : ℕ → Bool) (b c : ℕ) → f b ≡ true → f c ≡ false → (b == c) ≡ false
apart f b c h k = by (b == c) refl
  where
    by : (v : Bool) → (b == c) ≡ v → v ≡ false
    by true e = let same : b ≡ c = eqb-true b c e in absurd (cc (ap f same))
    by false e = refl

apart_turned : (f : ℕ → Bool) (b c : ℕ) → f b ≡ true → f c ≡ false → (c == b) ≡ false
apart_turned f b c h k = by (c == b) refl
  where
    by : (v : Bool) → (c == b) ≡ v → v ≡ false
    by true e = let same : c ≡ b = eqb-true c b e in absurd (cc (ap f same))
    by false e = refl

no_digit : (b : ℕ) → is_letter b ≡ true → is_ascii_digit b ≡ false
no_digit b l = grind arith

no_punct : (b : ℕ) → is_letter b ≡ true → is_punct_byte b ≡ false
no_punct b l =
    rw (apart_turned is_letter b 123 l refl, apart_turned is_letter b 125 l refl, apart_turned is_letter b 40 l refl, apart_turned is_letter b 41 l refl, apart_turned is_letter b 91 l refl, apart_turned is_letter b 93 l refl, apart_turned is_letter b 44 l refl, apart_turned is_letter b 58 l refl, apart_turned is_letter b 46 l refl, apart_turned is_letter b 126 l refl, apart_turned is_letter b 42 l refl) refl

no_gap : (b : ℕ) (rest : List ℕ) → is_letter b ≡ true → gap false (b ∷ rest) ≡ 0
unfolding gap
no_gap b rest l = rw (apart is_letter b 32 l refl, apart is_letter b 9 l refl, apart is_letter b 13 l refl, apart is_letter b 10 l refl, apart is_letter b 35 l refl) refl

pub more_goes : (b : ℕ) (rest : List ℕ) → goes_on (b ∷ rest) ≡ true → name_more (b ∷ rest) ≡ 1 + name_more rest
unfolding name_more
more_goes b rest g = rw g refl

pub more_ends : (b : ℕ) (rest : List ℕ) → goes_on (b ∷ rest) ≡ false → name_more (b ∷ rest) ≡ 0
unfolding name_more
more_ends b rest g = rw g refl

-- a Name goes on before a colon as it does at its end
still_goes : (c : ℕ) (w rest : List ℕ) → goes_on (c ∷ w) ≡ true → goes_on (c ∷ (w ++ 58 ∷ rest)) ≡ true
still_goes c [] rest g = g
still_goes c (d ∷ w) rest g = g

name_before_colon : (w rest : List ℕ) → name_more w ≡ length w → name_more (w ++ 58 ∷ rest) ≡ length w
name_before_colon [] rest e = more_ends 58 rest refl
name_before_colon (c ∷ w) rest e = by (goes_on (c ∷ w)) refl (λ h. name_before_colon w rest h)
  where
    by : (v : Bool) → goes_on (c ∷ w) ≡ v → (name_more w ≡ length w → name_more (w ++ 58 ∷ rest) ≡ length w) → name_more (c ∷ (w ++ 58 ∷ rest)) ≡ suc (length w)
    by true g further =
        let one : 1 + name_more w ≡ suc (length w) = sym (more_goes c w g) ∙ e in
        let rest_is : name_more (w ++ 58 ∷ rest) ≡ length w = further (omega arith) in
        more_goes c (w ++ 58 ∷ rest) (still_goes c w rest g) ∙ omega arith
    by false g further = let none : 0 ≡ suc (length w) = sym (more_ends c w g) ∙ e in absurd (omega arith)

-- no colon and word behind a first `_`
no_blank_word : (w rest : List ℕ) → name_more w ≡ length w → colon_word (w ++ 58 ∷ 32 ∷ rest) ≡ 0
no_blank_word [] rest e = refl
no_blank_word (c ∷ w) rest e = by (goes_on (c ∷ w)) refl
  where
    by : (v : Bool) → goes_on (c ∷ w) ≡ v → colon_word (c ∷ (w ++ 58 ∷ 32 ∷ rest)) ≡ 0
    by true g = rw (no_colon g) refl
      where
        -- no name goes on with a colon
        no_colon : goes_on (c ∷ w) ≡ true → (c == 58) ≡ false
        no_colon g = apart (λ b. goes_on (b ∷ w)) c 58 g refl
    by false g = let none : 0 ≡ suc (length w) = sym (more_ends c w g) ∙ e in absurd (omega arith)

no_blank : (b : ℕ) (text : List ℕ) → colon_word text ≡ 0 → blank_len (b ∷ text) ≡ 0
no_blank b text e = by (b == 95)
  where
    by : (v : Bool) → cond v (cond (colon_word text == 0) 0 (1 + colon_word text)) 0 ≡ 0
    by true = rw e refl
    by false = refl

not_below_none : (n : ℕ) → nat_lt n 0 ≡ false
not_below_none n = grind arith

-- what isn't there is no longer form
kept : (t : Sized) (kind : TokenKind) (n : ℕ) → n ≡ 0 → longer t (kind, n) ≡ t
kept t kind n e = ap (λ (m : ℕ). longer t (kind, m)) e ∙ rw (not_below_none t.1) refl

no_int : (b : ℕ) (text : List ℕ) → is_letter b ≡ true → int_len (b ∷ text) ≡ 0
no_int b text l = rw (apart is_letter b 45 l refl, no_digit b l) refl

no_uid : (b : ℕ) (text : List ℕ) → is_letter b ≡ true → uid_len (b ∷ text) ≡ 0
no_uid b text l = rw (apart is_letter b 48 l refl) refl

no_quoted : (b : ℕ) (text : List ℕ) → is_letter b ≡ true → quoted_len (b ∷ text) ≡ 0
no_quoted b text l = rw (apart is_letter b 34 l refl) refl

no_regex : (b : ℕ) (text : List ℕ) → is_letter b ≡ true → regex_len (b ∷ text) ≡ 0
no_regex b text l = rw (apart is_letter b 47 l refl) refl

no_at : (b : ℕ) (text : List ℕ) → is_letter b ≡ true → at_len (b ∷ text) ≡ 0
no_at b text l = rw (apart is_letter b 64 l refl) refl

no_iri : (b : ℕ) (text : List ℕ) → is_letter b ≡ true → iri_len (b ∷ text) ≡ 0
no_iri b text l = rw (apart is_letter b 60 l refl) refl

no_caret : (b : ℕ) (text : List ℕ) → is_letter b ≡ true → caret_len (b ∷ text) ≡ 0
no_caret b text l = rw (apart is_letter b 94 l refl) refl

no_punct_here : (b : ℕ) (text : List ℕ) → is_letter b ≡ true → punct_len (b ∷ text) ≡ 0
no_punct_here b text l = rw (no_punct b l) refl

the_name : (b n : ℕ) (text : List ℕ) → is_letter b ≡ true → name_more text ≡ n → name_len (b ∷ text) ≡ 1 + n
the_name b n text l e = rw (l, e) refl

name_is_longest : (b n : ℕ) (text : List ℕ) → is_letter b ≡ true → blank_len (b ∷ text) ≡ 0 → name_more text ≡ n → longest (b ∷ text) ≡ (tokens.Name, 1 + n)
name_is_longest b n text l blank more =
    let all : List ℕ = b ∷ text in
    let name : Sized = (tokens.Name, name_len all) in
    let int = kept name tokens.Int (int_len all) (no_int b text l) in
    let uid = ap (λ (t : Sized). longer t (tokens.Uid, uid_len all)) int ∙ kept name tokens.Uid (uid_len all) (no_uid b text l) in
    let quoted = ap (λ (t : Sized). longer t (tokens.Quoted, quoted_len all)) uid ∙ kept name tokens.Quoted (quoted_len all) (no_quoted b text l) in
    let regex = ap (λ (t : Sized). longer t (tokens.Regex, regex_len all)) quoted ∙ kept name tokens.Regex (regex_len all) (no_regex b text l) in
    let at = ap (λ (t : Sized). longer t (tokens.At, at_len all)) regex ∙ kept name tokens.At (at_len all) (no_at b text l) in
    let iri = ap (λ (t : Sized). longer t (tokens.Iri, iri_len all)) at ∙ kept name tokens.Iri (iri_len all) (no_iri b text l) in
    let other = ap (λ (t : Sized). longer t (tokens.Blank, blank_len all)) iri ∙ kept name tokens.Blank (blank_len all) blank in
    let caret = ap (λ (t : Sized). longer t (tokens.Caret, caret_len all)) other ∙ kept name tokens.Caret (caret_len all) (no_caret b text l) in
    let punct = ap (λ (t : Sized). longer t (tokens.Punct b, punct_len all)) caret ∙ kept name (tokens.Punct b) (punct_len all) (no_punct_here b text l) in
    punct ∙ ap (λ (k : ℕ). (tokens.Name, k)) (the_name b n text l more)

name_starts : (b : ℕ) (w rest : List ℕ) → is_letter b ≡ true → name_more w ≡ length w → nat_le (1 + length w) 64 ≡ true → token_at (b ∷ (w ++ 58 ∷ 32 ∷ rest)) ≡ Some (tokens.Name, suc (length w))
unfolding token_at
name_starts b w rest l more short =
    let one : 1 + length w ≡ suc (length w) = omega arith in
    let some : ((1 + length w) == 0) ≡ false = grind arith in
    rw (name_is_longest b (length w) (w ++ 58 ∷ 32 ∷ rest) l (no_blank b (w ++ 58 ∷ 32 ∷ rest) (no_blank_word w rest more)) (name_before_colon w (32 ∷ rest) more), short, some) (ap (λ (n : ℕ). Some (tokens.Name, n)) one)

-- a name's first byte is a letter or _, and the others go on with it
pub record IsNamed (b : ℕ) (w : List ℕ) : Type 0 where
  pub first : is_letter b ≡ true
  pub others : name_more w ≡ length w
  pub short : nat_le (1 + length w) 64 ≡ true

named : (b : ℕ) (w : List ℕ) → is_whole_name (b ∷ w) ≡ true → IsNamed b w
named b w e = by (is_letter b) refl e
  where
    front : (x y : Bool) → (x && y) ≡ true → x ≡ true
    front true y h = refl
    front false y h = absurd (cc)

    back : (x y : Bool) → (x && y) ≡ true → y ≡ true
    back true y h = h
    back false y h = absurd (cc)

    parts : (n : ℕ) → (not ((1 + n) == 0) && ((1 + n) == suc (length w)) && nat_le (1 + n) 64) ≡ true → (n ≡ length w) × (nat_le (1 + length w) 64 ≡ true)
    parts n h =
        let short = back (not ((1 + n) == 0) && ((1 + n) == suc (length w))) (nat_le (1 + n) 64) h in
        let same : 1 + n ≡ suc (length w) = eqb-true (1 + n) (suc (length w)) (back (not ((1 + n) == 0)) ((1 + n) == suc (length w)) (front (not ((1 + n) == 0) && ((1 + n) == suc (length w))) (nat_le (1 + n) 64) h)) in
        let so : n ≡ length w = omega arith in
        (so, subst (λ (k : ℕ). nat_le (1 + k) 64 ≡ true) so short)

    by : (v : Bool) → is_letter b ≡ v → (not (cond v (1 + name_more w) 0 == 0) && (cond v (1 + name_more w) 0 == suc (length w)) && nat_le (cond v (1 + name_more w) 0) 64) ≡ true → IsNamed b w
    by true l h = let both = parts (name_more w) h in record { first = l; others = both.0; short = both.1 }
    by false l h = absurd (cc)

name_next : (whole name rest : List ℕ) (says : List Say) → is_whole_name name ≡ true → Lexes whole (58 ∷ 32 ∷ rest) says → Lexes whole (name ++ (58 ∷ 32 ∷ rest)) ((tokens.Name, name) ∷ says)
name_next whole [] rest says e more = absurd (cc)
name_next whole (b ∷ w) rest says e more =
    let n : IsNamed b w = named b w e in
    word whole (b ∷ w) (58 ∷ 32 ∷ rest) tokens.Name says (omega arith) refl (name_starts b w rest n.first n.others n.short) (no_gap b (w ++ 58 ∷ 32 ∷ rest) n.first) more

-- ---- lines

line_lex : (whole more : List ℕ) (says : List Say) (d : PredDef) → IsReadable d → Lexes whole more says → Lexes whole (definition_text d ++ more) (line_says d says)
line_lex whole more says d r f =
    let flags = flags_lex whole more says d.reverse d.count d.upsert f in
    let flags_begin = flags_spaced d.reverse d.count d.upsert more in
    let index = index_lex whole _ _ d.tokens flags in
    let index_begin = index_spaced d.tokens _ flags_begin in
    let shape = type_lex whole _ _ d.kind d.list index_begin index in
    let line = name_next whole d.name _ _ r.named (colon_next whole _ _ (space whole _ _ shape)) in
    subst (λ (text : List ℕ). Lexes whole text (line_says d says)) (sym joined) line
  where
    a : List ℕ
    a = where_so d.reverse (codes " @reverse")

    b : List ℕ
    b = where_so d.count (codes " @count")

    c : List ℕ
    c = where_so d.upsert (codes " @upsert")

    t : List ℕ
    t = type_text d.kind d.list

    x : List ℕ
    x = index_text d.tokens

    joined_flags : (a ++ (b ++ (c ++ codes " .\n"))) ++ more ≡ a ++ (b ++ (c ++ (codes " .\n" ++ more)))
    joined_flags =
        append_assoc a (b ++ (c ++ codes " .\n")) more ∙ ap (λ (z : List ℕ). a ++ z) (append_assoc b (c ++ codes " .\n") more ∙ ap (λ (z : List ℕ). b ++ z) (append_assoc c (codes " .\n") more))

    joined : definition_text d ++ more ≡ d.name ++ (codes ": " ++ (t ++ (x ++ (a ++ (b ++ (c ++ (codes " .\n" ++ more)))))))
    joined =
        append_assoc d.name _ more ∙ ap (λ (z : List ℕ). d.name ++ (codes ": " ++ z)) (append_assoc t _ more ∙ ap (λ (z : List ℕ). t ++ z) (append_assoc x _ more ∙ ap (λ (z : List ℕ). x ++ z) joined_flags))

pub lines_lex : (whole : List ℕ) (definitions : List PredDef) → AreReadable definitions → Lexes whole (flat_map definition_text definitions) (lines_say definitions)
lines_lex whole [] r = nothing whole
lines_lex whole (d ∷ more) r = line_lex whole (flat_map definition_text more) (lines_say more) d r.0 (lines_lex whole more r.1)
