-- The tokens of a text.
use Rattle.std.proofs.Common.{◌≡◌, ◌↔◌, ℕ, zero, suc, ◌+◌, ◌-◌, ◌≤◌, ◌<◌, true, false, List, [], ◌∷◌, ◌++◌, length, drop, length-append, length-drop, append_assoc, append-nil, refl, sym, ap, subst, ◌∙◌, arith}
use Rattle.std.specs.Prelude.{Option, Some, None, Result, Ok, Err, is_some}
use Rattle.std.specs.List.{concat}
use Rattle.std.proofs.lemmas.List.{drop_all}
use Rattle.dg_text.specs.declared.token.Token.{Token}
use Rattle.dg_text.specs.Reading.{Read, turns, repeated}
use Rattle.dg_text.specs.Forms.{Sized, token_at}
use Rattle.dg_text.specs.Lexing.{skip_gap, token, token_starts, front, all_of, lexed}
use Rattle.dg_text.specs.Tokenized.{Starts, IsGap, TokensFrom, TokensOf, StopsAt}
use Rattle.dg_text.proofs.Turns.{stops}
use Rattle.dg_text.proofs.FirstToken.{finds_token, finds_none}
use Rattle.dg_text.proofs.Gaps.{past, gap_leaves, gap_is}

abbrev Reads : Type 0
Reads = Read (List ℕ) (List Token)

-- ---- the tokens are read

turn : (n size : ℕ) (before after : List Token) (left rest : List ℕ) → token_starts left ≡ true → token size before left ≡ Ok (after, rest)
    → turns (suc n) token_starts (token size) before left ≡ turns n token_starts (token size) after rest
unfolding turns
turn n size before after left rest b e = rw (b, e) refl

first_of : ℕ → List ℕ → Sized → Token
first_of size left t = record { kind = t.0; start = size - length left; end = (size - length left) + t.1 }

token_read : (size : ℕ) (before : List Token) (left : List ℕ) (t : Sized) → token_at left ≡ Some t → token size before left ≡ Ok (before ++ first_of size left t ∷ [], past (drop t.1 left))
unfolding token skip_gap first_of
token_read size before left t e = rw e refl

first_is : (size : ℕ) (left : List ℕ) (t : Token) (len : ℕ) → t.start ≡ size - length left → t.end ≡ t.start + len → first_of size left (t.kind, len) ≡ t
unfolding first_of
first_is size left t len s e =
    let f : (size - length left) + len ≡ t.end = ap (λ (k : ℕ). k + len) (sym s) ∙ sym e in
    let g : size - length left ≡ t.start = sym s in
    λ i. record { kind = t.kind; start = g i; end = f i }

gap_short : (text rest : List ℕ) → IsGap text rest → length rest ≤ length text
gap_short text rest g = omega (arith, ap length g.is, length-append (concat g.pieces) (g.last ++ rest), length-append g.last rest)

pub tokens_read : (tokens : List Token) (n size : ℕ) (before : List Token) (left end : List ℕ) → length left ≤ n → TokensFrom size tokens end left
    → turns n token_starts (token size) before left ≡ Ok (before ++ tokens, end)
tokens_read [] n size before left end le f =
    let none : token_starts left ≡ false = ap is_some ((finds_none left).1 f.1) in
    let all : ◌≡◌ {A = Reads} (Ok (before, left)) (Ok (before ++ [], end)) = (λ i. Ok (sym (append-nil before) i, f.0 i)) in
    stops token_starts (token size) n before left (turns n token_starts (token size) before left) none refl ∙ all
tokens_read (t ∷ more) zero size before left end le f = absurd (omega (arith, le, f.starts.some, f.starts.within))
tokens_read (t ∷ more) (suc n) size before left end le f =
    let found : token_at left ≡ Some (t.kind, f.len) = (finds_token left (t.kind, f.len)).1 f.starts in
    let rest : past (drop f.len left) ≡ f.rest = sym (gap_leaves (drop f.len left) f.rest f.gap) in
    let first : first_of size left (t.kind, f.len) ≡ t = first_is size left t f.len f.start f.end in
    let part : ◌≡◌ {A = Reads} (Ok (before ++ first_of size left (t.kind, f.len) ∷ [], past (drop f.len left))) (Ok (before ++ t ∷ [], f.rest)) = (λ i. Ok (before ++ first i ∷ [], rest i)) in
    let read : token size before left ≡ Ok (before ++ t ∷ [], f.rest) = token_read size before left (t.kind, f.len) found ∙ part in
    let less : length f.rest ≤ n = omega (arith, le, gap_short (drop f.len left) f.rest f.gap, length-drop f.len left, f.starts.some, f.starts.within) in
    turn n size before (before ++ t ∷ []) left f.rest (ap is_some found) read
    ∙ tokens_read more n size (before ++ t ∷ []) f.rest end less f.more
    ∙ ap (λ (all : List Token). Ok (all, end)) (append_assoc before (t ∷ []) more)

front_read : (text : List ℕ) → front text ≡ turns (length (past text)) token_starts (token (length text)) [] (past text)
unfolding front skip_gap
front_read text = refl

pub front_is : (text : List ℕ) (tokens : List Token) (end : List ℕ) → TokensOf text tokens end → front text ≡ Ok (tokens, end)
front_is text tokens end o =
    let from : TokensFrom (length text) tokens end (past text) = subst (TokensFrom (length text) tokens end) (gap_leaves text o.rest o.gap) o.from in
    front_read text ∙ tokens_read tokens (length (past text)) (length text) [] (past text) end (omega arith) from

-- ---- each text has tokens

record HasTokens (size : ℕ) (left : List ℕ) : Type 0 where
  pub tokens : List Token
  pub end : List ℕ
  pub from : TokensFrom size tokens end left

-- the first token, and those after it
first_and_rest : (size : ℕ) (left : List ℕ) (t : Sized) → Starts left t → HasTokens size (past (drop t.1 left)) → HasTokens size left
first_and_rest size left t s h = record {
  tokens = record { kind = t.0; start = size - length left; end = (size - length left) + t.1 } ∷ h.tokens;
  end = h.end;
  from = record { len = t.1; rest = past (drop t.1 left); starts = s; start = refl; end = refl; gap = gap_is (drop t.1 left); more = h.from };
}

no_tokens : (size : ℕ) (left : List ℕ) → token_at left ≡ None → HasTokens size left
no_tokens size left e = record { tokens = []; end = left; from = (refl, (finds_none left).0 e) }

has_tokens : (n size : ℕ) (left : List ℕ) → length left ≤ n → HasTokens size left
has_tokens zero size left le = by (token_at left) refl
  where
    by : (o : Option Sized) → token_at left ≡ o → HasTokens size left
    by None e = no_tokens size left e
    by (Some t) e = absurd (let s = (finds_token left t).0 e in omega (arith, le, s.some, s.within))
has_tokens (suc n) size left le = by (token_at left) refl (has_tokens n size)
  where
    by : (o : Option Sized) → token_at left ≡ o → ((more : List ℕ) → length more ≤ n → HasTokens size more) → HasTokens size left
    by None e again = no_tokens size left e
    by (Some t) e again =
        let s = (finds_token left t).0 e in
        let behind : List ℕ = drop t.1 left in
        let short : length (past behind) ≤ length behind = gap_short behind (past behind) (gap_is behind) in
        let cut : length behind ≡ length left - t.1 = length-drop t.1 left in
        first_and_rest size left t s (again (past behind) (omega (arith, le, s.some, s.within, cut, short)))

record AllTokens (text : List ℕ) : Type 0 where
  pub tokens : List Token
  pub end : List ℕ
  pub are : TokensOf text tokens end
  pub read : front text ≡ Ok (tokens, end)

all_tokens : (text : List ℕ) → AllTokens text
all_tokens text =
    let h = has_tokens (length (past text)) (length text) (past text) (omega arith) in
    let o : TokensOf text h.tokens h.end = record { rest = past text; gap = gap_is text; from = h.from } in
    record { tokens = h.tokens; end = h.end; are = o; read = front_is text h.tokens h.end o }

-- ---- what is read are the tokens

tokens_or : List Token → Reads → List Token
tokens_or d (Ok x) = x.0
tokens_or d (Err place) = d

end_or : List ℕ → Reads → List ℕ
end_or d (Ok x) = x.1
end_or d (Err place) = d

same_tokens : (text : List ℕ) (ts us : List Token) (d e : List ℕ) → ◌≡◌ {A = Reads} (Ok (ts, d)) (Ok (us, e)) → TokensOf text ts d → TokensOf text us e
unfolding tokens_or end_or
same_tokens text ts us d e h o = subst (λ (ws : List Token). TokensOf text ws e) (ap (tokens_or ts) h) (subst (TokensOf text ts) (ap (end_or d) h) o)

pub tokens_are : (text : List ℕ) (tokens : List Token) (end : List ℕ) → front text ≡ Ok (tokens, end) → TokensOf text tokens end
tokens_are text tokens end e =
    let a = all_tokens text in
    same_tokens text a.tokens tokens a.end end (sym a.read ∙ e) a.are

-- what is read from the front of a text are its tokens
pub front_tokens : (text : List ℕ) (tokens : List Token) (end : List ℕ) → (front text ≡ Ok (tokens, end)) ↔ TokensOf text tokens end
front_tokens text tokens end = (tokens_are text tokens end, front_is text tokens end)

-- each text is read
pub front_reads : (text : List ℕ) → (tokens : List Token) × ((end : List ℕ) × (front text ≡ Ok (tokens, end)))
front_reads text = let a = all_tokens text in (a.tokens, (a.end, a.read))

-- ---- the whole text

ok_same : (ts us : List Token) → ◌≡◌ {A = Result (List Token) ℕ} (Ok ts) (Ok us) → ts ≡ us
ok_same ts us e = cc

err_same : (n m : ℕ) → ◌≡◌ {A = Result (List Token) ℕ} (Err n) (Err m) → n ≡ m
err_same n m e = cc

lexed_of : (text : List ℕ) (tokens : List Token) (end : List ℕ) → front text ≡ Ok (tokens, end) → lexed text ≡ all_of (length text) (Ok (tokens, end))
lexed_of text tokens end e = ap (all_of (length text)) e

to_end : (text : List ℕ) (tokens : List Token) → lexed text ≡ Ok tokens → TokensOf text tokens []
to_end text tokens e = let a = all_tokens text in by a.tokens a.end a.are (sym (lexed_of text a.tokens a.end a.read) ∙ e)
  where
    by : (ts : List Token) (end : List ℕ) → TokensOf text ts end → ◌≡◌ {A = Result (List Token) ℕ} (all_of (length text) (Ok (ts, end))) (Ok tokens) → TokensOf text tokens []
    by ts [] o h = subst (λ (ws : List Token). TokensOf text ws []) (ok_same ts tokens h) o
    by ts (b ∷ end) o h = absurd (cc)

pub lexed_tokens : (text : List ℕ) (tokens : List Token) → (lexed text ≡ Ok tokens) ↔ TokensOf text tokens []
lexed_tokens text tokens = (to_end text tokens, λ o. lexed_of text tokens [] (front_is text tokens [] o))

stops_before : (text : List ℕ) (offset : ℕ) → lexed text ≡ Err offset → StopsAt text offset
stops_before text offset e = let a = all_tokens text in by a.tokens a.end a.are (sym (lexed_of text a.tokens a.end a.read) ∙ e)
  where
    by : (ts : List Token) (end : List ℕ) → TokensOf text ts end → ◌≡◌ {A = Result (List Token) ℕ} (all_of (length text) (Ok (ts, end))) (Err offset) → StopsAt text offset
    by ts [] o h = absurd (cc)
    by ts (b ∷ end) o h = record { tokens = ts; end = b ∷ end; are = o; left = omega arith; place = sym (err_same (length text - length (b ∷ end)) offset h) }

stopped : (text : List ℕ) (offset : ℕ) → StopsAt text offset → lexed text ≡ Err offset
stopped text offset s = lexed_of text s.tokens s.end (front_is text s.tokens s.end s.are) ∙ by s.end s.left s.place
  where
    by : (end : List ℕ) → 0 < length end → offset ≡ length text - length end → all_of (length text) (Ok (s.tokens, end)) ≡ Err offset
    by [] some e = absurd (omega (arith, some))
    by (b ∷ end) some e = ap (λ (k : ℕ). Err k) (sym e)

pub lexed_stops : (text : List ℕ) (offset : ℕ) → (lexed text ≡ Err offset) ↔ StopsAt text offset
lexed_stops text offset = (stops_before text offset, stopped text offset)

-- ---- as a program reads them, by places

-- the front is what is read after the first gap
front_after : (text : List ℕ) (first : ℕ) (read : Reads) → skip_gap text ≡ Ok (tt, drop first text) → repeated token_starts (token (length text)) [] (drop first text) ≡ read → front text ≡ read
unfolding front
front_after text first read g e = rw g e

-- what was read up to a place
pub read_tokens : (text : List ℕ) (first end : ℕ) (tokens : List Token) → skip_gap text ≡ Ok (tt, drop first text)
    → repeated token_starts (token (length text)) [] (drop first text) ≡ Ok (tokens, drop end text) → TokensOf text tokens (drop end text)
read_tokens text first end tokens g e = tokens_are text tokens (drop end text) (front_after text first (Ok (tokens, drop end text)) g e)

-- all was read
pub read_all : (bytes : List ℕ) (tokens : List Token) (at : ℕ) → length bytes ≤ at → TokensOf bytes tokens (drop at bytes) → TokensOf bytes tokens []
read_all bytes tokens at le o = subst (TokensOf bytes tokens) (drop_all at bytes le) o

-- a byte is left
pub read_part : (bytes : List ℕ) (tokens : List Token) (at : ℕ) → at < length bytes → TokensOf bytes tokens (drop at bytes) → StopsAt bytes at
read_part bytes tokens at lt o = record { tokens = tokens; end = drop at bytes; are = o; left = omega (arith, length-drop at bytes, lt); place = omega (arith, length-drop at bytes, lt) }
