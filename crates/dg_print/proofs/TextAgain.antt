-- The text of a printed query is read again.
use Rattle.std.proofs.Common.{arith, ◌≡◌, ℕ, ◌+◌, ◌==◌, Bool, true, false, List, [], length, ap, refl, ◌∙◌, subst}
use Rattle.std.specs.Prelude.{Option, Some, None, Result, Ok, Err, ◌&&◌, if◌then◌else◌, max}
use Rattle.std.proofs.lemmas.Bool.Decides.{nat_tests}
use Rattle.dg_text.specs.Brackets.{too_deep, deep_from}
use Rattle.dg_text.specs.Cases.{Left, Reader, ended}
use Rattle.dg_text.specs.Lexing.{lexed}
use Rattle.dg_text.specs.Reading.{Read}
use Rattle.dg_text.specs.Tokens.{Tok, toks_of}
use Rattle.dg_text.specs.Written.{Word, written}
use Rattle.dg_text.specs.declared.token.Token.{Token}
use Rattle.dg_text.proofs.WrittenWords.{words_read}
use Rattle.dg_parse.specs.declared.fault.DqlFault.{DqlFault}
use Rattle.dg_parse.specs.Grammar.{query}
use Rattle.dg_print.specs.Laws.{QueryReadsBack}
use Rattle.dg_print.specs.PrintedQuery.{query_words}
use Rattle.dg_parse.specs.Whole.{outcome, shallow, by_tokens}
use Rattle.dg_print.proofs.Again.{Each, Reads, never, at, on}
use Rattle.dg_print.proofs.BlocksAgain.{AreBlocks, at_query, query_reads}
use Rattle.dg_print.proofs.Formed.{AreFormed}
use Rattle.dg_print.proofs.NestedFields as nested
use Rattle.dg_print.proofs.Nesting.{Low, Open, Kept, low_means}
use Rattle.dg_print.proofs.TokensFormed.{tokens_formed, says}

-- ---- what a whole text says was read

-- a text was read to its end
pub record WasRead {A : Type 0} (reader : Reader A) (text : List ℕ) (x : A) : Type 0 where
  pub tokens : List Token
  pub are : lexed text ≡ Ok tokens
  pub shallow : too_deep 32 (toks_of text tokens) ≡ None
  pub left : Left
  pub read : reader (at (toks_of text tokens)) ≡ Ok (x, left)
  pub refused : left.refused ≡ 0

zero_of : (n : ℕ) → (n == 0) ≡ true → n ≡ 0
zero_of n e = grind (arith, nat_tests)

-- what was read to the end
record ToEnd {A : Type 0} (r : Read Left A) (x : A) : Type 0 where
  pub left : Left
  pub read : r ≡ Ok (x, left)
  pub refused : left.refused ≡ 0

end_of : {A : Type 0} (tokens : List Tok) (end : ℕ) (r : Read Left A) (x : A) → outcome tokens end (ended r) ≡ Ok x → ToEnd r x
end_of {A = A} tokens end (Ok p) x e = by (length p.1.tokens == 0) (p.1.refused == 0) refl refl e
  where
    by : (a b : Bool) → (length p.1.tokens == 0) ≡ a → (p.1.refused == 0) ≡ b → ◌≡◌ {A = Result A DqlFault} (outcome tokens end (if a && b then Ok p.0 else Err (max p.1.refused (length p.1.tokens)))) (Ok x) → ToEnd (Ok p) x
    by true true a b e = let same : p.0 ≡ x = cc in record { left = p.1; read = ap (λ (y : A). Ok (y, p.1)) same; refused = zero_of p.1.refused b }
    by true false a b e = absurd (cc)
    by false b a c e = absurd (cc)
end_of tokens end (Err place) x e = absurd (cc)

pub was_read : {A : Type 0} (reader : Reader A) (text : List ℕ) (x : A) → by_tokens reader text (lexed text) ≡ Ok x → WasRead reader text x
was_read {A = A} reader text x e = by (lexed text) refl e
  where
    deep : (tokens : List Token) (o : Option ℕ) → lexed text ≡ Ok tokens → too_deep 32 (toks_of text tokens) ≡ o → shallow reader (toks_of text tokens) (length text) o ≡ Ok x → WasRead reader text x
    deep tokens None k d e =
        let h = end_of (toks_of text tokens) (length text) (reader (at (toks_of text tokens))) x e in
        record { tokens = tokens; are = k; shallow = d; left = h.left; read = h.read; refused = h.refused }
    deep tokens (Some place) k d e = absurd (cc)

    by : (r : Result (List Token) ℕ) → lexed text ≡ r → by_tokens reader text r ≡ Ok x → WasRead reader text x
    by (Ok tokens) k e = deep tokens (too_deep 32 (toks_of text tokens)) k refl e
    by (Err offset) k e = absurd (cc)

-- what holds of what was read
pub of_read : {A : Type 0} (reader : Reader A) (X : A → Left → Type 0) → ((left : Left) → Each left (reader left) X) → (text : List ℕ) (x : A) → (w : WasRead reader text x) → X x w.left
of_read reader X each text x w =
    let formed : AreFormed (toks_of text w.tokens) = tokens_formed text w.tokens w.are in
    let e = subst (λ r. Each (at (toks_of text w.tokens)) r X) w.read (each (at (toks_of text w.tokens))) in
    e.it.so formed w.refused

-- ---- the printed text

-- the tokens of a printed text
pub record Printed (ws : List Word) : Type 0 where
  pub tokens : List Token
  pub are : lexed (written ws) ≡ Ok tokens
  pub places : ℕ → ℕ
  pub on_them : toks_of (written ws) tokens ≡ on places ws []

pub printed : {A : Type 0} {reader : Reader A} {x : A} {ws : List Word} → Reads reader x ws never → Printed ws
printed {ws = ws} r =
    let w = words_read ws r.words in
    let s = says (toks_of (written ws) w.0) ws w.1.1 in
    record { tokens = w.0; are = w.1.0; places = s.places; on_them = s.are }

pub read_again : {A : Type 0} (reader : Reader A) (x : A) (ws : List Word) → Reads reader x ws never → (p : Printed ws) → too_deep 32 (toks_of (written ws) p.tokens) ≡ None → by_tokens reader (written ws) (lexed (written ws)) ≡ Ok x
read_again {A = A} reader x ws r p low =
    let toks : List Tok = toks_of (written ws) p.tokens in
    let read : reader (at toks) ≡ Ok (x, at []) = ap (λ l. reader (at l)) p.on_them ∙ r.again p.places [] refl in
    ap (by_tokens reader (written ws)) p.are
    ∙ ap (shallow reader toks (length (written ws))) low
    ∙ ap (λ (q : Read Left A). outcome toks (length (written ws)) (ended q)) read

-- ---- no bracket of the printed text is too deep

-- what was read, with what it opens
pub opens_low : {A : Type 0} (reader : Reader A) (words_of : A → List Word) → ((left : Left) → Kept 0 0 left (reader left) (λ x. Low 0 (words_of x))) → (text : List ℕ) (x : A) → WasRead reader text x → Low 0 (words_of x)
opens_low reader words_of each text x w =
    let toks : List Tok = toks_of text w.tokens in
    let start : Open 0 toks = record { opened = 0; closed = 0; level = refl; few = w.shallow } in
    let e = subst (λ r. Kept 0 0 (at toks) r (λ x. Low 0 (words_of x))) w.read (each (at toks)) in
    (e.it start).1

nothing_deep : (c : ℕ) → deep_from 32 (c + 0) c [] ≡ None
unfolding deep_from
nothing_deep c = refl

pub printed_low : (ws : List Word) → Low 0 ws → (p : Printed ws) → too_deep 32 (toks_of (written ws) p.tokens) ≡ None
printed_low ws l p = ap (λ ts. too_deep 32 ts) p.on_them ∙ low_means 0 ws l (omega arith) p.places [] nothing_deep 0

pub query_back : QueryReadsBack
query_back text q e =
    let w = was_read query text q e in
    let blocks : AreBlocks q.blocks = of_read query (λ q l. AreBlocks q.blocks) at_query text q w in
    let r : Reads query q (query_words q) never = query_reads q blocks in
    let p : Printed (query_words q) = printed r in
    read_again query q (query_words q) r p (printed_low (query_words q) (opens_low query query_words nested.at_query text q w) p)
