-- A text is read as definitions exactly where its tokens are those of their statements.
use Rattle.std.proofs.Common.{◌≡◌, ◌↔◌, ℕ, ◌-◌, ◌==◌, ◌&&◌, Bool, true, false, List, [], ◌∷◌, length, refl, sym, ap, subst, ◌∙◌, arith}
use Rattle.std.specs.Prelude.{Result, Ok, Err, if◌then◌else◌}
use Rattle.std.proofs.lemmas.Grind.{common_steps}
use Rattle.dg_text.specs.declared.token.Token.{Token}
use Rattle.dg_text.specs.Lexing.{front, skip_gap, gap}
use Rattle.dg_text.specs.Places.{offset_of}
use Rattle.dg_text.specs.Reading.{Read, turns}
use Rattle.dg_text.specs.Tokens.{Tok, toks_of}
use Rattle.dg_text.proofs.TokenLists.{front_is, front_reads, tokens_are}
use Rattle.dg_schema.specs.declared.definition.PredDef.{PredDef}
use Rattle.dg_schema.specs.Grammar.{statements}
use Rattle.dg_schema.specs.Laws.{IsListed}
use Rattle.dg_schema.specs.Whole.{schema, from_front, outcome, line_at}
use Rattle.dg_schema.proofs.BackAgain.{whole_read}
use Rattle.dg_schema.proofs.Listed.{statements_listed}

-- ---- what an outcome says

abbrev value_or : List PredDef → Result (List PredDef) ℕ → List PredDef
value_or d (Ok x) = x
value_or d (Err e) = d

abbrev end_or : List ℕ → Read (List ℕ) (List Token) → List ℕ
end_or d (Ok x) = x.1
end_or d (Err e) = d

both : (a b : Bool) (x : List PredDef) (line : ℕ) (all : List PredDef) → ◌≡◌ {A = Result (List PredDef) ℕ} (if a && b then Ok x else Err line) (Ok all) → (a ≡ true) × ((b ≡ true) × (x ≡ all))
both true true x line all h = (refl, (refl, ap (value_or x) h))
both true false x line all h = absurd (cc)
both false b x line all h = absurd (cc)

none_left : (l : List Tok) → (length l == 0) ≡ true → l ≡ []
none_left [] h = refl
none_left (t ∷ l) h = absurd (let some : (length (t ∷ l) == 0) ≡ false = grind (arith, common_steps) in cc)

-- the tokens were read to their end, and they end with the text
whole_of : (text : List ℕ) (tokens : List Tok) (end : ℕ) (read : Read (List Tok) (List PredDef)) (all : List PredDef) → outcome text tokens end read ≡ Ok all
    → (read ≡ Ok (all, [])) × ((end == length text) ≡ true)
whole_of text tokens end (Ok x) all h =
    let parts = both (length x.1 == 0) (end == length text) x.0 (line_at text (offset_of tokens end (length x.1))) all h in
    let rest = none_left x.1 parts.0 in
    let is = parts.1.1 in
    (λ i. Ok (is i, rest i), parts.1.0)
whole_of text tokens end (Err place) all h = absurd (cc)

-- ---- no byte is left

front_empty : front [] ≡ Ok ([], [])
unfolding front skip_gap gap turns
front_empty = refl

to_end : (text : List ℕ) (tokens : List Token) (end : List ℕ) → front text ≡ Ok (tokens, end) → ((length text - length end) == length text) ≡ true → end ≡ []
to_end text tokens [] f h = refl
to_end [] tokens (b ∷ end) f h = ap (end_or []) (sym f ∙ front_empty)
to_end (a ∷ text) tokens (b ∷ end) f h = absurd (let less : ((length (a ∷ text) - length (b ∷ end)) == length (a ∷ text)) ≡ false = grind (arith, common_steps) in cc)

-- ---- both ways

said : (text : List ℕ) (all : List PredDef) → schema text ≡ Ok all → IsListed text all
said text all h =
    let f = front_reads text in
    let toks : List Tok = toks_of text f.0 in
    let is : outcome text toks (length text - length f.1.0) (statements toks) ≡ Ok all = sym (ap (from_front text) f.1.1) ∙ h in
    let parts = whole_of text toks (length text - length f.1.0) (statements toks) all is in
    let end : f.1.0 ≡ [] = to_end text f.0 f.1.0 f.1.1 parts.1 in
    record {
      tokens = f.0;
      are = tokens_are text f.0 [] (subst (λ (l : List ℕ). front text ≡ Ok (f.0, l)) end f.1.1);
      listed = (statements_listed [] all toks []).0 parts.0;
    }

pub schema_listed : (text : List ℕ) (definitions : List PredDef) → (schema text ≡ Ok definitions) ↔ IsListed text definitions
schema_listed text definitions = (
  said text definitions,
  λ l. whole_read text l.tokens definitions (front_is text l.tokens [] l.are) ((statements_listed [] definitions (toks_of text l.tokens) []).1 l.listed),
)
