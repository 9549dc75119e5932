-- A text without groups says the statements that its tokens are.
use Rattle.std.proofs.Common.{◌≡◌, ◌↔◌, ℕ, ◌==◌, false, List, [], ◌∷◌, length, refl, sym, ap, ◌∙◌, arith}
use Rattle.std.specs.Prelude.{Result, Ok, Err}
use Rattle.dg_text.specs.Reading.{Read, next}
use Rattle.dg_text.specs.Tokens.{Tok, is_punct, toks_of}
use Rattle.dg_text.specs.Lexing.{lexed}
use Rattle.dg_text.specs.Listed.{AreListed}
use Rattle.dg_text.specs.Marks.{open_curly}
use Rattle.dg_text.specs.Places.{offset_of}
use Rattle.dg_text.specs.declared.token.Token.{Token}
use Rattle.dg_text.proofs.Fronts.{positive}
use Rattle.dg_nquad.specs.declared.fault.NquadFault.{NquadFault}
use Rattle.dg_nquad.specs.declared.fault.NquadFault.TheVariants as faults
use Rattle.dg_nquad.specs.declared.mutation.Statement.{Statement}
use Rattle.dg_nquad.specs.Grammar.{statement, statements, begins_statement, plain_set, body}
use Rattle.dg_nquad.specs.Whole.{outcome, by_tokens, mutation}
use Rattle.dg_nquad.proofs.Listed.{statements_listed}

body_plain : (left : List Tok) → next (is_punct open_curly) left ≡ false → body left ≡ statements plain_set [] left
unfolding body
body_plain left e = rw e refl

value_or : List Statement → Result (List Statement) NquadFault → List Statement
value_or d (Ok x) = x
value_or d (Err e) = d

pub whole_of : (tokens : List Tok) (end : ℕ) (read : Read (List Tok) (List Statement)) (all : List Statement) → outcome tokens end read ≡ Ok all → read ≡ Ok (all, [])
unfolding value_or
whole_of tokens end (Ok (x, [])) all h =
    let same : x ≡ all = ap (value_or x) h in
    ap (λ (l : List Statement). Ok (l, [])) same
whole_of tokens end (Ok (x, t ∷ rest)) all h =
    let some : (length (t ∷ rest) == 0) ≡ false = positive (length (t ∷ rest)) (omega arith) in
    let f : ◌≡◌ {A = Result (List Statement) NquadFault} (Err (faults.BadSyntax (offset_of tokens end (length (t ∷ rest))))) (Ok all) = rw some at h in
    absurd (cc)
whole_of tokens end (Err place) all h = absurd (cc)

said : (text : List ℕ) (tokens : List Token) → lexed text ≡ Ok tokens → next (is_punct open_curly) (toks_of text tokens) ≡ false
    → mutation text ≡ outcome (toks_of text tokens) (length text) (statements plain_set [] (toks_of text tokens))
said text tokens e plain = ap (by_tokens text) e ∙ ap (outcome (toks_of text tokens) (length text)) (body_plain (toks_of text tokens) plain)

pub plain_listed : (text : List ℕ) (tokens : List Token) (all : List Statement) → lexed text ≡ Ok tokens → next (is_punct open_curly) (toks_of text tokens) ≡ false
    → (mutation text ≡ Ok all) ↔ AreListed begins_statement (statement plain_set) [] all [] (toks_of text tokens)
plain_listed text tokens all e plain =
    let toks : List Tok = toks_of text tokens in
    let law = statements_listed plain_set [] all toks [] in
    let is = said text tokens e plain in (
      λ h. law.0 (whole_of toks (length text) (statements plain_set [] toks) all (sym is ∙ h)),
      λ a. is ∙ ap (outcome toks (length text)) (law.1 a),
    )
