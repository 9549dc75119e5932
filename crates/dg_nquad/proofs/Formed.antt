-- The tokens of a text have their forms.
use Rattle.std.proofs.Common.{◌≡◌, ℕ, true, false, List}
use Rattle.std.specs.List.{slice_range}
use Rattle.std.proofs.lemmas.Bool.{false≢true}
use Rattle.dg_text.specs.Tokens.{Tok, tok_of, is_name, is_blank}
use Rattle.dg_text.specs.Words.{is_whole_name}
use Rattle.dg_text.specs.Written.{IsWord}
use Rattle.dg_text.specs.declared.token.Token.{Token}
use Rattle.dg_text.specs.declared.token.TokenKind.{TokenKind}
use Rattle.dg_text.specs.declared.token.TokenKind.TheVariants as kinds
use Rattle.dg_text.proofs.NameSpelling.{names_are_whole}
use Rattle.dg_nquad.specs.Readable.{IsFormed, TokensAreFormed}
use Rattle.dg_nquad.proofs.TokensSay.{all_tokens}

token_formed : (text : List ℕ) (t : Token) → IsWord (t.kind, slice_range text t.start t.end) → IsFormed (tok_of text t)
token_formed text t w = by t.kind w
  where
    neither : {A B : Type 0} → (false ≡ true → A) × (false ≡ true → B)
    neither = (λ h. absurd (false≢true h), λ h. absurd (false≢true h))

    other : (u : Tok) → (is_name u ≡ true → is_whole_name u.text ≡ true) × (is_blank u ≡ true → IsWord (kinds.Blank, u.text)) → IsFormed u
    other u h = record { name = h.0; blank = h.1 }

    by : (kind : TokenKind) → IsWord (kind, slice_range text t.start t.end) → IsFormed (tok_of text (record t { kind = kind }))
    by kinds.Name w = record { name = λ h. names_are_whole (slice_range text t.start t.end) w.form w.short; blank = λ h. absurd (false≢true h) }
    by kinds.Blank w = record { name = λ h. absurd (false≢true h); blank = λ h. w }
    by kinds.Int w = other (tok_of text (record t { kind = kinds.Int })) neither
    by kinds.Uid w = other (tok_of text (record t { kind = kinds.Uid })) neither
    by kinds.Quoted w = other (tok_of text (record t { kind = kinds.Quoted })) neither
    by kinds.Iri w = other (tok_of text (record t { kind = kinds.Iri })) neither
    by kinds.At w = other (tok_of text (record t { kind = kinds.At })) neither
    by kinds.Regex w = other (tok_of text (record t { kind = kinds.Regex })) neither
    by kinds.Caret w = other (tok_of text (record t { kind = kinds.Caret })) neither
    by (kinds.Punct b) w = other (tok_of text (record t { kind = kinds.Punct b })) neither

-- the tokens of a text have their forms
pub tokens_formed : TokensAreFormed
tokens_formed text tokens e = all_tokens (λ t. IsFormed t) token_formed text tokens e
