-- That the functions that read tokens are what the definitions of tokens say.
use Rattle.std.specs.Prelude.{◌≡◌, ◌↔◌, ℕ, List, [], Some, None, Ok, Err}
use Rattle.dg_text.specs.Forms.{Sized, token_at}
use Rattle.dg_text.specs.Lexing.{front, lexed}
use Rattle.dg_text.specs.Tokenized.{Starts, NoneStarts, TokensOf, StopsAt}
use Rattle.dg_text.specs.declared.token.Token.{Token}

-- the token found at the front of a text is the one that starts it
abbrev pub FindsToken : Type 0
FindsToken = (text : List ℕ) (t : Sized) → (token_at text ≡ Some t) ↔ Starts text t

-- none is found exactly where none starts
abbrev pub FindsNone : Type 0
FindsNone = (text : List ℕ) → (token_at text ≡ None) ↔ NoneStarts text

-- what is read from the front of a text are its tokens and their end
abbrev pub FrontIsTokens : Type 0
FrontIsTokens = (text : List ℕ) (tokens : List Token) (end : List ℕ) → (front text ≡ Ok (tokens, end)) ↔ TokensOf text tokens end

-- each text has tokens and an end, and they are read from its front
abbrev pub FrontReads : Type 0
FrontReads = (text : List ℕ) → (tokens : List Token) × ((end : List ℕ) × (front text ≡ Ok (tokens, end)))

-- all of a text is read exactly where its tokens go to its end
abbrev pub LexedIsTokens : Type 0
LexedIsTokens = (text : List ℕ) (tokens : List Token) → (lexed text ≡ Ok tokens) ↔ TokensOf text tokens []

-- the fault of a text is where its tokens end before its end
abbrev pub LexedStops : Type 0
LexedStops = (text : List ℕ) (offset : ℕ) → (lexed text ≡ Err offset) ↔ StopsAt text offset
