-- How a text is written as a Quoted token.
use Rattle.std.specs.Prelude.{◌≡◌, ℕ, ◌||◌, ◌==◌, List, [], ◌∷◌, ◌++◌, flat_map, Some, if◌then◌else◌}
use Rattle.dg_text.specs.Said.{quoted_meant}
use Rattle.dg_text.specs.Tokens.{Tok}
use Rattle.dg_text.specs.Written.{Word, IsWord, word_said, tok_said}
use Rattle.dg_text.specs.declared.token.TokenKind.TheVariants as kinds

-- a byte of a text between quotes: " and \ behind a \, a line feed as \n, a carriage return as \r, and any other by itself
abbrev pub quoted_byte : ℕ → List ℕ
quoted_byte b =
    if b == 34 || b == 92 then 92 ∷ b ∷ []
    else if b == 10 then 92 ∷ 110 ∷ []
    else if b == 13 then 92 ∷ 114 ∷ []
    else b ∷ []

-- a text between quotes
abbrev pub quoted_word : List ℕ → Word
quoted_word text = (kinds.Quoted, 34 ∷ (flat_map quoted_byte text ++ 34 ∷ []))

-- each text can be written so
abbrev pub QuotesAreWords : Type 0
QuotesAreWords = (text : List ℕ) → IsWord (quoted_word text)

-- a token that says what is written of a text means that text
abbrev pub QuotesMeanTexts : Type 0
QuotesMeanTexts = (text : List ℕ) (t : Tok) → tok_said t ≡ word_said (quoted_word text) → quoted_meant t ≡ Some text
