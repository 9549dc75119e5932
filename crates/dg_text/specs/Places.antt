-- Places of tokens as offsets of bytes.
use Rattle.std.specs.Prelude.{ℕ, ◌-◌, List, [], ◌∷◌, length, drop}
use Rattle.dg_text.specs.Tokens.{Tok}

-- where the next token starts, or else the tokens end
abbrev pub start_of : List Tok → ℕ → ℕ
start_of [] end = end
start_of (token ∷ rest) end = token.start

-- the offset of a place, which is how many tokens are left from there
abbrev pub offset_of : List Tok → ℕ → ℕ → ℕ
offset_of tokens end place = start_of (drop (length tokens - place) tokens) end
