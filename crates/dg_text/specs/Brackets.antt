-- How many brackets stand open.
use Rattle.std.specs.Prelude.{ℕ, ◌+◌, ◌-◌, Bool, ◌||◌, List, [], ◌∷◌, length, Option, Some, None, nat_lt, if◌then◌else◌}
use Rattle.dg_text.specs.Tokens.{Tok, is_punct}

-- `{`, `(` or `[`
abbrev pub opens : Tok → Bool
opens t = is_punct 123 t || is_punct 40 t || is_punct 91 t

-- `}`, `)` or `]`
abbrev pub closes : Tok → Bool
closes t = is_punct 125 t || is_punct 41 t || is_punct 93 t

-- one more, where the test holds
abbrev pub counted : Bool → ℕ → ℕ
counted test n = if test then n + 1 else n

-- How many tokens are left from the first token on after which more than most brackets stand open: those that were opened
-- without those that were closed.
unfoldable pub deep_from : ℕ → ℕ → ℕ → List Tok → Option ℕ
deep_from most opened closed [] = None
deep_from most opened closed (t ∷ rest) =
    if nat_lt most (counted (opens t) opened - counted (closes t) closed) then Some (length (t ∷ rest))
    else deep_from most (counted (opens t) opened) (counted (closes t) closed) rest

-- the same where none stands open before
abbrev pub too_deep : ℕ → List Tok → Option ℕ
too_deep most tokens = deep_from most 0 0 tokens
