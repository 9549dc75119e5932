-- Which texts stand in a string of JSON as they are (RFC 8259, section 7: all bytes but control characters, the quote and the backslash).
use Rattle.std.specs.Prelude.{ℕ, List, [], ◌∷◌, ◌++◌, Bool, not, ◌&&◌, ◌==◌, nat_lt}

-- a byte that is not escaped
abbrev pub is_plain_byte : ℕ → Bool
is_plain_byte byte = not (nat_lt byte 32) && not (byte == 34) && not (byte == 92)

-- a text between quotes
abbrev pub in_quotes : List ℕ → List ℕ
in_quotes text = 34 ∷ (text ++ 34 ∷ [])
