-- Escapes in a Quoted token: \ and what follows it.
use Rattle.std.specs.Prelude.{ℕ, zero, suc, ◌+◌, ◌-◌, ◌*◌, min, Bool, ◌&&◌, ◌||◌, ◌==◌, nat_lt, nat_le, List, [], ◌∷◌, ◌++◌, ◌<◌, slice_index, Option, Some, None, is_some, codes, if◌then◌else◌}
use Rattle.std.specs.List.{list_any}
use Rattle.std.specs.Char.{is_ascii_hexdigit, encode_utf8}

-- the value of a hexadecimal digit
abbrev pub hex_digit : ℕ → ℕ
hex_digit b = if nat_lt b 58 then b - 48 else if nat_lt b 71 then b - 55 else b - 87

-- a number with one digit more; what passes the characters stays past them
abbrev pub hex_more : ℕ → ℕ → ℕ
hex_more so_far b = min 0x110000 (16 * so_far + hex_digit b)

-- the number that n hexadecimal digits write after those so far
unfoldable pub hex_number : ℕ → ℕ → List ℕ → Option ℕ
hex_number zero so_far text = Some so_far
hex_number (suc n) so_far [] = None
hex_number (suc n) so_far (b ∷ rest) = if is_ascii_hexdigit b then hex_number n (hex_more so_far b) rest else None

-- a number that names a character
abbrev pub is_scalar : ℕ → Bool
is_scalar c = nat_lt c 0xD800 || (nat_le 0xE000 c && nat_lt c 0x110000)

-- the character of a number, where it names one
abbrev pub char_of : ℕ → Option ℕ
char_of c = if is_scalar c then Some c else None

-- the character that n hexadecimal digits name
abbrev pub hex_char : ℕ → List ℕ → Option ℕ
hex_char n text = named (hex_number n 0 text) where
  named : Option ℕ → Option ℕ
  named None = None
  named (Some c) = char_of c

-- n hexadecimal digits, where they name a character
abbrev pub hex_len : ℕ → List ℕ → ℕ
hex_len n text = if is_some (hex_char n text) then n else 0

-- t b n r f " ' \ /
abbrev pub is_simple : ℕ → Bool
is_simple b = list_any (λ c. c == b) (codes "tbnrf\"'\\/")

-- how many bytes after \ make an escape
abbrev pub escape_len : List ℕ → ℕ
escape_len [] = 0
escape_len (b ∷ rest) =
    if is_simple b then 1
    else if b == 117 then counted (hex_len 4 rest)
    else if b == 85 then counted (hex_len 8 rest)
    else 0 where
      counted : ℕ → ℕ
      counted n = if n == 0 then 0 else 1 + n

-- the last of n bytes from a place on is below 128
abbrev pub HasLowEnd : List ℕ → ℕ → ℕ → Type 0
HasLowEnd bytes start n = 0 < n → slice_index bytes ((start + n) - 1) < 128

-- the character that a letter or a sign after \ stands for; " ' \ / stand for themselves
abbrev pub simple : ℕ → ℕ
simple b =
    if b == 116 then 9
    else if b == 98 then 8
    else if b == 110 then 10
    else if b == 114 then 13
    else if b == 102 then 12
    else b

-- the character of the escape whose \ stands before a text
abbrev pub escape_char : List ℕ → Option ℕ
escape_char [] = None
escape_char (b ∷ rest) =
    if is_simple b then Some (simple b)
    else if b == 117 then hex_char 4 rest
    else if b == 85 then hex_char 8 rest
    else None

-- its bytes in UTF-8; none where no escape stands, which is in no Quoted token
abbrev pub escape_bytes : List ℕ → List ℕ
escape_bytes text = shown (escape_char text) where
  shown : Option ℕ → List ℕ
  shown None = []
  shown (Some c) = encode_utf8 c

-- what characters say, where the first k bytes belong to an escape that was read
unfoldable pub says : ℕ → List ℕ → List ℕ
says k [] = []
says zero (b ∷ rest) = if b == 92 then escape_bytes rest ++ says (escape_len rest) rest else b ∷ says zero rest
says (suc k) (b ∷ rest) = says k rest

-- what the characters between two quotes say: each escape is the character that it names, and all else stands for itself
abbrev pub unescaped : List ℕ → List ℕ
unescaped text = says 0 text
