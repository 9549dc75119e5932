-- What the characters of tokens say: texts, names of nodes, and numbers.
use Rattle.std.specs.Prelude.{ℕ, ℤ, ◌-◌, Bool, ◌&&◌, List, [], ◌∷◌, Option, Some, None, is_none, codes, if◌then◌else◌, length, take, drop, ◌==◌, nat_le, nat_lt}
use Rattle.std.specs.Option.{option_and_then, option_map}
use Rattle.std.specs.List.{list_all}
use Rattle.std.specs.Str.{bytes_eq}
use Rattle.std.specs.Str.Parse.{digits_value}
use Rattle.std.specs.Char.{digit_value}
use Rattle.dg_values.specs.Scanning.{int_of_text}
use Rattle.dg_text.specs.Escapes.{unescaped}
use Rattle.dg_text.specs.Tokens.{Tok, is_quoted, is_int, is_uid}

-- what stands behind a byte at the front
abbrev pub after : ℕ → List ℕ → Option (List ℕ)
after byte [] = None
after byte (b ∷ rest) = if b == byte then Some rest else None

-- what stands before a byte at the end
abbrev pub before : ℕ → List ℕ → Option (List ℕ)
before byte text = if bytes_eq (drop (length text - 1) text) (byte ∷ []) then Some (take (length text - 1) text) else None

-- what stands behind a text at the front
abbrev pub behind : List ℕ → List ℕ → Option (List ℕ)
behind front text = if bytes_eq (take (length front) text) front then Some (drop (length front) text) else None

-- the name of a Blank: what stands behind the _: that each begins with
abbrev pub blank_name : List ℕ → Option (List ℕ)
blank_name text = option_and_then (after 58) (after 95 text)

-- what stands between the quotes that each Quoted begins and ends with
abbrev pub between_quotes : List ℕ → Option (List ℕ)
between_quotes text = option_and_then (before 34) (after 34 text)

-- what a Quoted says, with each escape read as the character that it names
abbrev pub quoted_meant : Tok → Option (List ℕ)
quoted_meant t = if is_quoted t then option_map unescaped (between_quotes t.text) else None

-- the node that hexadecimal digits of either case name: 1 to 16 of them, not all zero
unfoldable pub uid_of : List ℕ → Option ℕ
uid_of digits = if nat_lt 0 (length digits) && (nat_le (length digits) 16 && (list_all (λ d. nat_lt (digit_value d) 16) digits && nat_lt 0 (digits_value 16 digits))) then Some (digits_value 16 digits) else None

-- the node that all of a text names, by 0x and its digits
abbrev pub uid_said : List ℕ → Option ℕ
uid_said text = option_and_then uid_of (behind (codes "0x") text)

-- the node that a Uid names
abbrev pub uid_meant : Tok → Option ℕ
uid_meant t = if is_uid t then uid_said t.text else None

-- the number of an Int, where it is one of 64 bits
abbrev pub int_meant : Tok → Option ℤ
int_meant t = if is_int t then int_of_text t.text else None

-- an Int that is no number of 64 bits
abbrev pub is_wide : Tok → Bool
is_wide t = is_int t && is_none (int_of_text t.text)
