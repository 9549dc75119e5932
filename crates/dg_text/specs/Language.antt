-- What a text has to be to be a token of a kind, by itself.
use Rattle.std.specs.Prelude.{◌≡◌, ℕ, Bool, not, ◌||◌, ◌==◌, ◌<◌, ◌≤◌, ◌⊎◌, List, [], ◌∷◌, ◌++◌, length, IsTrue, IsFalse, is_some}
use Rattle.std.specs.List.{concat, list_all, AllByRecursion}
use Rattle.std.specs.Char.{is_ascii_digit, is_ascii_hexdigit}
use Rattle.dg_text.specs.Escapes.{hex_char, is_simple}
use Rattle.dg_text.specs.Forms.{is_letter, is_word_byte, is_iri_byte, is_punct_byte}
use Rattle.dg_text.specs.declared.token.TokenKind.{TokenKind}
use Rattle.dg_text.specs.declared.token.TokenKind.TheVariants as kinds

-- one byte or more, each of which passes a test
pub record AreSome (test : ℕ → Bool) (text : List ℕ) : Type 0 where
  pub some : 0 < length text
  pub each : IsTrue (list_all test text)

-- a piece of a Name after its first byte: a letter, a digit or _, or a dot and one of them
abbrev pub IsNamePiece : List ℕ → Type 0
IsNamePiece [] = ⊥
IsNamePiece (b ∷ []) = IsTrue (is_word_byte b)
IsNamePiece (b ∷ c ∷ []) = (b ≡ 46) × IsTrue (is_word_byte c)
IsNamePiece (b ∷ c ∷ d ∷ more) = ⊥

-- a letter or _, and then pieces
pub record IsName (text : List ℕ) : Type 0 where
  pub first : ℕ
  pub pieces : List (List ℕ)
  pub begins : IsTrue (is_letter first)
  pub each : AllByRecursion IsNamePiece pieces
  pub is : text ≡ first ∷ concat pieces

-- - and digits
pub record IsNegative (text : List ℕ) : Type 0 where
  pub digits : List ℕ
  pub some : AreSome is_ascii_digit digits
  pub is : text ≡ 45 ∷ digits

-- digits, or - and digits
abbrev pub IsInt : List ℕ → Type 0
IsInt text = AreSome is_ascii_digit text ⊎ IsNegative text

-- 0x and 1 to 16 hexadecimal digits, not all zero
pub record IsUid (text : List ℕ) : Type 0 where
  pub digits : List ℕ
  pub some : AreSome is_ascii_hexdigit digits
  pub most : length digits ≤ 16
  pub nonzero : IsFalse (list_all (λ b. b == 48) digits)
  pub is : text ≡ 48 ∷ 120 ∷ digits

-- n hexadecimal digits that name a character
pub record NamesChar (n : ℕ) (digits : List ℕ) : Type 0 where
  pub count : length digits ≡ n
  pub names : IsTrue (is_some (hex_char n digits))

-- what stands after the \ of an escape: a letter or a sign, u and four digits, or U and eight
abbrev pub IsEscape : List ℕ → Type 0
IsEscape [] = ⊥
IsEscape (b ∷ digits) = (IsTrue (is_simple b) × (digits ≡ [])) ⊎ (((b ≡ 117) × NamesChar 4 digits) ⊎ ((b ≡ 85) × NamesChar 8 digits))

-- a byte that stands for itself between quotes
abbrev pub is_quoted_byte : ℕ → Bool
is_quoted_byte b = not (b == 34 || b == 92 || b == 10 || b == 13)

-- what stands between quotes: such a byte, or an escape
abbrev pub IsQuotedPiece : List ℕ → Type 0
IsQuotedPiece [] = ⊥
IsQuotedPiece (b ∷ more) = (IsTrue (is_quoted_byte b) × (more ≡ [])) ⊎ ((b ≡ 92) × IsEscape more)

-- pieces between quotes
pub record IsQuoted (text : List ℕ) : Type 0 where
  pub pieces : List (List ℕ)
  pub each : AllByRecursion IsQuotedPiece pieces
  pub is : text ≡ 34 ∷ (concat pieces ++ 34 ∷ [])

-- a byte that stands for itself between slashes
abbrev pub is_regex_byte : ℕ → Bool
is_regex_byte b = not (b == 47 || b == 92 || b == 10)

-- what stands between slashes: such a byte, or \ and any byte
abbrev pub IsRegexPiece : List ℕ → Type 0
IsRegexPiece [] = ⊥
IsRegexPiece (b ∷ []) = IsTrue (is_regex_byte b)
IsRegexPiece (b ∷ c ∷ []) = b ≡ 92
IsRegexPiece (b ∷ c ∷ d ∷ more) = ⊥

-- one piece or more between slashes, and i or nothing
pub record IsRegex (text : List ℕ) : Type 0 where
  pub pieces : List (List ℕ)
  pub flag : List ℕ
  pub some : 0 < length pieces
  pub each : AllByRecursion IsRegexPiece pieces
  pub flagged : (flag ≡ []) ⊎ (flag ≡ 105 ∷ [])
  pub is : text ≡ 47 ∷ (concat pieces ++ 47 ∷ flag)

-- bytes of an Iri between < and >
pub record IsIri (text : List ℕ) : Type 0 where
  pub between : List ℕ
  pub some : AreSome is_iri_byte between
  pub is : text ≡ 60 ∷ (between ++ 62 ∷ [])

-- _: and letters, digits or _
pub record IsBlank (text : List ℕ) : Type 0 where
  pub word : List ℕ
  pub some : AreSome is_word_byte word
  pub is : text ≡ 95 ∷ 58 ∷ word

-- @ and a Name
pub record IsAt (text : List ℕ) : Type 0 where
  pub name : List ℕ
  pub named : IsName name
  pub is : text ≡ 64 ∷ name

-- the one byte b, which is one of those that stand alone
pub record IsPunct (b : ℕ) (text : List ℕ) : Type 0 where
  pub alone : IsTrue (is_punct_byte b)
  pub is : text ≡ b ∷ []

-- the text has the form of a kind
abbrev pub HasForm : TokenKind → List ℕ → Type 0
HasForm kinds.Name text = IsName text
HasForm kinds.Int text = IsInt text
HasForm kinds.Uid text = IsUid text
HasForm kinds.Quoted text = IsQuoted text
HasForm kinds.Iri text = IsIri text
HasForm kinds.Blank text = IsBlank text
HasForm kinds.At text = IsAt text
HasForm kinds.Regex text = IsRegex text
HasForm kinds.Caret text = text ≡ 94 ∷ 94 ∷ []
HasForm (kinds.Punct b) text = IsPunct b text
