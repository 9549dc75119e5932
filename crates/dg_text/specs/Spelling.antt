-- How nodes, numbers, names and patterns are written as tokens.
use Rattle.std.specs.Prelude.{ℕ, ℤ, Bool, false, List, [], ◌∷◌, ◌++◌, ◌==◌, codes, if◌then◌else◌}
use Rattle.std.specs.Fmt.{digits, signed_decimal}
use Rattle.dg_text.specs.Written.{Word}
use Rattle.dg_text.specs.declared.token.TokenKind.TheVariants as kinds

-- 0x and the hexadecimal digits of a node, lower case, with no zero in front
abbrev pub uid_text : ℕ → List ℕ
uid_text n = codes "0x" ++ digits 16 false n

-- a node
abbrev pub uid_word : ℕ → Word
uid_word n = (kinds.Uid, uid_text n)

-- a text between < and >
abbrev pub iri_word : List ℕ → Word
iri_word text = (kinds.Iri, 60 ∷ (text ++ 62 ∷ []))

-- a node between < and >
abbrev pub iri_uid_word : ℕ → Word
iri_uid_word n = iri_word (uid_text n)

-- the node that has a name in its text alone
abbrev pub blank_word : List ℕ → Word
blank_word name = (kinds.Blank, 95 ∷ 58 ∷ name)

-- a Name
abbrev pub name_word : List ℕ → Word
name_word text = (kinds.Name, text)

-- a text with its @
abbrev pub at_word : List ℕ → Word
at_word text = (kinds.At, text)

-- one of the signs that stand alone
abbrev pub mark_word : ℕ → Word
mark_word b = (kinds.Punct b, b ∷ [])

-- ^^
abbrev pub caret_word : Word
caret_word = (kinds.Caret, codes "^^")

-- a number in decimal digits, with - before a negative one
abbrev pub int_word : ℤ → Word
int_word z = (kinds.Int, signed_decimal z)

-- a text with a backslash before each slash
abbrev pub slashed : List ℕ → List ℕ
slashed [] = []
slashed (b ∷ rest) = if b == 47 then 92 ∷ 47 ∷ slashed rest else b ∷ slashed rest

-- i where a pattern goes without regard to case
abbrev pub flag_text : Bool → List ℕ
flag_text i = if i then codes "i" else []

-- a pattern between slashes, and its flag
abbrev pub regex_word : List ℕ → Bool → Word
regex_word pattern i = (kinds.Regex, 47 ∷ (slashed pattern ++ 47 ∷ flag_text i))
