-- The schema of a whole text, or the line of its fault.
use Rattle.std.specs.Prelude.{ℕ, ◌+◌, ◌-◌, ◌&&◌, ◌==◌, List, [], ◌∷◌, length, take, Result, Ok, Err, ◌≡◌, if◌then◌else◌}
use Rattle.dg_text.specs.Reading.{Read}
use Rattle.dg_text.specs.Tokens.{Tok, toks_of}
use Rattle.dg_text.specs.Lexing.{front}
use Rattle.dg_text.specs.Places.{offset_of}
use Rattle.dg_text.specs.declared.token.Token.{Token}
use Rattle.dg_schema.specs.declared.definition.PredDef.{PredDef}
use Rattle.dg_schema.specs.declared.fault.SchemaFault.{SchemaFault}
use Rattle.dg_schema.specs.declared.fault.SchemaFault.TheVariants as faults
use Rattle.dg_schema.specs.Grammar.{statements}

-- how many line feeds stand in a text
unfoldable pub line_feeds : List ℕ → ℕ
line_feeds [] = 0
line_feeds (b ∷ rest) = if b == 10 then 1 + line_feeds rest else line_feeds rest

-- the line of an offset, from 1
abbrev pub line_at : List ℕ → ℕ → ℕ
line_at text offset = 1 + line_feeds (take offset text)

-- The tokens of a text end at end, which is the end of the text or the first byte where no token starts: such a byte is
-- an offending token.
abbrev pub outcome : List ℕ → List Tok → ℕ → Read (List Tok) (List PredDef) → Result (List PredDef) ℕ
outcome text tokens end (Ok x) =
    if length x.1 == 0 && end == length text then Ok x.0 else Err (line_at text (offset_of tokens end (length x.1)))
outcome text tokens end (Err place) = Err (line_at text (offset_of tokens end place))

-- the schema that tokens say, where they end at end
abbrev pub schema_of : List ℕ → List Tok → ℕ → Result (List PredDef) ℕ
schema_of text tokens end = outcome text tokens end (statements tokens)

-- the schema that the tokens at the front of a text say, with the text after them
abbrev pub from_front : List ℕ → Read (List ℕ) (List Token) → Result (List PredDef) ℕ
from_front text (Ok x) = schema_of text (toks_of text x.0) (length text - length x.1)
from_front text (Err place) = Err (line_at text (length text - place))

-- the definitions of a text in its order, or the line of the offending token
abbrev pub schema : List ℕ → Result (List PredDef) ℕ
schema text = from_front text (front text)

-- the fault is the one that the text has, unless memory ran out
abbrev pub Refuses : SchemaFault → Result (List PredDef) ℕ → Type 0
Refuses faults.OutOfMemory read = Unit {0}
Refuses (faults.SchemaSyntax line) read = read ≡ Err line

-- what was returned is what the text says, unless memory ran out
abbrev pub Reads : Result (List PredDef) SchemaFault → Result (List PredDef) ℕ → Type 0
Reads (Ok definitions) read = read ≡ Ok definitions
Reads (Err fault) read = Refuses fault read
