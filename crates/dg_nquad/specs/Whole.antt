-- The mutation of a whole text, or its fault.
use Rattle.std.specs.Prelude.{ℕ, ◌==◌, List, length, Result, Ok, Err, ◌≡◌, if◌then◌else◌}
use Rattle.dg_text.specs.Reading.{Read}
use Rattle.dg_text.specs.Tokens.{Tok, toks_of}
use Rattle.dg_text.specs.Lexing.{lexed}
use Rattle.dg_text.specs.Places.{offset_of}
use Rattle.dg_text.specs.declared.token.Token.{Token}
use Rattle.dg_nquad.specs.declared.fault.NquadFault.{NquadFault}
use Rattle.dg_nquad.specs.declared.fault.NquadFault.TheVariants as faults
use Rattle.dg_nquad.specs.declared.mutation.Mutation.{Mutation}
use Rattle.dg_nquad.specs.declared.mutation.Statement.{Statement}
use Rattle.dg_nquad.specs.Grammar.{body}

-- what was read, where nothing is left, and else the offset of the offending token or the end
abbrev pub outcome : List Tok → ℕ → Read (List Tok) (List Statement) → Result (List Statement) NquadFault
outcome tokens end (Ok x) = if length x.1 == 0 then Ok x.0 else Err (faults.BadSyntax (offset_of tokens end (length x.1)))
outcome tokens end (Err place) = Err (faults.BadSyntax (offset_of tokens end place))

-- the statements that tokens of a text with this end say
abbrev pub statements_of : List Tok → ℕ → Result (List Statement) NquadFault
statements_of tokens end = outcome tokens end (body tokens)

-- the statements of a text by its tokens, or by the offset where none starts, which is told before all else
abbrev pub by_tokens : List ℕ → Result (List Token) ℕ → Result (List Statement) NquadFault
by_tokens text (Ok tokens) = statements_of (toks_of text tokens) (length text)
by_tokens text (Err offset) = Err (faults.BadToken offset)

-- the statements of a text in its order, or its fault
abbrev pub mutation : List ℕ → Result (List Statement) NquadFault
mutation text = by_tokens text (lexed text)

-- the fault is the one that the text has, unless memory ran out
abbrev pub Refuses : NquadFault → Result (List Statement) NquadFault → Type 0
Refuses faults.OutOfMemory read = Unit {0}
Refuses (faults.BadToken offset) read = read ≡ Err (faults.BadToken offset)
Refuses (faults.BadSyntax offset) read = read ≡ Err (faults.BadSyntax offset)

-- what was returned is what the text says, unless memory ran out
abbrev pub Reads : Result Mutation NquadFault → Result (List Statement) NquadFault → Type 0
Reads (Ok m) read = read ≡ Ok m.statements
Reads (Err fault) read = Refuses fault read
