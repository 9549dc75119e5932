-- The query of a whole text, or its fault.
use Rattle.std.specs.Prelude.{ℕ, List, Option, Some, None, Result, Ok, Err, ◌≡◌, length}
use Rattle.dg_text.specs.Tokens.{Tok, toks_of}
use Rattle.dg_text.specs.Lexing.{lexed}
use Rattle.dg_text.specs.declared.token.Token.{Token}
use Rattle.dg_text.specs.Places.{offset_of}
use Rattle.dg_text.specs.Brackets.{too_deep}
use Rattle.dg_text.specs.Cases.{Reader, ended}
use Rattle.dg_parse.specs.declared.fault.DqlFault.{DqlFault}
use Rattle.dg_parse.specs.declared.fault.DqlFault.TheVariants as faults
use Rattle.dg_parse.specs.declared.query.Query.{Query}
use Rattle.dg_parse.specs.declared.upsert.Upsert.{Upsert}
use Rattle.dg_parse.specs.Grammar.{query}
use Rattle.dg_parse.specs.Upsert.{upsert}

-- what was read to the end, or the offset of the fault
abbrev pub outcome : {A : Type 0} → List Tok → ℕ → Result A ℕ → Result A DqlFault
outcome tokens end (Ok x) = Ok x
outcome tokens end (Err place) = Err (faults.BadSyntax (offset_of tokens end place))

-- what the tokens of a text with this end say, where no bracket is too deep
abbrev pub shallow : {A : Type 0} → Reader A → List Tok → ℕ → Option ℕ → Result A DqlFault
shallow reader tokens end (Some place) = Err (faults.TooDeep (offset_of tokens end place))
shallow reader tokens end None = outcome tokens end (ended (reader (record { tokens = tokens; refused = 0 })))

-- the same, tested on the tokens
abbrev pub said : {A : Type 0} → Reader A → List Tok → ℕ → Result A DqlFault
said reader tokens end = shallow reader tokens end (too_deep 32 tokens)

-- what a text says by its tokens, or by the offset where none starts, which is told before all else
abbrev pub by_tokens : {A : Type 0} → Reader A → List ℕ → Result (List Token) ℕ → Result A DqlFault
by_tokens reader text (Ok tokens) = said reader (toks_of text tokens) (length text)
by_tokens reader text (Err offset) = Err (faults.BadToken offset)

-- the query of a text, or its fault
abbrev pub query_of : List ℕ → Result Query DqlFault
query_of text = by_tokens query text (lexed text)

-- the upsert block of a text, or its fault
abbrev pub upsert_of : List ℕ → Result Upsert DqlFault
upsert_of text = by_tokens upsert text (lexed text)

-- the fault is the one that the text has, unless memory ran out
abbrev pub Refuses : {A : Type 0} → DqlFault → Result A DqlFault → Type 0
Refuses faults.OutOfMemory read = Unit {0}
Refuses (faults.BadToken offset) read = read ≡ Err (faults.BadToken offset)
Refuses (faults.TooDeep offset) read = read ≡ Err (faults.TooDeep offset)
Refuses (faults.BadSyntax offset) read = read ≡ Err (faults.BadSyntax offset)

-- what was returned is what the text says, unless memory ran out
abbrev pub Reads : {A : Type 0} → Result A DqlFault → Result A DqlFault → Type 0
Reads (Ok x) read = read ≡ Ok x
Reads (Err fault) read = Refuses fault read
