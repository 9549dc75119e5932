-- What it means to add definitions to others, and that the statements of a text stand one after the other.
use Rattle.std.specs.Prelude.{◌≡◌, ◌↔◌, ℕ, List, [], ◌++◌, map, Ok}
use Rattle.std.specs.Option.{option_or}
use Rattle.dg_schema.specs.declared.definition.PredDef.{PredDef}
use Rattle.dg_schema.specs.Definitions.{AreDistinct, definition_of, with_definitions}
use Rattle.dg_schema.specs.Joined.{renewed, added}
use Rattle.dg_schema.specs.Grammar.{statement, begins_statement}
use Rattle.dg_schema.specs.Whole.{schema}
use Rattle.dg_text.specs.Listed.{AreListed}
use Rattle.dg_text.specs.Reading.{repeated}
use Rattle.dg_text.specs.Tokenized.{TokensOf}
use Rattle.dg_text.specs.Tokens.{Tok, toks_of}
use Rattle.dg_text.specs.declared.token.Token.{Token}

-- the names in the order in which they were declared
abbrev pub names : List PredDef → List (List ℕ)
names schema = map (λ d. d.name) schema

-- a name has its newer definition, where the newer ones declare it, and else its older one
abbrev pub NewerComesFirst : Type 0
NewerComesFirst = (older newer : List PredDef) (name : List ℕ) → AreDistinct newer → definition_of (with_definitions older newer) name ≡ option_or (definition_of newer name) (definition_of older name)

-- the names stay distinct
abbrev pub StaysDistinct : Type 0
StaysDistinct = (older newer : List PredDef) → AreDistinct older → AreDistinct (with_definitions older newer)

-- the older definitions stay in their places, each with its newer namesake there, and behind them come those whose names are new
abbrev pub JoinsInPlace : Type 0
JoinsInPlace = (older newer : List PredDef) → AreDistinct newer → with_definitions older newer ≡ renewed newer older ++ added older newer

-- the names are the older ones in order, and then those of the newer ones that the older lack, in their order
abbrev pub KeepsNamesInOrder : Type 0
KeepsNamesInOrder = (older newer : List PredDef) → AreDistinct newer → names (with_definitions older newer) ≡ names older ++ names (added older newer)

-- statements are read, behind earlier ones and up to tokens that begin none, exactly where they stand there one after the other
abbrev pub StatementsAreListed : Type 0
StatementsAreListed = (earlier all : List PredDef) (left end : List Tok) → (repeated begins_statement statement earlier left ≡ Ok (earlier ++ all, end)) ↔ AreListed begins_statement statement earlier all end left

-- the tokens of a text are, one after the other, those of the statements of these definitions, and nothing is left
pub record IsListed (text : List ℕ) (definitions : List PredDef) : Type 0 where
  pub tokens : List Token
  pub are : TokensOf text tokens []
  pub listed : AreListed begins_statement statement [] definitions [] (toks_of text tokens)

-- a text is read as definitions exactly where it is such a list
abbrev pub SchemaIsListed : Type 0
SchemaIsListed = (text : List ℕ) (definitions : List PredDef) → (schema text ≡ Ok definitions) ↔ IsListed text definitions
