-- Which statements can be written, that what is read can be, and that what is printed reads back.
use Rattle.std.specs.Prelude.{◌≡◌, ℕ, Bool, true, false, ◌<◌, ◌^◌, List, [], ◌∷◌, ◌++◌, map, Some, Ok, IfSome}
use Rattle.std.specs.List.{AllByRecursion}
use Rattle.std.specs.Option.{option_and_then}
use Rattle.dg_values.specs.declared.kind.Kind.{Kind}
use Rattle.dg_text.specs.Lexing.{lexed}
use Rattle.dg_text.specs.Tokens.{Tok, toks_of, is_name, is_blank}
use Rattle.dg_text.specs.Words.{is_whole_name}
use Rattle.dg_text.specs.declared.token.Token.{Token}
use Rattle.dg_text.specs.declared.token.TokenKind.TheVariants as kinds
use Rattle.dg_text.specs.Written.{IsWord, written, word_said, tok_said}
use Rattle.dg_text.specs.Spelling.{blank_word}
use Rattle.dg_nquad.specs.declared.block.Block.{Block}
use Rattle.dg_nquad.specs.declared.mutation.Node.{Node}
use Rattle.dg_nquad.specs.declared.mutation.Node.TheVariants as nodes
use Rattle.dg_nquad.specs.declared.mutation.Object.{Object}
use Rattle.dg_nquad.specs.declared.mutation.Object.TheVariants as objects
use Rattle.dg_nquad.specs.declared.mutation.Statement.{Statement}
use Rattle.dg_nquad.specs.Grammar.{statement, groups, plain_set}
use Rattle.dg_nquad.specs.Texts.{type_of_kind, statement_words, statements_words, groups_words, mutation_text}
use Rattle.dg_nquad.specs.Whole.{mutation}
use Rattle.dg_nquad.specs.Words.{kind_of_type, type_name}

-- ---- what can be written

-- a variable of this name can stand in a block: it is a Name, and the block is one of an upsert
abbrev pub VariableStands : Block → List ℕ → Type 0
VariableStands block name = (block.upsert ≡ true) × (is_whole_name name ≡ true)

-- a node can stand in a block: a number of 64 bits and not 0, a name where nothing is deleted, or a variable
abbrev pub NodeStands : Block → Node → Type 0
NodeStands block (nodes.Uid n) = (0 < n) × (n < 2 ^ 64)
NodeStands block (nodes.Blank name) = (block.delete ≡ false) × IsWord (blank_word name)
NodeStands block (nodes.Var name) = VariableStands block name

-- a type names the kind
abbrev pub IsTyped : Kind → Type 0
IsTyped kind = option_and_then kind_of_type (type_name (type_of_kind kind)) ≡ Some kind

-- an object can stand in a block: a node, a text whose kind has a type, all objects where it deletes, or a variable
abbrev pub ObjectStands : Block → Object → Type 0
ObjectStands block (objects.Node node) = NodeStands block node
ObjectStands block (objects.Literal text tag) = IfSome tag IsTyped
ObjectStands block objects.Star = block.delete ≡ true
ObjectStands block (objects.Val name) = VariableStands block name

-- a statement can stand in a block
pub record Stands (block : Block) (s : Statement) : Type 0 where
  pub direction : s.delete ≡ block.delete
  pub subject : NodeStands block s.s
  pub predicate : is_whole_name s.p ≡ true
  pub object : ObjectStands block s.o

-- a statement can stand in a group of its own
abbrev pub StandsAlone : Bool → Statement → Type 0
StandsAlone upsert s = Stands (record { delete = s.delete; upsert = upsert }) s

-- ---- what is read can be written

-- a token as it stands in a text: a Name is a whole one, and a Blank has its form
pub record IsFormed (t : Tok) : Type 0 where
  pub name : is_name t ≡ true → is_whole_name t.text ≡ true
  pub blank : is_blank t ≡ true → IsWord (kinds.Blank, t.text)

-- such tokens
abbrev pub AreFormed : List Tok → Type 0
AreFormed ts = AllByRecursion IsFormed ts

-- the tokens of a text are such
abbrev pub TokensAreFormed : Type 0
TokensAreFormed = (text : List ℕ) (tokens : List Token) → lexed text ≡ Ok tokens → AreFormed (toks_of text tokens)

-- a statement that is read in a block can stand there
abbrev pub ReadStands : Type 0
ReadStands = (block : Block) (before : List Statement) (s : Statement) (ts rest : List Tok) → AreFormed ts → statement block before ts ≡ Ok (before ++ s ∷ [], rest) → Stands block s × AreFormed rest

-- statements that are read in groups can stand there
abbrev pub ReadStandAlone : Type 0
ReadStandAlone = (upsert : Bool) (all : List Statement) (ts rest : List Tok) → AreFormed ts → groups upsert ts ≡ Ok (all, rest) → AllByRecursion (StandsAlone upsert) all × AreFormed rest

-- ---- what is printed reads back

-- the words of a statement are words, and tokens that say them are read as it, behind others and before others
abbrev pub StatementReadsBack : Type 0
StatementReadsBack = (block : Block) (s : Statement) → Stands block s → AllByRecursion IsWord (statement_words s) × ((before : List Statement) (ts rest : List Tok) → map tok_said ts ≡ map word_said (statement_words s) → statement block before (ts ++ rest) ≡ Ok (before ++ s ∷ [], rest))

-- so with statements in groups
abbrev pub GroupsReadBack : Type 0
GroupsReadBack = (upsert : Bool) (all : List Statement) → AllByRecursion (StandsAlone upsert) all → AllByRecursion IsWord (groups_words all) × ((ts rest : List Tok) → map tok_said ts ≡ map word_said (groups_words all) → groups upsert (ts ++ rest) ≡ Ok (all, rest))

-- statements that can stand in a text without groups read back without groups too
abbrev pub PlainReadsBack : Type 0
PlainReadsBack = (all : List Statement) → AllByRecursion (Stands plain_set) all → mutation (written (statements_words all)) ≡ Ok all

-- the printed text of what a text says says the same
abbrev pub MutationReadsBack : Type 0
MutationReadsBack = (text : List ℕ) (all : List Statement) → mutation text ≡ Ok all → mutation (mutation_text all) ≡ Ok all
