-- The grammar of the schema language, written as it is read.
use Rattle.std.specs.Prelude.{Bool, true, false, ◌||◌, ◌&&◌, not, List, [], ◌∷◌, ◌++◌, length, Option, Some, None, is_some, ◌==◌, if◌then◌else◌}
use Rattle.std.specs.List.{list_any, list_all}
use Rattle.dg_text.specs.Reading as reading
use Rattle.dg_text.specs.Reading.{◌>>=◌, ◌>>◌, Read, give, here, refuse_at, next, skip, one_as, choose, optional, repeated}
use Rattle.dg_text.specs.Marks.{colon, comma, dot, open_round, close_round, open_square, close_square}
use Rattle.dg_text.specs.Tokens.{Tok, is_name, is_iri, is_punct, is_at}
use Rattle.dg_values.specs.Order.{tokenizer_rank}
use Rattle.dg_values.specs.declared.kind.Kind.{Kind}
use Rattle.dg_values.specs.declared.kind.Tokenizer.{Tokenizer}
use Rattle.dg_schema.specs.declared.definition.PredDef.{PredDef}
use Rattle.dg_schema.specs.declared.statement.Shape.{Shape}
use Rattle.dg_schema.specs.declared.statement.Marks.{Marks}
use Rattle.dg_schema.specs.declared.statement.Statement.{Statement}
use Rattle.dg_schema.specs.declared.words.Directive.{Directive}
use Rattle.dg_schema.specs.declared.words.Directive.TheVariants as directives
use Rattle.dg_schema.specs.Definitions.{is_declared}
use Rattle.dg_text.specs.Words.{predicate_meant, is_reserved}
use Rattle.dg_schema.specs.Words.{kind_meant, tokenizer_meant, directive_meant, fits_kind, default_token, is_uid}

-- what is read of the tokens that are left
abbrev Reader : Type 0 → Type 0
Reader A = reading.Reader (List Tok) A

-- scalar
abbrev pub scalar : Bool → Reader Shape
scalar list = do
  kind ← one_as kind_meant
  give (record { kind = kind; list = list })

-- "[" scalar "]"
unfoldable pub list_type : Reader Shape
list_type = do
  skip (is_punct open_square)
  shape ← scalar true
  skip (is_punct close_square)
  give shape

-- type = scalar | "[" scalar "]"
unfoldable pub type_of : Reader Shape
type_of = choose (next (is_punct open_square)) list_type (scalar false)

-- "," tok
unfoldable pub comma_tokenizer : List Tokenizer → Reader (List Tokenizer)
comma_tokenizer before = do
  skip (is_punct comma)
  tokenizer ← one_as tokenizer_meant
  give (before ++ tokenizer ∷ [])

-- "(" tok { "," tok } ")"
unfoldable pub tokenizers : Reader (List Tokenizer)
tokenizers = do
  skip (is_punct open_round)
  first ← one_as tokenizer_meant
  all ← repeated (next (is_punct comma)) comma_tokenizer (first ∷ [])
  skip (is_punct close_round)
  give all

-- no directive was read
abbrev pub unmarked : Marks
unmarked = record { indexed = false; tokens = []; reverse = false; count = false; upsert = false; twice = false }

-- @index was read, with these tokenizers
abbrev pub indexed_by : Marks → List Tokenizer → Marks
indexed_by marks listed = record marks { indexed = true; tokens = listed; twice = marks.twice || marks.indexed }

-- [ "(" tok { "," tok } ")" ] behind @index
unfoldable pub index : Marks → Reader Marks
index marks = do
  listed ← optional (next (is_punct open_round)) tokenizers []
  give (indexed_by marks listed)

-- what stands behind a directive's word
abbrev pub after_word : Marks → Directive → Reader Marks
after_word marks directives.Index = index marks
after_word marks directives.Reverse = give (record marks { reverse = true; twice = marks.twice || marks.reverse })
after_word marks directives.Count = give (record marks { count = true; twice = marks.twice || marks.count })
after_word marks directives.Upsert = give (record marks { upsert = true; twice = marks.twice || marks.upsert })

-- dir = "@index" [ "(" tok { "," tok } ")" ] | "@reverse" | "@count" | "@upsert"
unfoldable pub directive : Marks → Reader Marks
directive marks = do
  word ← one_as directive_meant
  after_word marks word

-- two tokenizers are one
abbrev pub same_tokenizer : Tokenizer → Tokenizer → Bool
same_tokenizer a b = tokenizer_rank a == tokenizer_rank b

-- the tokenizer is one of these
abbrev pub is_in : Tokenizer → List Tokenizer → Bool
is_in tokenizer listed = list_any (same_tokenizer tokenizer) listed

-- no tokenizer stands twice
unfoldable pub distinct : List Tokenizer → Bool
distinct [] = true
distinct (tokenizer ∷ more) = not (is_in tokenizer more) && distinct more

-- an index without a list is on int, bool or dateTime, and one with a list on the kind of all its tokenizers
abbrev pub is_indexable : Kind → List Tokenizer → Bool
is_indexable kind listed = if length listed == 0 then is_some (default_token kind) else list_all (fits_kind kind) listed && distinct listed

-- ( Name | Iri ) ":" type { dir } ".", with the place of its name
unfoldable pub stated : Reader Statement
stated = do
  place ← here
  name ← one_as predicate_meant
  skip (is_punct colon)
  shape ← type_of
  marks ← repeated (next is_at) directive unmarked
  skip (is_punct dot)
  give (record { place = place; name = name; shape = shape; marks = marks })

-- the statement may follow these definitions
abbrev pub is_allowed : List PredDef → Statement → Bool
is_allowed earlier s =
    not (is_reserved s.name) && not (is_declared earlier s.name) && not s.marks.twice
    && (not s.marks.indexed || is_indexable s.shape.kind s.marks.tokens)
    && (not s.marks.reverse || is_uid s.shape.kind)
    && (not s.marks.upsert || s.marks.indexed)

-- the tokenizers of an index: those that are listed, else the one of the kind
abbrev pub index_of : Kind → Bool → List Tokenizer → List Tokenizer
index_of kind indexed listed = if indexed && length listed == 0 then default (default_token kind) else listed where
  default : Option Tokenizer → List Tokenizer
  default None = []
  default (Some tokenizer) = tokenizer ∷ []

-- the definition that a statement makes
abbrev pub define : Statement → PredDef
define s = record {
  name = s.name;
  kind = s.shape.kind;
  list = s.shape.list;
  tokens = index_of s.shape.kind s.marks.indexed s.marks.tokens;
  reverse = s.marks.reverse;
  count = s.marks.count;
  upsert = s.marks.upsert;
}

-- A statement that is not allowed is refused at its name, once it is read whole.
unfoldable pub statement : List PredDef → Reader (List PredDef)
statement earlier = do
  s ← stated
  refuse_at s.place (not (is_allowed earlier s))
  give (earlier ++ define s ∷ [])

-- a statement begins here
abbrev pub begins_statement : List Tok → Bool
begins_statement tokens = next (λ token. is_name token || is_iri token) tokens

-- schema = { ( Name | Iri ) ":" type { dir } "." }
abbrev pub statements : Reader (List PredDef)
statements tokens = repeated begins_statement statement [] tokens
