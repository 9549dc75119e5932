-- The grammar of mutations, written as it is read.
use Rattle.std.specs.Prelude.{ℕ, Bool, false, ◌||◌, ◌&&◌, not, List, [], ◌∷◌, ◌++◌, Option, Some, None, is_some, codes}
use Rattle.dg_text.specs.Reading as reading
use Rattle.dg_text.specs.Reading.{◌>>=◌, ◌>>◌, give, here, refuse_at, next, skip, one_as, choose, optional, repeated}
use Rattle.dg_text.specs.Marks.{open_round, close_round, open_curly, close_curly, star, dot}
use Rattle.dg_text.specs.Tokens.{Tok, is_iri, is_punct, is_word, is_blank, is_quoted, is_caret}
use Rattle.dg_values.specs.declared.kind.Kind.{Kind}
use Rattle.dg_nquad.specs.declared.block.Block.{Block}
use Rattle.dg_nquad.specs.declared.mutation.Node.{Node}
use Rattle.dg_nquad.specs.declared.mutation.Node.TheVariants as nodes
use Rattle.dg_nquad.specs.declared.mutation.Object.{Object}
use Rattle.dg_nquad.specs.declared.mutation.Object.TheVariants as objects
use Rattle.dg_nquad.specs.declared.mutation.Statement.{Statement}
use Rattle.dg_text.specs.Words.{name_meant, predicate_meant}
use Rattle.dg_text.specs.Said.{quoted_meant}
use Rattle.dg_nquad.specs.Words.{node_meant, kind_meant, group_meant}

-- what is read of the tokens that are left
abbrev Reader : Type 0 → Type 0
Reader A = reading.Reader (List Tok) A

-- word "(" Name ")", which is refused at the word where no variable may stand, once its bracket is read
unfoldable pub variable : List ℕ → Bool → Reader (List ℕ)
variable word allowed = do
  place ← here
  skip (is_word word)
  skip (is_punct open_round)
  refuse_at place (not allowed)
  name ← one_as name_meant
  skip (is_punct close_round)
  give name

-- "uid" "(" Name ")"
unfoldable pub uid_variable : Block → Reader Node
uid_variable block = do
  name ← variable (codes "uid") block.upsert
  give (nodes.Var name)

-- node = Iri | Blank | "uid" "(" Name ")"
unfoldable pub node : Block → Reader Node
node block = choose (next (is_word (codes "uid"))) (uid_variable block) (one_as (node_meant block.delete))

-- "^^" Iri
unfoldable pub type_tag : Reader (Option Kind)
type_tag = do
  skip is_caret
  kind ← one_as kind_meant
  give (Some kind)

-- Quoted [ "^^" Iri ]
unfoldable pub literal : Reader Object
literal = do
  text ← one_as quoted_meant
  tag ← optional (next is_caret) type_tag None
  give (objects.Literal text tag)

-- "val" "(" Name ")"
unfoldable pub val_variable : Block → Reader Object
val_variable block = do
  name ← variable (codes "val") block.upsert
  give (objects.Val name)

-- "*"
unfoldable pub all_objects : Reader Object
all_objects = do
  skip (is_punct star)
  give objects.Star

-- a node
unfoldable pub node_object : Block → Reader Object
node_object block = do
  n ← node block
  give (objects.Node n)

-- object = node | Quoted [ "^^" Iri ] | "*" | "val" "(" Name ")", where only what deletes has "*"
unfoldable pub object : Block → Reader Object
object block =
    choose (next is_quoted) literal
    (choose (next (is_word (codes "val"))) (val_variable block)
    (choose (λ left. block.delete && next (is_punct star) left) all_objects (node_object block)))

-- label = Iri | Blank | Quoted
abbrev pub is_label : Tok → Bool
is_label t = is_iri t || is_blank t || is_quoted t

-- stmt = node pred object [ label ] ".", behind the statements before it
unfoldable pub statement : Block → List Statement → Reader (List Statement)
statement block before = do
  s ← node block
  p ← one_as predicate_meant
  o ← object block
  optional (next is_label) (skip is_label) tt
  skip (is_punct dot)
  give (before ++ record { delete = block.delete; s = s; p = p; o = o } ∷ [])

-- a statement begins here
abbrev pub begins_statement : List Tok → Bool
begins_statement left = next (λ t. is_iri t || is_blank t || is_word (codes "uid") t) left

-- { stmt }, behind the statements before them
abbrev pub statements : Block → List Statement → Reader (List Statement)
statements block before left = repeated begins_statement (statement block) before left

-- ("set" | "delete") "{" { stmt } "}"
unfoldable pub group : Bool → List Statement → Reader (List Statement)
group upsert before = do
  delete ← one_as group_meant
  skip (is_punct open_curly)
  all ← statements (record { delete = delete; upsert = upsert }) before
  skip (is_punct close_curly)
  give all

-- a group begins here
abbrev pub begins_group : List Tok → Bool
begins_group left = next (λ t. is_some (group_meant t)) left

-- "{" { ("set" | "delete") "{" { stmt } "}" } "}"
unfoldable pub groups : Bool → Reader (List Statement)
groups upsert = do
  skip (is_punct open_curly)
  all ← repeated begins_group (group upsert) []
  skip (is_punct close_curly)
  give all

-- the block of a text that has none: it sets
abbrev pub plain_set : Block
plain_set = record { delete = false; upsert = false }

-- body = { stmt } | "{" { ("set" | "delete") "{" { stmt } "}" } "}"
unfoldable pub body : Reader (List Statement)
body = choose (next (is_punct open_curly)) (groups false) (statements plain_set [])
