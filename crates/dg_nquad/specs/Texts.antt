-- What mutations print as: words, with a blank behind each.
use Rattle.std.specs.Prelude.{ℕ, Bool, List, [], ◌∷◌, ◌++◌, Option, Some, None, codes, flat_map, if◌then◌else◌}
use Rattle.dg_values.specs.declared.kind.Kind.{Kind}
use Rattle.dg_values.specs.declared.kind.Kind.TheVariants as kinds
use Rattle.dg_text.specs.Marks.{open_round, close_round, open_curly, close_curly, star, dot}
use Rattle.dg_text.specs.Written.{Word, written}
use Rattle.dg_text.specs.Spelling.{iri_uid_word, iri_word, blank_word, name_word, mark_word, caret_word}
use Rattle.dg_text.specs.Quoting.{quoted_word}
use Rattle.dg_nquad.specs.declared.mutation.Node.{Node}
use Rattle.dg_nquad.specs.declared.mutation.Node.TheVariants as nodes
use Rattle.dg_nquad.specs.declared.mutation.Object.{Object}
use Rattle.dg_nquad.specs.declared.mutation.Object.TheVariants as objects
use Rattle.dg_nquad.specs.declared.mutation.Statement.{Statement}

-- a variable behind a word: `word ( name )`
abbrev pub variable_words : List ℕ → List ℕ → List Word
variable_words word name = name_word word ∷ mark_word open_round ∷ name_word name ∷ mark_word close_round ∷ []

-- a node: `<0x..>`, `_:name` or `uid ( name )`
abbrev pub node_words : Node → List Word
node_words (nodes.Uid n) = iri_uid_word n ∷ []
node_words (nodes.Blank name) = blank_word name ∷ []
node_words (nodes.Var name) = variable_words (codes "uid") name

-- the type of a kind; of a kind that no type names, its own name
abbrev pub type_of_kind : Kind → List ℕ
type_of_kind kinds.Default = codes "xs:default"
type_of_kind kinds.Int = codes "xs:int"
type_of_kind kinds.Text = codes "xs:string"
type_of_kind kinds.Bool = codes "xs:boolean"
type_of_kind kinds.Time = codes "xs:dateTime"
type_of_kind kinds.Uid = codes "xs:uid"

-- `^^ <type>`, and nothing where there is no kind
abbrev pub tag_words : Option Kind → List Word
tag_words None = []
tag_words (Some kind) = caret_word ∷ iri_word (type_of_kind kind) ∷ []

-- an object: a node, a text with its type, `*` or `val ( name )`
abbrev pub object_words : Object → List Word
object_words (objects.Node node) = node_words node
object_words (objects.Literal text tag) = quoted_word text ∷ tag_words tag
object_words objects.Star = mark_word star ∷ []
object_words (objects.Val name) = variable_words (codes "val") name

-- a statement: subject, `<predicate>`, object, `.`
abbrev pub statement_words : Statement → List Word
statement_words s = node_words s.s ++ (iri_word s.p ∷ (object_words s.o ++ mark_word dot ∷ []))

-- statements, one after the other
abbrev pub statements_words : List Statement → List Word
statements_words all = flat_map statement_words all

-- the word of a group
abbrev pub group_name : Bool → List ℕ
group_name delete = if delete then codes "delete" else codes "set"

-- a group: `set { .. }` or `delete { .. }`
abbrev pub group_words : Bool → List Statement → List Word
group_words delete all = name_word (group_name delete) ∷ mark_word open_curly ∷ (statements_words all ++ mark_word close_curly ∷ [])

-- a statement in a group of its own
abbrev pub alone_words : Statement → List Word
alone_words s = group_words s.delete (s ∷ [])

-- all statements between `{` and `}`, each in a group of its own
abbrev pub groups_words : List Statement → List Word
groups_words all = mark_word open_curly ∷ (flat_map alone_words all ++ mark_word close_curly ∷ [])

-- the text of a mutation
abbrev pub mutation_text : List Statement → List ℕ
mutation_text all = written (groups_words all)
