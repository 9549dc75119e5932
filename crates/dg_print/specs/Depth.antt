-- That the depth to which brackets are read is never met. Each production in which a depth stands is written here once more
-- with the depth as a parameter, as it is written in the grammar with 33.
use Rattle.std.specs.Prelude.{◌≡◌, ◌≤◌, ◌<◌, ℕ, zero, suc, true, false, not, ◌||◌, ◌==◌, List, [], ◌∷◌, ◌++◌, Option, Some, None, is_some, codes}
use Rattle.dg_text.specs.Brackets.{too_deep}
use Rattle.dg_text.specs.Cases.{Left, Reader, part, mark, word, also_at, here, choose, optional, repeated}
use Rattle.dg_text.specs.Lexing.{lexed}
use Rattle.dg_text.specs.Marks.{open_round, close_round, open_curly, close_curly}
use Rattle.dg_text.specs.Reading.{◌>>=◌, ◌>>◌, give, next, skip, one_as, offends}
use Rattle.dg_text.specs.Tokens.{is_name, is_punct, is_word}
use Rattle.dg_nquad.specs.Grammar.{groups}
use Rattle.dg_parse.specs.declared.directives.Marks.{Marks}
use Rattle.dg_parse.specs.declared.directives.Owner.{Owner}
use Rattle.dg_parse.specs.declared.items.Around.{Around}
use Rattle.dg_parse.specs.declared.items.Start.{Start}
use Rattle.dg_parse.specs.declared.query.QBlock.{QBlock}
use Rattle.dg_parse.specs.declared.query.QDir.TheVariants as dirs
use Rattle.dg_parse.specs.declared.query.QField.{QField}
use Rattle.dg_parse.specs.declared.query.QItem.{QItem}
use Rattle.dg_parse.specs.declared.query.QItem.TheVariants as items
use Rattle.dg_parse.specs.declared.query.Query.{Query}
use Rattle.dg_parse.specs.declared.upsert.UCond.{UCond}
use Rattle.dg_parse.specs.declared.upsert.UMut.{UMut}
use Rattle.dg_parse.specs.declared.upsert.Upsert.{Upsert}
use Rattle.dg_parse.specs.declared.words.DirWord.{DirWord}
use Rattle.dg_parse.specs.declared.words.DirWord.TheVariants as kinds
use Rattle.dg_parse.specs.Arguments.{bracketed_args}
use Rattle.dg_parse.specs.Conditions.{condition}
use Rattle.dg_parse.specs.Directives.{cascade_dir, normalize_dir, recurse_dir, is_marked, begins_dir, unmarked}
use Rattle.dg_parse.specs.Fields.{keyed, uid_item, count_item, val_item, agg_item, begins_aggregate, front, any_comma, begins_field, braces, fields}
use Rattle.dg_parse.specs.Filters.{filter}
use Rattle.dg_parse.specs.Grammar.{head}
use Rattle.dg_parse.specs.Keys.{edge_text}
use Rattle.dg_parse.specs.Names.{edge}
use Rattle.dg_parse.specs.Upsert.{is_at_word, begins_mut}
use Rattle.dg_parse.specs.Whole.{by_tokens, query_of, upsert_of}
use Rattle.dg_parse.specs.Words.{directive_meant}

-- "@filter" "(" or ")", behind its word
unfoldable pub filter_dir_to : ℕ → Marks → ℕ → Reader Marks
filter_dir_to depth m place = do
  mark open_round
  f ← filter depth
  mark close_round
  give (record { dirs = m.dirs ++ dirs.Filter f ∷ []; filtered = place; cascaded = m.cascaded; normalized = m.normalized; recursed = m.recursed })

-- what stands behind the word of a directive
unfoldable pub dir_of_to : ℕ → Owner → Marks → ℕ → DirWord → Reader Marks
dir_of_to depth o m place kinds.Filter = filter_dir_to depth m place
dir_of_to depth o m place kinds.Cascade = cascade_dir o m place
dir_of_to depth o m place kinds.Normalize = normalize_dir o m place
dir_of_to depth o m place kinds.Recurse = recurse_dir o m place

-- dir, behind those before it
unfoldable pub dir_to : ℕ → Owner → Marks → Reader Marks
dir_to depth o m = do
  place ← here
  w ← part (one_as directive_meant)
  also_at place (not o.has_func || is_marked m w)
  dir_of_to depth o m place w

-- { dir }
abbrev pub all_dirs_to : ℕ → Owner → Reader Marks
all_dirs_to depth o = repeated begins_dir (dir_to depth o) unmarked

-- edge [ "(" [ arg { "," arg } ] ")" ] { dir } [ "{" { field } "}" ]
unfoldable pub edge_item_to : ℕ → Around → Reader (List QField) → Start → List QField → Reader QItem
edge_item_to depth b inner s before = do
  e ← edge
  keyed s before (edge_text e)
  args ← optional (next (is_punct open_round)) bracketed_args []
  m ← all_dirs_to depth (record { block = false; has_func = b.has_func; recurse = b.recurse; as_place = 0 })
  fields ← optional (next (is_punct open_curly)) (braces b inner) None
  give (items.Edge e args m.dirs fields)

-- item, by its first word
unfoldable pub item_to : ℕ → Around → Reader (List QField) → Start → List QField → Reader QItem
item_to depth b inner s before =
    choose (next (is_word (codes "uid"))) (uid_item s before)
    (choose (next (is_word (codes "count"))) (count_item b s before)
    (choose (next (is_word (codes "val"))) (val_item s before)
    (choose begins_aggregate (agg_item s before) (edge_item_to depth b inner s before))))

-- field, behind those before it
unfoldable pub field_to : ℕ → Around → Reader (List QField) → List QField → Reader (List QField)
field_to depth b inner before = do
  f ← front b before
  i ← item_to depth b inner f.start before
  any_comma
  give (before ++ record { var = f.var; alias = f.alias; item = i } ∷ [])

-- { field }, with the braces of edges so deep, and the filters in them to a depth of their own
unfoldable pub fields_to : ℕ → Around → ℕ → Reader (List QField)
fields_to depth b zero = part offends
fields_to depth b (suc more) = repeated begins_field (field_to depth b (fields_to depth b more)) []

-- block, behind those before it
unfoldable pub block_to : ℕ → List QBlock → Reader (List QBlock)
block_to depth before = do
  h ← head before
  m ← all_dirs_to depth (record { block = true; has_func = is_some h.root.func; recurse = false; as_place = h.as_place })
  mark open_curly
  fs ← fields_to depth (record { has_func = is_some h.root.func; recurse = not (m.recursed == 0) }) depth
  mark close_curly
  give (before ++ record { var = h.var; name = h.name; func = h.root.func; args = h.root.args; dirs = m.dirs; fields = fs } ∷ [])

-- "{" { block } "}"
unfoldable pub braced_blocks_to : ℕ → Reader Query
braced_blocks_to depth = do
  mark open_curly
  all ← repeated (next is_name) (block_to depth) []
  mark close_curly
  give (record { blocks = all })

-- query, with brackets at most so deep
unfoldable pub query_to : ℕ → Reader Query
query_to depth = do
  optional (next (is_word (codes "query"))) (word (codes "query")) tt
  braced_blocks_to depth

-- "@if" "(" cor ")"
unfoldable pub if_part_to : ℕ → Reader (Option UCond)
if_part_to depth = do
  part (skip (is_at_word (codes "@if")))
  mark open_round
  c ← condition depth
  mark close_round
  give (Some c)

-- mut, behind those before it
unfoldable pub mut_to : ℕ → List UMut → Reader (List UMut)
mut_to depth before = do
  word (codes "mutation")
  c ← optional (next (is_at_word (codes "@if"))) (if_part_to depth) None
  all ← part (groups true)
  give (before ++ record { cond = c; mutation = record { statements = all } } ∷ [])

-- mut { mut }
unfoldable pub muts_to : ℕ → Reader (List UMut)
muts_to depth = do
  first ← mut_to depth []
  repeated begins_mut (mut_to depth) first

-- upsert, with brackets at most so deep
unfoldable pub upsert_to : ℕ → Reader Upsert
upsert_to depth = do
  word (codes "upsert")
  mark open_curly
  word (codes "query")
  q ← braced_blocks_to depth
  all ← muts_to depth
  mark close_curly
  give (record { query = q; muts = all })

-- where no more than n brackets are open, a filter reads to each depth above n what it does to the next above
abbrev pub FiltersDepth : Type 0
FiltersDepth = (n depth : ℕ) (left : Left) → too_deep n left.tokens ≡ None → n < depth → filter depth left ≡ filter (suc n) left

-- the same of a condition
abbrev pub ConditionsDepth : Type 0
ConditionsDepth = (n depth : ℕ) (left : Left) → too_deep n left.tokens ≡ None → n < depth → condition depth left ≡ condition (suc n) left

-- the same of fields, where no more than 32 are open: the filters among them are read to a depth of 33
abbrev pub FieldsDepth : Type 0
FieldsDepth = (b : Around) (n depth : ℕ) (left : Left) → too_deep n left.tokens ≡ None → n ≤ 32 → n < depth → fields b depth left ≡ fields b (suc n) left

-- a text read as a query to each depth from 33 on gives its query, or its fault
abbrev pub QueriesDepth : Type 0
QueriesDepth = (depth : ℕ) (text : List ℕ) → 33 ≤ depth → by_tokens (query_to depth) text (lexed text) ≡ query_of text

-- a text read as an upsert block to each depth from 33 on gives its upsert block, or its fault
abbrev pub UpsertsDepth : Type 0
UpsertsDepth = (depth : ℕ) (text : List ℕ) → 33 ≤ depth → by_tokens (upsert_to depth) text (lexed text) ≡ upsert_of text
