-- The fields of a query, written as they are read.
use Rattle.std.specs.Prelude.{ℕ, zero, suc, Bool, false, not, ◌||◌, ◌&&◌, List, [], ◌∷◌, ◌++◌, Option, Some, None, is_some, codes}
use Rattle.dg_text.specs.Cases.{Reader, part, mark, word, also_at, also_next, here, choose, optional, repeated}
use Rattle.dg_text.specs.Marks.{open_round, close_round, open_curly, close_curly, comma, tilde}
use Rattle.dg_text.specs.Reading.{◌>>=◌, ◌>>◌, give, next, one_as, offends}
use Rattle.dg_text.specs.Tokens.{Tok, is_name, is_punct, is_word}
use Rattle.dg_parse.specs.declared.items.Around.{Around}
use Rattle.dg_parse.specs.declared.items.Start.{Start}
use Rattle.dg_parse.specs.declared.fronts.Front.{Front}
use Rattle.dg_parse.specs.declared.query.QField.{QField}
use Rattle.dg_parse.specs.declared.query.QItem.{QItem}
use Rattle.dg_parse.specs.declared.query.QItem.TheVariants as items
use Rattle.dg_parse.specs.Arguments.{bracketed_args}
use Rattle.dg_parse.specs.Directives.{all_dirs}
use Rattle.dg_parse.specs.Keys.{edge_text, count_key, val_key, agg_key, is_key, is_alias}
use Rattle.dg_parse.specs.Names.{edge, val, in_round_name, any_variable, any_alias}
use Rattle.dg_parse.specs.Words.{aggregate_meant}

-- the second field of one key in a list of fields is refused at its item, once the key is whole
abbrev pub keyed : Start → List QField → List ℕ → Reader (Unit {0})
keyed s before key = also_at s.place (not s.has_alias && is_key before key)

-- "uid"
unfoldable pub uid_item : Start → List QField → Reader QItem
uid_item s before = do
  word (codes "uid")
  keyed s before (codes "uid")
  give items.Uid

-- "uid" ")" behind "count" "(": refused in a block with @recurse, and so is an "as" in front of it
unfoldable pub count_uid : Around → Start → List QField → Reader QItem
count_uid b s before = do
  word (codes "uid")
  mark close_round
  also_at s.as_place s.has_var
  also_at s.place b.recurse
  keyed s before (codes "count")
  give items.CountUid

-- edge ")" behind "count" "("
unfoldable pub count_edge : Start → List QField → Reader QItem
count_edge s before = do
  e ← edge
  mark close_round
  keyed s before (count_key e)
  give (items.Count e)

-- "count" "(" ( "uid" | edge ) ")"
unfoldable pub count_item : Around → Start → List QField → Reader QItem
count_item b s before = do
  word (codes "count")
  mark open_round
  choose (next (is_word (codes "uid"))) (count_uid b s before) (count_edge s before)

-- "val" "(" Name ")": an "as" in front of it is refused
unfoldable pub val_item : Start → List QField → Reader QItem
val_item s before = do
  word (codes "val")
  also_at s.as_place s.has_var
  x ← in_round_name
  keyed s before (val_key x)
  give (items.Val x)

-- ("min" | "max" | "sum") "(" "val" "(" Name ")" ")"
unfoldable pub agg_item : Start → List QField → Reader QItem
agg_item s before = do
  op ← part (one_as aggregate_meant)
  mark open_round
  x ← val
  mark close_round
  keyed s before (agg_key op x)
  give (items.Agg op x)

-- "{" { field } "}", where `inner` reads the fields: refused in a block with @recurse
unfoldable pub braces : Around → Reader (List QField) → Reader (Option (List QField))
braces b inner = do
  also_next (next (is_punct open_curly)) b.recurse
  mark open_curly
  fields ← inner
  mark close_curly
  give (Some fields)

-- edge [ "(" [ arg { "," arg } ] ")" ] { dir } [ "{" { field } "}" ]
unfoldable pub edge_item : Around → Reader (List QField) → Start → List QField → Reader QItem
edge_item b inner s before = do
  e ← edge
  keyed s before (edge_text e)
  args ← optional (next (is_punct open_round)) bracketed_args []
  m ← all_dirs (record { block = false; has_func = b.has_func; recurse = b.recurse; as_place = 0 })
  fields ← optional (next (is_punct open_curly)) (braces b inner) None
  give (items.Edge e args m.dirs fields)

-- an aggregate begins here
abbrev pub begins_aggregate : List Tok → Bool
begins_aggregate left = next (λ t. is_some (aggregate_meant t)) left

-- an item begins here that is no aggregate
abbrev pub begins_other : List Tok → Bool
begins_other left = next (λ t. (is_name t || is_punct tilde t) && not (is_some (aggregate_meant t))) left

-- item, by its first word
unfoldable pub item : Around → Reader (List QField) → Start → List QField → Reader QItem
item b inner s before =
    choose (next (is_word (codes "uid"))) (uid_item s before)
    (choose (next (is_word (codes "count"))) (count_item b s before)
    (choose (next (is_word (codes "val"))) (val_item s before)
    (choose begins_aggregate (agg_item s before) (edge_item b inner s before))))

-- [ Name "as" ] [ Name ":" ]. An "as" is refused in a block without func or with @recurse; the second field of one alias
-- at its item; at its item also an aggregate in a block with func, and all else in a block without.
unfoldable pub front : Around → List QField → Reader Front
front b before = do
  v ← any_variable
  also_at v.1 (is_some v.0 && (not b.has_func || b.recurse))
  a ← any_alias
  place ← here
  also_at place (is_alias before a)
  also_next begins_aggregate b.has_func
  also_next begins_other (not b.has_func)
  give (record { var = v.0; alias = a; start = record { has_var = is_some v.0; as_place = v.1; has_alias = is_some a; place = place } })

-- [ "," ]
abbrev pub any_comma : Reader (Unit {0})
any_comma = optional (next (is_punct comma)) (mark comma) tt

-- field = [ Name "as" ] [ Name ":" ] item [ "," ], behind those before it
unfoldable pub field : Around → Reader (List QField) → List QField → Reader (List QField)
field b inner before = do
  f ← front b before
  i ← item b inner f.start before
  any_comma
  give (before ++ record { var = f.var; alias = f.alias; item = i } ∷ [])

-- a field begins here
abbrev pub begins_field : List Tok → Bool
begins_field left = next (λ t. is_name t || is_punct tilde t) left

-- { field }, where `inner` reads what stands in braces
abbrev pub some_fields : Around → Reader (List QField) → Reader (List QField)
some_fields b inner = repeated begins_field (field b inner) []

-- { field }, with braces at most so deep: that a text has none deeper was tested before
unfoldable pub fields : Around → ℕ → Reader (List QField)
fields b zero = part offends
fields b (suc depth) = some_fields b (fields b depth)
