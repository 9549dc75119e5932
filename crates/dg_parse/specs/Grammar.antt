-- The grammar of queries, written as it is read.
use Rattle.std.specs.Prelude.{ℕ, Bool, true, false, not, ◌&&◌, ◌==◌, List, [], ◌∷◌, ◌++◌, Some, None, is_some, codes}
use Rattle.std.specs.List.{list_any}
use Rattle.std.specs.Str.{bytes_eq}
use Rattle.dg_text.specs.Cases.{Reader, mark, word, name, also_at, here, optional, repeated}
use Rattle.dg_text.specs.Marks.{open_round, close_round, open_curly, close_curly, colon}
use Rattle.dg_text.specs.Reading.{◌>>=◌, ◌>>◌, give, next}
use Rattle.dg_text.specs.Tokens.{is_name, is_word}
use Rattle.dg_parse.specs.declared.blocks.Head.{Head}
use Rattle.dg_parse.specs.declared.blocks.Root.{Root}
use Rattle.dg_parse.specs.declared.query.QBlock.{QBlock}
use Rattle.dg_parse.specs.declared.query.Query.{Query}
use Rattle.dg_parse.specs.Arguments.{more_args}
use Rattle.dg_parse.specs.Directives.{all_dirs}
use Rattle.dg_parse.specs.Fields.{fields}
use Rattle.dg_parse.specs.Functions.{func}
use Rattle.dg_parse.specs.Names.{any_variable}

-- "func" ":" func { "," arg }
unfoldable pub root_part : Reader Root
root_part = do
  word (codes "func")
  mark colon
  f ← func true
  args ← more_args []
  give (record { func = Some f; args = args })

-- a block without func
abbrev pub no_root : Root
no_root = record { func = None; args = [] }

-- a block of this name stands among these
abbrev pub is_block : List QBlock → List ℕ → Bool
is_block blocks n = list_any (λ b. bytes_eq n b.name) blocks

-- the second block of one name other than var
abbrev pub is_second : List QBlock → List ℕ → Bool
is_second blocks n = not (bytes_eq n (codes "var")) && is_block blocks n

-- [ Name "as" ] Name "(" [ "func" ":" func { "," arg } ] ")", behind the blocks before it. The second block of one name is
-- refused at its name, and the "as" of a block without func once its ")" is read.
unfoldable pub head : List QBlock → Reader Head
head before = do
  v ← any_variable
  place ← here
  n ← name
  also_at place (is_second before n)
  mark open_round
  r ← optional (next (is_word (codes "func"))) root_part no_root
  mark close_round
  also_at v.1 (is_some v.0 && not (is_some r.func))
  give (record { var = v.0; as_place = v.1; name = n; root = r })

-- block = [ Name "as" ] Name "(" [ "func" ":" func { "," arg } ] ")" { dir } "{" { field } "}", behind those before it
unfoldable pub block : List QBlock → Reader (List QBlock)
block before = do
  h ← head before
  m ← all_dirs (record { block = true; has_func = is_some h.root.func; recurse = false; as_place = h.as_place })
  mark open_curly
  fs ← fields (record { has_func = is_some h.root.func; recurse = not (m.recursed == 0) }) 33
  mark close_curly
  give (before ++ record { var = h.var; name = h.name; func = h.root.func; args = h.root.args; dirs = m.dirs; fields = fs } ∷ [])

-- "{" { block } "}"
unfoldable pub braced_blocks : Reader Query
braced_blocks = do
  mark open_curly
  all ← repeated (next is_name) block []
  mark close_curly
  give (record { blocks = all })

-- query = [ "query" ] "{" { block } "}"
unfoldable pub query : Reader Query
query = do
  optional (next (is_word (codes "query"))) (word (codes "query")) tt
  braced_blocks
