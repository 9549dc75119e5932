-- The grammar of upsert blocks, written as it is read.
use Rattle.std.specs.Prelude.{ℕ, Bool, true, ◌&&◌, List, [], ◌∷◌, ◌++◌, Option, Some, None, codes}
use Rattle.std.specs.Str.{bytes_eq}
use Rattle.dg_text.specs.Cases.{Reader, part, mark, word, optional, repeated}
use Rattle.dg_text.specs.Marks.{open_round, close_round, open_curly, close_curly}
use Rattle.dg_text.specs.Tokens.{Tok, is_at, is_word}
use Rattle.dg_text.specs.Reading.{◌>>=◌, ◌>>◌, give, next, skip}
use Rattle.dg_nquad.specs.Grammar.{groups}
use Rattle.dg_parse.specs.declared.upsert.UCond.{UCond}
use Rattle.dg_parse.specs.declared.upsert.UMut.{UMut}
use Rattle.dg_parse.specs.declared.upsert.Upsert.{Upsert}
use Rattle.dg_parse.specs.Grammar.{braced_blocks}
use Rattle.dg_parse.specs.Conditions.{condition}

-- an At that is this word
abbrev pub is_at_word : List ℕ → Tok → Bool
is_at_word w t = is_at t && bytes_eq t.text w

-- "@if" "(" cor ")"
unfoldable pub if_part : Reader (Option UCond)
if_part = do
  part (skip (is_at_word (codes "@if")))
  mark open_round
  c ← condition 33
  mark close_round
  give (Some c)

-- mut = "mutation" [ "@if" "(" cor ")" ] "{" { ("set" | "delete") "{" { stmt } "}" } "}", behind those before it
unfoldable pub mut_of : List UMut → Reader (List UMut)
mut_of before = do
  word (codes "mutation")
  c ← optional (next (is_at_word (codes "@if"))) if_part None
  all ← part (groups true)
  give (before ++ record { cond = c; mutation = record { statements = all } } ∷ [])

-- a mutation begins here
abbrev pub begins_mut : List Tok → Bool
begins_mut left = next (is_word (codes "mutation")) left

-- mut { mut }
unfoldable pub muts : Reader (List UMut)
muts = do
  first ← mut_of []
  repeated begins_mut mut_of first

-- upsert = "upsert" "{" "query" "{" { block } "}" mut { mut } "}"
unfoldable pub upsert : Reader Upsert
upsert = do
  word (codes "upsert")
  mark open_curly
  word (codes "query")
  q ← braced_blocks
  all ← muts
  mark close_curly
  give (record { query = q; muts = all })
