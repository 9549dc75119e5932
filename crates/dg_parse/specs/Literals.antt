-- Lists of nodes and of literals, written as they are read.
use Rattle.std.specs.Prelude.{ℕ, Bool, true, not, List, [], ◌∷◌, ◌++◌}
use Rattle.dg_text.specs.Cases.{Reader, part, mark, also_at, also_next, here, choose, repeated}
use Rattle.dg_text.specs.Marks.{comma, open_square, close_square}
use Rattle.dg_text.specs.Reading.{◌>>=◌, ◌>>◌, give, next, one_as}
use Rattle.dg_text.specs.Said.{is_wide}
use Rattle.dg_text.specs.Tokens.{is_punct}
use Rattle.dg_parse.specs.declared.query.UidArg.{UidArg}
use Rattle.dg_parse.specs.Words.{node_meant, literal_meant}

-- "," ua, behind those before it
unfoldable pub comma_uid : List UidArg → Reader (List UidArg)
comma_uid before = do
  mark comma
  u ← part (one_as node_meant)
  give (before ++ u ∷ [])

-- ua { "," ua }
unfoldable pub uids : Reader (List UidArg)
uids = do
  u ← part (one_as node_meant)
  repeated (next (is_punct comma)) comma_uid (u ∷ [])

-- lit = Quoted | Int | "true" | "false"; an Int is refused where it is no number of 64 bits
unfoldable pub lit : Reader (List ℕ)
lit = do
  also_next (next is_wide) true
  part (one_as literal_meant)

-- "," lit, which is refused where one literal alone may stand
unfoldable pub comma_lit : Bool → List (List ℕ) → Reader (List (List ℕ))
comma_lit many before = do
  mark comma
  place ← here
  text ← lit
  also_at place (not many)
  give (before ++ text ∷ [])

-- lit { "," lit }
unfoldable pub some_lits : Bool → Reader (List (List ℕ))
some_lits many = do
  text ← lit
  repeated (next (is_punct comma)) (comma_lit many) (text ∷ [])

-- "[" lit { "," lit } "]"; the bracket is refused where one literal alone may stand
unfoldable pub square_lits : Bool → Reader (List (List ℕ))
square_lits many = do
  place ← here
  mark open_square
  also_at place (not many)
  texts ← some_lits many
  mark close_square
  give texts

-- lits = lit { "," lit } | "[" lit { "," lit } "]"
unfoldable pub lits : Bool → Reader (List (List ℕ))
lits many = choose (next (is_punct open_square)) (square_lits many) (some_lits many)
