-- Predicates, variables and numbers, written as they are read.
use Rattle.std.specs.Prelude.{ℕ, ℤ, Bool, true, false, List, Option, Some, None, codes}
use Rattle.dg_text.specs.Cases.{Reader, part, mark, word, name, also_next, here, optional}
use Rattle.dg_text.specs.Marks.{open_round, close_round, colon, tilde}
use Rattle.dg_text.specs.Reading.{◌>>=◌, ◌>>◌, give, next, next_two, skip, one_as}
use Rattle.dg_text.specs.Said.{is_wide}
use Rattle.dg_text.specs.Tokens.{is_name, is_punct, is_word, is_word_any_case}
use Rattle.dg_text.specs.Words.{is_reserved_name}
use Rattle.dg_parse.specs.declared.query.QEdge.{QEdge}
use Rattle.dg_parse.specs.Words.{number_meant}

-- a word of the grammar in any case of its letters
abbrev pub word_any_case : List ℕ → Reader (Unit {0})
word_any_case w = part (skip (is_word_any_case w))

-- Int, which is refused where it is no number of 64 bits
unfoldable pub int : Reader ℤ
int = do
  also_next (next is_wide) true
  part (one_as number_meant)

-- Name as a predicate, which is refused where the language keeps it for itself
unfoldable pub pred : Reader (List ℕ)
pred = do
  also_next (next is_reserved_name) true
  name

-- "~"
unfoldable pub backwards : Reader Bool
backwards = do
  mark tilde
  give true

-- edge = [ "~" ] Name
unfoldable pub edge : Reader QEdge
edge = do
  back ← optional (next (is_punct tilde)) backwards false
  p ← pred
  give (record { back = back; pred = p })

-- "(" Name ")"
unfoldable pub in_round_name : Reader (List ℕ)
in_round_name = do
  mark open_round
  x ← name
  mark close_round
  give x

-- "val" "(" Name ")"
unfoldable pub val : Reader (List ℕ)
val = do
  word (codes "val")
  in_round_name

-- a variable that is defined, and the place of its "as"; without one the place is 0
abbrev pub Defined : Type 0
Defined = Option (List ℕ) × ℕ

-- Name "as"
unfoldable pub variable : Reader Defined
variable = do
  x ← name
  place ← here
  word (codes "as")
  give (Some x, place)

-- [ Name "as" ]: a Name directly before the Name "as" begins it
unfoldable pub any_variable : Reader Defined
any_variable = optional (next_two is_name (is_word (codes "as"))) variable (None, 0)

-- Name ":"
unfoldable pub alias : Reader (Option (List ℕ))
alias = do
  key ← name
  mark colon
  give (Some key)

-- [ Name ":" ]: a Name directly before ":" begins it
unfoldable pub any_alias : Reader (Option (List ℕ))
any_alias = optional (next_two is_name (is_punct colon)) alias None
