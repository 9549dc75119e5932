-- The conditions of an upsert block, written as they are read.
use Rattle.std.specs.Prelude.{ℕ, zero, suc, ◌+◌, List, [], ◌∷◌, ◌++◌, codes}
use Rattle.dg_text.specs.Cases.{Reader, part, mark, word, choose, repeated}
use Rattle.dg_text.specs.Marks.{open_round, close_round, comma}
use Rattle.dg_text.specs.Reading.{◌>>=◌, ◌>>◌, give, next, one_as, offends}
use Rattle.dg_text.specs.Tokens.{is_punct, is_word_any_case}
use Rattle.dg_parse.specs.declared.upsert.UCond.{UCond}
use Rattle.dg_parse.specs.declared.upsert.UPart.{UPart}
use Rattle.dg_parse.specs.declared.upsert.UPart.TheVariants as parts
use Rattle.dg_parse.specs.Filters.{one_not}
use Rattle.dg_parse.specs.Names.{word_any_case, int, in_round_name}
use Rattle.dg_parse.specs.Words.{comparison_meant}

-- a part with no "not" before it
abbrev pub plainly : UPart → UCond
plainly p = record { nots = 0; part = p }

-- so many "not" before a condition
abbrev pub negated : ℕ → UCond → UCond
negated n f = record { nots = n + f.nots; part = f.part }

-- ("eq" | "le" | "lt" | "ge" | "gt") "(" "len" "(" Name ")" "," Int ")"
unfoldable pub len_alone : Reader UCond
len_alone = do
  op ← part (one_as comparison_meant)
  mark open_round
  word (codes "len")
  x ← in_round_name
  mark comma
  n ← int
  mark close_round
  give (plainly (parts.Len op x n))

-- "(" cor ")", where `inner` is cor
unfoldable pub bracketed : Reader UCond → Reader UCond
bracketed inner = do
  mark open_round
  f ← inner
  mark close_round
  give f

-- "(" cor ")" | a comparison
unfoldable pub atom : Reader UCond → Reader UCond
atom inner = choose (next (is_punct open_round)) (bracketed inner) len_alone

-- cnot = "not" cnot | "(" cor ")" | a comparison
unfoldable pub not_of : Reader UCond → Reader UCond
not_of inner = do
  n ← repeated (next (is_word_any_case (codes "not"))) one_not 0
  f ← atom inner
  give (negated n f)

-- "and" cnot, behind the parts before it
unfoldable pub and_more : Reader UCond → List UCond → Reader (List UCond)
and_more inner before = do
  word_any_case (codes "and")
  f ← not_of inner
  give (before ++ f ∷ [])

-- { "and" cnot }, where one comes next
unfoldable pub and_rest : Reader UCond → UCond → Reader UCond
and_rest inner first = do
  all ← repeated (next (is_word_any_case (codes "and"))) (and_more inner) (first ∷ [])
  give (plainly (parts.And all))

-- cand = cnot { "and" cnot }; one part stands for itself
unfoldable pub and_of : Reader UCond → Reader UCond
and_of inner = do
  first ← not_of inner
  choose (next (is_word_any_case (codes "and"))) (and_rest inner first) (give first)

-- "or" cand, behind the parts before it
unfoldable pub or_more : Reader UCond → List UCond → Reader (List UCond)
or_more inner before = do
  word_any_case (codes "or")
  f ← and_of inner
  give (before ++ f ∷ [])

-- { "or" cand }, where one comes next
unfoldable pub or_rest : Reader UCond → UCond → Reader UCond
or_rest inner first = do
  all ← repeated (next (is_word_any_case (codes "or"))) (or_more inner) (first ∷ [])
  give (plainly (parts.Or all))

-- cor = cand { "or" cand }; one part stands for itself
unfoldable pub or_of : Reader UCond → Reader UCond
or_of inner = do
  first ← and_of inner
  choose (next (is_word_any_case (codes "or"))) (or_rest inner first) (give first)

-- cor, with brackets at most so deep: that a text has none deeper was tested before
unfoldable pub condition : ℕ → Reader UCond
condition zero = part offends
condition (suc depth) = or_of (condition depth)
