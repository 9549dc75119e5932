-- The filters of a query, written as they are read.
use Rattle.std.specs.Prelude.{ℕ, zero, suc, ◌+◌, false, List, [], ◌∷◌, ◌++◌, codes}
use Rattle.dg_text.specs.Cases.{Reader, part, mark, choose, repeated}
use Rattle.dg_text.specs.Marks.{open_round, close_round}
use Rattle.dg_text.specs.Reading.{◌>>=◌, ◌>>◌, give, next, offends}
use Rattle.dg_text.specs.Tokens.{is_punct, is_word_any_case}
use Rattle.dg_parse.specs.declared.query.QFilter.{QFilter}
use Rattle.dg_parse.specs.declared.query.QPart.{QPart}
use Rattle.dg_parse.specs.declared.query.QPart.TheVariants as parts
use Rattle.dg_parse.specs.Functions.{func}
use Rattle.dg_parse.specs.Names.{word_any_case}

-- "not", after so many
unfoldable pub one_not : ℕ → Reader ℕ
one_not n = do
  word_any_case (codes "not")
  give (n + 1)

-- a part with no "not" before it
abbrev pub plainly : QPart → QFilter
plainly p = record { nots = 0; part = p }

-- so many "not" before a filter
abbrev pub negated : ℕ → QFilter → QFilter
negated n f = record { nots = n + f.nots; part = f.part }

-- func
unfoldable pub func_alone : Reader QFilter
func_alone = do
  f ← func false
  give (plainly (parts.Func f))

-- "(" or ")", where `inner` is or
unfoldable pub bracketed : Reader QFilter → Reader QFilter
bracketed inner = do
  mark open_round
  f ← inner
  mark close_round
  give f

-- "(" or ")" | func
unfoldable pub atom : Reader QFilter → Reader QFilter
atom inner = choose (next (is_punct open_round)) (bracketed inner) func_alone

-- not = "not" not | "(" or ")" | func
unfoldable pub not_of : Reader QFilter → Reader QFilter
not_of inner = do
  n ← repeated (next (is_word_any_case (codes "not"))) one_not 0
  f ← atom inner
  give (negated n f)

-- "and" not, behind the parts before it
unfoldable pub and_more : Reader QFilter → List QFilter → Reader (List QFilter)
and_more inner before = do
  word_any_case (codes "and")
  f ← not_of inner
  give (before ++ f ∷ [])

-- { "and" not }, where one comes next
unfoldable pub and_rest : Reader QFilter → QFilter → Reader QFilter
and_rest inner first = do
  all ← repeated (next (is_word_any_case (codes "and"))) (and_more inner) (first ∷ [])
  give (plainly (parts.And all))

-- and = not { "and" not }; one part stands for itself
unfoldable pub and_of : Reader QFilter → Reader QFilter
and_of inner = do
  first ← not_of inner
  choose (next (is_word_any_case (codes "and"))) (and_rest inner first) (give first)

-- "or" and, behind the parts before it
unfoldable pub or_more : Reader QFilter → List QFilter → Reader (List QFilter)
or_more inner before = do
  word_any_case (codes "or")
  f ← and_of inner
  give (before ++ f ∷ [])

-- { "or" and }, where one comes next
unfoldable pub or_rest : Reader QFilter → QFilter → Reader QFilter
or_rest inner first = do
  all ← repeated (next (is_word_any_case (codes "or"))) (or_more inner) (first ∷ [])
  give (plainly (parts.Or all))

-- or = and { "or" and }; one part stands for itself
unfoldable pub or_of : Reader QFilter → Reader QFilter
or_of inner = do
  first ← and_of inner
  choose (next (is_word_any_case (codes "or"))) (or_rest inner first) (give first)

-- or, with brackets at most so deep: that a text has none deeper was tested before
unfoldable pub filter : ℕ → Reader QFilter
filter zero = part offends
filter (suc depth) = or_of (filter depth)
