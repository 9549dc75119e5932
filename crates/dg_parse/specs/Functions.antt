-- The functions of a query, written as they are read.
use Rattle.std.specs.Prelude.{Bool, true, false, ◌&&◌, codes}
use Rattle.dg_text.specs.Cases.{Reader, part, mark, word, quoted, also_at, here, choose}
use Rattle.dg_text.specs.Marks.{open_round, close_round, comma}
use Rattle.dg_text.specs.Patterns.{regex_meant}
use Rattle.dg_text.specs.Reading.{◌>>=◌, ◌>>◌, give, next, one_as}
use Rattle.dg_text.specs.Tokens.{is_word}
use Rattle.dg_parse.specs.declared.query.CmpOp.{CmpOp}
use Rattle.dg_parse.specs.declared.query.CmpOp.TheVariants as ops
use Rattle.dg_parse.specs.declared.query.QFunc.{QFunc}
use Rattle.dg_parse.specs.declared.query.QFunc.TheVariants as functions
use Rattle.dg_parse.specs.declared.query.QOf.{QOf}
use Rattle.dg_parse.specs.declared.query.QOf.TheVariants as parts
use Rattle.dg_parse.specs.declared.words.FuncWord.{FuncWord}
use Rattle.dg_parse.specs.declared.words.FuncWord.TheVariants as words
use Rattle.dg_parse.specs.Literals.{uids, lit, lits}
use Rattle.dg_parse.specs.Names.{edge, val, pred}
use Rattle.dg_parse.specs.Words.{function_meant}

-- eq alone takes more than one literal
abbrev pub takes_many : CmpOp → Bool
takes_many ops.Eq = true
takes_many op = false

-- "count" "(" edge ")"
unfoldable pub count_of : Reader QOf
count_of = do
  word (codes "count")
  mark open_round
  e ← edge
  mark close_round
  give (parts.Count e)

-- "val" "(" Name ")"
unfoldable pub val_of : Reader QOf
val_of = do
  x ← val
  give (parts.Val x)

-- Name
unfoldable pub pred_of : Reader QOf
pred_of = do
  p ← pred
  give (parts.Pred p)

-- of = Name | "count" "(" edge ")" | "val" "(" Name ")"
unfoldable pub of : Reader QOf
of = choose (next (is_word (codes "count"))) count_of (choose (next (is_word (codes "val"))) val_of pred_of)

-- of "," lits
unfoldable pub comparison : CmpOp → Reader QFunc
comparison op = do
  o ← of
  mark comma
  ls ← lits (takes_many op)
  give (functions.Cmp op o ls)

-- of "," lit "," lit
unfoldable pub between : Reader QFunc
between = do
  o ← of
  mark comma
  low ← lit
  mark comma
  high ← lit
  give (functions.Between o low high)

-- edge
unfoldable pub has : Reader QFunc
has = do
  e ← edge
  give (functions.Has e)

-- Name "," Quoted
unfoldable pub terms : Bool → Reader QFunc
terms all = do
  p ← pred
  mark comma
  text ← quoted
  give (functions.Terms all p text)

-- Name "," Regex
unfoldable pub regexp : Reader QFunc
regexp = do
  p ← pred
  mark comma
  r ← part (one_as regex_meant)
  give (functions.Regexp p r.0 r.1)

-- edge "," ua { "," ua }
unfoldable pub uid_in : Reader QFunc
uid_in = do
  e ← edge
  mark comma
  us ← uids
  give (functions.UidIn e us)

-- ua { "," ua }
unfoldable pub named_uids : Reader QFunc
named_uids = do
  us ← uids
  give (functions.Uid us)

-- what stands in the brackets behind the word of a function
unfoldable pub arguments_of : FuncWord → Reader QFunc
arguments_of words.Uid = named_uids
arguments_of (words.Cmp op) = comparison op
arguments_of words.Between = between
arguments_of words.Has = has
arguments_of (words.Terms all) = terms all
arguments_of words.Regexp = regexp
arguments_of words.UidIn = uid_in

-- uid_in, which no root is
abbrev pub is_uid_in : FuncWord → Bool
is_uid_in words.UidIn = true
is_uid_in w = false

-- func = its word "(" .. ")"
unfoldable pub func : Bool → Reader QFunc
func root = do
  place ← here
  w ← part (one_as function_meant)
  also_at place (root && is_uid_in w)
  mark open_round
  f ← arguments_of w
  mark close_round
  give f
