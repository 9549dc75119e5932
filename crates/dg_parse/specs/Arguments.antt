-- The arguments of lists of nodes, written as they are read.
use Rattle.std.specs.Prelude.{ℤ, Bool, List, [], ◌∷◌, ◌++◌, is_some, codes}
use Rattle.dg_text.specs.Cases.{Reader, part, mark, choose, optional, repeated}
use Rattle.dg_text.specs.Marks.{open_round, close_round, comma, colon}
use Rattle.dg_text.specs.Reading.{◌>>=◌, ◌>>◌, give, next, one_as}
use Rattle.dg_text.specs.Said.{uid_meant}
use Rattle.dg_text.specs.Tokens.{Tok, is_punct, is_word}
use Rattle.dg_parse.specs.declared.query.QArg.{QArg}
use Rattle.dg_parse.specs.declared.query.QArg.TheVariants as args
use Rattle.dg_parse.specs.declared.query.QOrder.{QOrder}
use Rattle.dg_parse.specs.declared.query.QOrder.TheVariants as orders
use Rattle.dg_parse.specs.declared.words.ArgWord.{ArgWord}
use Rattle.dg_parse.specs.declared.words.ArgWord.TheVariants as words
use Rattle.dg_parse.specs.Names.{int, pred, val}
use Rattle.dg_parse.specs.Words.{argument_meant}

-- "val" "(" Name ")"
unfoldable pub val_order : Reader QOrder
val_order = do
  x ← val
  give (orders.Val x)

-- Name
unfoldable pub pred_order : Reader QOrder
pred_order = do
  p ← pred
  give (orders.Pred p)

-- Name | "val" "(" Name ")"
unfoldable pub order : Reader QOrder
order = choose (next (is_word (codes "val"))) val_order pred_order

-- Int, as the value of an argument
unfoldable pub int_arg : (ℤ → QArg) → Reader QArg
int_arg made = do
  n ← int
  give (made n)

-- Uid, as the value of an argument
unfoldable pub node_arg : Reader QArg
node_arg = do
  u ← part (one_as uid_meant)
  give (args.After u)

-- an order, as the value of an argument
unfoldable pub order_arg : (QOrder → QArg) → Reader QArg
order_arg made = do
  o ← order
  give (made o)

-- what stands behind the word of an argument and its colon
unfoldable pub value_of : ArgWord → Reader QArg
value_of words.First = int_arg args.First
value_of words.Offset = int_arg args.Offset
value_of words.After = node_arg
value_of words.Asc = order_arg args.Asc
value_of words.Desc = order_arg args.Desc

-- arg = its word ":" ..
unfoldable pub arg : Reader QArg
arg = do
  w ← part (one_as argument_meant)
  mark colon
  value_of w

-- "," arg, behind those before it
unfoldable pub comma_arg : List QArg → Reader (List QArg)
comma_arg before = do
  mark comma
  a ← arg
  give (before ++ a ∷ [])

-- { "," arg }
abbrev pub more_args : List QArg → Reader (List QArg)
more_args before = repeated (next (is_punct comma)) comma_arg before

-- an argument begins here
abbrev pub begins_arg : List Tok → Bool
begins_arg left = next (λ t. is_some (argument_meant t)) left

-- arg { "," arg }
unfoldable pub some_args : Reader (List QArg)
some_args = do
  a ← arg
  more_args (a ∷ [])

-- "(" [ arg { "," arg } ] ")"
unfoldable pub bracketed_args : Reader (List QArg)
bracketed_args = do
  mark open_round
  all ← optional begins_arg some_args []
  mark close_round
  give all
