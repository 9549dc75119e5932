-- The words of queries, and what single tokens say in one.
use Rattle.std.specs.Prelude.{ℕ, ℤ, pos, Bool, true, false, ◌||◌, List, [], ◌∷◌, Option, Some, None, is_some, unwrap_or, codes, if◌then◌else◌}
use Rattle.std.specs.Option.{option_map, option_and_then}
use Rattle.dg_table.specs.Words.{named_in}
use Rattle.dg_text.specs.Said.{quoted_meant, int_meant, uid_said}
use Rattle.dg_text.specs.Tokens.{Tok, is_name, is_at, is_int, is_uid, is_word}
use Rattle.dg_parse.specs.declared.query.CmpOp.{CmpOp}
use Rattle.dg_parse.specs.declared.query.CmpOp.TheVariants as ops
use Rattle.dg_parse.specs.declared.query.AggOp.{AggOp}
use Rattle.dg_parse.specs.declared.query.AggOp.TheVariants as aggregates
use Rattle.dg_parse.specs.declared.query.UidArg.{UidArg}
use Rattle.dg_parse.specs.declared.query.UidArg.TheVariants as uids
use Rattle.dg_parse.specs.declared.words.FuncWord.{FuncWord}
use Rattle.dg_parse.specs.declared.words.FuncWord.TheVariants as functions
use Rattle.dg_parse.specs.declared.words.DirWord.{DirWord}
use Rattle.dg_parse.specs.declared.words.DirWord.TheVariants as directives
use Rattle.dg_parse.specs.declared.words.ArgWord.{ArgWord}
use Rattle.dg_parse.specs.declared.words.ArgWord.TheVariants as arguments

-- the words of functions
abbrev pub function_words : List (List ℕ × FuncWord)
function_words =
    (codes "uid", functions.Uid) ∷ (codes "eq", functions.Cmp ops.Eq) ∷ (codes "le", functions.Cmp ops.Le) ∷ (codes "lt", functions.Cmp ops.Lt)
    ∷ (codes "ge", functions.Cmp ops.Ge) ∷ (codes "gt", functions.Cmp ops.Gt) ∷ (codes "between", functions.Between) ∷ (codes "has", functions.Has)
    ∷ (codes "anyofterms", functions.Terms false) ∷ (codes "allofterms", functions.Terms true) ∷ (codes "regexp", functions.Regexp)
    ∷ (codes "uid_in", functions.UidIn) ∷ []

-- the words of directives, with their @
abbrev pub directive_words : List (List ℕ × DirWord)
directive_words =
    (codes "@filter", directives.Filter) ∷ (codes "@cascade", directives.Cascade) ∷ (codes "@normalize", directives.Normalize)
    ∷ (codes "@recurse", directives.Recurse) ∷ []

-- the words of arguments
abbrev pub argument_words : List (List ℕ × ArgWord)
argument_words =
    (codes "first", arguments.First) ∷ (codes "offset", arguments.Offset) ∷ (codes "after", arguments.After)
    ∷ (codes "orderasc", arguments.Asc) ∷ (codes "orderdesc", arguments.Desc) ∷ []

-- the words of aggregates
abbrev pub aggregate_words : List (List ℕ × AggOp)
aggregate_words = (codes "min", aggregates.Min) ∷ (codes "max", aggregates.Max) ∷ (codes "sum", aggregates.Sum) ∷ []

-- a Name that is a function's word
abbrev pub function_meant : Tok → Option FuncWord
function_meant t = if is_name t then named_in function_words t.text else None

-- the comparison that a function is
abbrev pub comparison_in : FuncWord → Option CmpOp
comparison_in (functions.Cmp op) = Some op
comparison_in w = None

-- a Name that is a comparison's word
abbrev pub comparison_meant : Tok → Option CmpOp
comparison_meant t = option_and_then comparison_in (function_meant t)

-- an At that is a directive
abbrev pub directive_meant : Tok → Option DirWord
directive_meant t = if is_at t then named_in directive_words t.text else None

-- a Name that is an argument's word
abbrev pub argument_meant : Tok → Option ArgWord
argument_meant t = if is_name t then named_in argument_words t.text else None

-- a Name that is an aggregate's word
abbrev pub aggregate_meant : Tok → Option AggOp
aggregate_meant t = if is_name t then named_in aggregate_words t.text else None

-- the number of an Int; one that is no number of 64 bits is refused where it stands, and serves for any number
abbrev pub number_meant : Tok → Option ℤ
number_meant t = if is_int t then Some (unwrap_or (int_meant t) (pos 0)) else None

-- ua = Uid | Name: a node or a variable
abbrev pub node_meant : Tok → Option UidArg
node_meant t = if is_uid t then option_map uids.Uid (uid_said t.text) else if is_name t then Some (uids.Var t.text) else None

-- true or false
abbrev pub truth_meant : Tok → Option Bool
truth_meant t = if is_word (codes "true") t then Some true else if is_word (codes "false") t then Some false else None

-- the text of a literal: what a Quoted says, or the characters of an Int, of true or of false
abbrev pub literal_meant : Tok → Option (List ℕ)
literal_meant t = if is_int t || is_some (truth_meant t) then Some t.text else quoted_meant t
