-- Functions, filters, arguments and directives, written as words: the form that a printed query has.
use Rattle.std.specs.Prelude.{ℕ, zero, suc, Bool, true, false, List, [], ◌∷◌, ◌++◌, flat_map, replicate, codes, if◌then◌else◌}
use Rattle.dg_text.specs.Marks.{open_round, close_round, comma, colon, tilde}
use Rattle.dg_parse.specs.declared.query.CmpOp.{CmpOp}
use Rattle.dg_parse.specs.declared.query.CmpOp.TheVariants as ops
use Rattle.dg_parse.specs.declared.query.QArg.{QArg}
use Rattle.dg_parse.specs.declared.query.QArg.TheVariants as args
use Rattle.dg_parse.specs.declared.query.QDir.{QDir}
use Rattle.dg_parse.specs.declared.query.QDir.TheVariants as dirs
use Rattle.dg_parse.specs.declared.query.QEdge.{QEdge}
use Rattle.dg_parse.specs.declared.query.QFilter.{QFilter}
use Rattle.dg_parse.specs.declared.query.QPart.TheOpen.{QFilter-F, QPart-F}
use Rattle.dg_parse.specs.declared.query.QPart.TheFolds.{fold-QFilter}
use Rattle.dg_parse.specs.declared.query.QFunc.{QFunc}
use Rattle.dg_parse.specs.declared.query.QFunc.TheVariants as functions
use Rattle.dg_parse.specs.declared.query.QOf.{QOf}
use Rattle.dg_parse.specs.declared.query.QOf.TheVariants as parts
use Rattle.dg_parse.specs.declared.query.QOpt.{QOpt}
use Rattle.dg_parse.specs.declared.query.QOpt.TheVariants as options
use Rattle.dg_parse.specs.declared.query.QOrder.{QOrder}
use Rattle.dg_parse.specs.declared.query.QOrder.TheVariants as orders
use Rattle.dg_parse.specs.declared.query.UidArg.{UidArg}
use Rattle.dg_parse.specs.declared.query.UidArg.TheVariants as nodes
use Rattle.dg_text.specs.Quoting.{quoted_word}
use Rattle.dg_text.specs.Spelling.{uid_word, name_word, at_word, int_word, regex_word, mark_word}
use Rattle.dg_text.specs.Written.{Word}

-- "(" .. ")"
abbrev pub in_round : List Word → List Word
in_round ws = mark_word open_round ∷ (ws ++ mark_word close_round ∷ [])

-- the words of each item, with a word between any two
abbrev pub between_words : {X : Type 0} → Word → (X → List Word) → List X → List Word
between_words w words_of [] = []
between_words w words_of (x ∷ xs) = words_of x ++ flat_map (λ y. w ∷ words_of y) xs

-- the same with commas
abbrev pub commas : {X : Type 0} → (X → List Word) → List X → List Word
commas = between_words (mark_word comma)

-- edge
abbrev pub edge_words : QEdge → List Word
edge_words e = if e.back then mark_word tilde ∷ name_word e.pred ∷ [] else name_word e.pred ∷ []

-- ua
abbrev pub node_words : UidArg → List Word
node_words (nodes.Uid n) = uid_word n ∷ []
node_words (nodes.Var x) = name_word x ∷ []

-- lit, whose text alone is kept: a Quoted
abbrev pub lit_words : List ℕ → List Word
lit_words text = quoted_word text ∷ []

-- "val" "(" Name ")"
abbrev pub val_words : List ℕ → List Word
val_words x = name_word (codes "val") ∷ in_round (name_word x ∷ [])

-- of
abbrev pub of_words : QOf → List Word
of_words (parts.Pred p) = name_word p ∷ []
of_words (parts.Count e) = name_word (codes "count") ∷ in_round (edge_words e)
of_words (parts.Val x) = val_words x

-- the word of a comparison
abbrev pub cmp_text : CmpOp → List ℕ
cmp_text ops.Eq = codes "eq"
cmp_text ops.Le = codes "le"
cmp_text ops.Lt = codes "lt"
cmp_text ops.Ge = codes "ge"
cmp_text ops.Gt = codes "gt"

-- the word of a function
abbrev pub func_text : QFunc → List ℕ
func_text (functions.Uid us) = codes "uid"
func_text (functions.Cmp op o ls) = cmp_text op
func_text (functions.Between o low high) = codes "between"
func_text (functions.Has e) = codes "has"
func_text (functions.Terms all p text) = if all then codes "allofterms" else codes "anyofterms"
func_text (functions.Regexp p pattern fold) = codes "regexp"
func_text (functions.UidIn e us) = codes "uid_in"

-- what stands in the brackets of a function
abbrev pub inner_words : QFunc → List Word
inner_words (functions.Uid us) = commas node_words us
inner_words (functions.Cmp op o ls) = of_words o ++ mark_word comma ∷ commas lit_words ls
inner_words (functions.Between o low high) = of_words o ++ mark_word comma ∷ quoted_word low ∷ mark_word comma ∷ quoted_word high ∷ []
inner_words (functions.Has e) = edge_words e
inner_words (functions.Terms all p text) = name_word p ∷ mark_word comma ∷ quoted_word text ∷ []
inner_words (functions.Regexp p pattern fold) = name_word p ∷ mark_word comma ∷ regex_word pattern fold ∷ []
inner_words (functions.UidIn e us) = edge_words e ++ mark_word comma ∷ commas node_words us

-- func
abbrev pub func_words : QFunc → List Word
func_words f = name_word (func_text f) ∷ in_round (inner_words f)

-- A filter as words: where an or may stand, where an and may stand, and where neither may.
pub record Shown : Type 0 where
  pub as_or : List Word
  pub as_and : List Word
  pub as_not : List Word

-- so many "not"
abbrev pub nots : ℕ → List Word
nots n = replicate n (name_word (codes "not"))

-- what needs no brackets anywhere
abbrev pub shown_alone : List Word → Shown
shown_alone ws = record { as_or = ws; as_and = ws; as_not = ws }

-- words after so many "not", where words without any stand bare
abbrev pub barely : ℕ → List Word → List Word → List Word
barely zero bare ws = bare
barely (suc n) bare ws = nots (suc n) ++ ws

-- an or: it needs brackets but where an or may stand
abbrev pub shown_or : ℕ → List Word → Shown
shown_or n ws = record { as_or = barely n ws (in_round ws); as_and = nots n ++ in_round ws; as_not = nots n ++ in_round ws }

-- an and: it needs brackets only where neither may stand, and behind "not"
abbrev pub shown_and : ℕ → List Word → Shown
shown_and n ws = record { as_or = barely n ws (in_round ws); as_and = barely n ws (in_round ws); as_not = nots n ++ in_round ws }

-- a part with so many "not" before it
abbrev pub shown_part : QPart-F (ℕ → Shown) Shown → ℕ → Shown
shown_part (QPart-F.Or fs) n = shown_or n (between_words (name_word (codes "or")) (λ f. f.as_and) fs)
shown_part (QPart-F.And fs) n = shown_and n (between_words (name_word (codes "and")) (λ f. f.as_not) fs)
shown_part (QPart-F.Func f) n = shown_alone (nots n ++ func_words f)

-- a filter
abbrev pub shown_filter : QFilter-F (ℕ → Shown) Shown → Shown
shown_filter f = f.part f.nots

-- a filter and its words
abbrev pub shown : QFilter → Shown
shown = fold-QFilter (ℕ → Shown) Shown shown_part shown_filter

-- or
abbrev pub filter_words : QFilter → List Word
filter_words f = (shown f).as_or

-- what an order goes by
abbrev pub order_words : QOrder → List Word
order_words (orders.Pred p) = name_word p ∷ []
order_words (orders.Val x) = val_words x

-- the word of an argument
abbrev pub arg_text : QArg → List ℕ
arg_text (args.First n) = codes "first"
arg_text (args.Offset n) = codes "offset"
arg_text (args.After n) = codes "after"
arg_text (args.Asc o) = codes "orderasc"
arg_text (args.Desc o) = codes "orderdesc"

-- the value of an argument
abbrev pub value_words : QArg → List Word
value_words (args.First n) = int_word n ∷ []
value_words (args.Offset n) = int_word n ∷ []
value_words (args.After n) = uid_word n ∷ []
value_words (args.Asc o) = order_words o
value_words (args.Desc o) = order_words o

-- arg
abbrev pub arg_words : QArg → List Word
arg_words a = name_word (arg_text a) ∷ mark_word colon ∷ value_words a

-- [ "(" arg { "," arg } ")" ], where there are some
abbrev pub args_words : List QArg → List Word
args_words [] = []
args_words (a ∷ more) = in_round (commas arg_words (a ∷ more))

-- true or false
abbrev pub truth_text : Bool → List ℕ
truth_text true = codes "true"
truth_text false = codes "false"

-- ropt
abbrev pub opt_words : QOpt → List Word
opt_words (options.Depth n) = name_word (codes "depth") ∷ mark_word colon ∷ int_word n ∷ []
opt_words (options.Again b) = name_word (codes "loop") ∷ mark_word colon ∷ name_word (truth_text b) ∷ []

-- [ "(" ropt { "," ropt } ")" ], where there are some
abbrev pub opts_words : List QOpt → List Word
opts_words [] = []
opts_words (o ∷ more) = in_round (commas opt_words (o ∷ more))

-- dir
abbrev pub dir_words : QDir → List Word
dir_words (dirs.Filter f) = at_word (codes "@filter") ∷ in_round (filter_words f)
dir_words dirs.Cascade = at_word (codes "@cascade") ∷ []
dir_words dirs.Normalize = at_word (codes "@normalize") ∷ []
dir_words (dirs.Recurse os) = at_word (codes "@recurse") ∷ opts_words os
