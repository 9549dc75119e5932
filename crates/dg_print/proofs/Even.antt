-- Single parts of queries close as many brackets as they open.
use Rattle.std.proofs.Common.{ℕ, Bool, true, false, List, [], ◌∷◌, length, Option, None, Ok, Err, refl}
use Rattle.std.specs.Prelude.{ℤ, codes}
use Rattle.dg_text.specs.Cases.{Left, Reader, part, met, mark, word, name, choose, optional, repeated}
use Rattle.dg_text.specs.Reading as plain
use Rattle.dg_text.specs.Reading.{Read, give, next, next_two, skip, one_as, ◌>>=◌}
use Rattle.dg_text.specs.Tokens.{Tok, is_name, is_punct, is_word, is_word_any_case}
use Rattle.dg_text.specs.Words.{name_meant}
use Rattle.dg_text.specs.Said.{quoted_meant, uid_meant}
use Rattle.dg_text.specs.Patterns.{regex_meant}
use Rattle.dg_parse.specs.declared.query.CmpOp.{CmpOp}
use Rattle.dg_parse.specs.declared.query.QArg.{QArg}
use Rattle.dg_parse.specs.declared.query.QOpt.{QOpt}
use Rattle.dg_parse.specs.declared.query.QOrder.{QOrder}
use Rattle.dg_parse.specs.declared.query.UidArg.{UidArg}
use Rattle.dg_parse.specs.declared.words.ArgWord.{ArgWord}
use Rattle.dg_parse.specs.declared.words.ArgWord.TheVariants as arguments
use Rattle.dg_parse.specs.declared.words.FuncWord.{FuncWord}
use Rattle.dg_parse.specs.declared.words.FuncWord.TheVariants as functions
use Rattle.dg_parse.specs.Arguments.{val_order, pred_order, order, int_arg, node_arg, order_arg, value_of, arg, comma_arg, more_args, begins_arg, some_args, bracketed_args}
use Rattle.dg_parse.specs.Directives.{depth_option, loop_option, ropt, comma_ropt, ropts}
use Rattle.dg_parse.specs.Functions.{takes_many, count_of, val_of, pred_of, of, comparison, between, has, terms, regexp, uid_in, named_uids, arguments_of, func}
use Rattle.dg_parse.specs.Literals.{comma_uid, uids, lit, comma_lit, some_lits, square_lits, lits}
use Rattle.dg_parse.specs.Words.{number_meant, node_meant, literal_meant, truth_meant, function_meant, argument_meant}
use Rattle.dg_parse.specs.Names.{int, pred, backwards, edge, in_round_name, val, variable, any_variable, alias, any_alias, word_any_case}
use Rattle.dg_print.proofs.Room.{IfRead, Ends, Opens, NoPunct, all, chain, inside, closing, either, maybe, turned, one, over, sign, open_round_opens, close_round_shuts, open_curly_opens, close_curly_shuts, open_square_opens, close_square_shuts}

-- the tokens that are left
abbrev pub kept : Left → List Tok
kept left = left.tokens

-- as many brackets are closed as are opened
abbrev pub Even : {A : Type 0} → Reader A → Type 0
Even reader = Ends kept false reader

-- one more is closed
abbrev pub Closes : {A : Type 0} → Reader A → Type 0
Closes reader = Ends kept true reader

-- ---- a part and what follows it

pub then_even : {A B : Type 0} (reader : Reader A) (more : A → Reader B) → Even reader → ((x : A) → Even (more x)) → Even (reader >>= more)
then_even reader more h k = chain kept reader more false h k

pub then_closes : {A B : Type 0} (reader : Reader A) (more : A → Reader B) → Even reader → ((x : A) → Closes (more x)) → Closes (reader >>= more)
then_closes reader more h k = chain kept reader more true h k

pub opened : {A B : Type 0} (reader : Reader A) (more : A → Reader B) → Opens kept reader → ((x : A) → Closes (more x)) → Even (reader >>= more)
opened reader more h k = inside kept reader more h k

pub closed : {A B : Type 0} (reader : Reader A) (more : A → Reader B) → Closes reader → ((x : A) → Even (more x)) → Closes (reader >>= more)
closed reader more h k = closing kept reader more h k

-- ---- single parts

of_part : {A : Type 0} (P : List Tok → Type 0) (refused : ℕ) (read : Read (List Tok) A) → IfRead P read → IfRead (λ l. P l.tokens) (met refused read)
of_part P refused (Ok x) h = h
of_part P refused (Err place) h = tt

pub part_ends : {A : Type 0} (b : Bool) (reader : plain.Reader (List Tok) A) → Ends all b reader → Ends kept b (part reader)
part_ends b reader h r left f = of_part _ left.refused (reader left.tokens) (h r left.tokens f)

pub part_opens : {A : Type 0} (reader : plain.Reader (List Tok) A) → Opens all reader → Opens kept (part reader)
part_opens reader h r left f = of_part _ left.refused (reader left.tokens) (h r left.tokens f)

pub open_round : Opens kept (mark 40)
open_round = part_opens (skip (is_punct 40)) open_round_opens

pub close_round : Closes (mark 41)
close_round = part_ends true (skip (is_punct 41)) close_round_shuts

pub open_curly : Opens kept (mark 123)
open_curly = part_opens (skip (is_punct 123)) open_curly_opens

pub close_curly : Closes (mark 125)
close_curly = part_ends true (skip (is_punct 125)) close_curly_shuts

pub open_square : Opens kept (mark 91)
open_square = part_opens (skip (is_punct 91)) open_square_opens

pub close_square : Closes (mark 93)
close_square = part_ends true (skip (is_punct 93)) close_square_shuts

pub comma : Even (mark 44)
comma = part_ends false (skip (is_punct 44)) (sign 44 refl refl)

pub colon : Even (mark 58)
colon = part_ends false (skip (is_punct 58)) (sign 58 refl refl)

pub tilde : Even (mark 126)
tilde = part_ends false (skip (is_punct 126)) (sign 126 refl refl)

pub word_even : (w : List ℕ) → Even (word w)
word_even w = part_ends false (skip (is_word w)) (over (is_word w) (λ b text start. refl))

pub any_case_even : (w : List ℕ) → Even (word_any_case w)
any_case_even w = part_ends false (skip (is_word_any_case w)) (over (is_word_any_case w) (λ b text start. refl))

-- a token that means something, which no Punct does
pub token : {A : Type 0} (meaning : Tok → Option A) → NoPunct meaning → Even (part (one_as meaning))
token meaning none = part_ends false (one_as meaning) (one meaning none)

pub named : Even name
named = token name_meant (λ _ _ _. refl)

-- ---- choices

pub one_or : {A : Type 0} (begins : List Tok → Bool) (first other : Reader A) → Even first → Even other → Even (choose begins first other)
one_or begins first other h k r left f = either kept false (λ (l : Left). begins l.tokens) first other h k r left f

pub one_or_closes : {A : Type 0} (begins : List Tok → Bool) (first other : Reader A) → Closes first → Closes other → Closes (choose begins first other)
one_or_closes begins first other h k r left f = either kept true (λ (l : Left). begins l.tokens) first other h k r left f

pub perhaps : {A : Type 0} (begins : List Tok → Bool) (reader : Reader A) (absent : A) → Even reader → Even (optional begins reader absent)
perhaps begins reader absent h r left f = maybe kept (λ (l : Left). begins l.tokens) reader absent h r left f

pub many : {A : Type 0} (begins : List Tok → Bool) (reader : A → Reader A) → ((x : A) → Even (reader x)) → (before : A) → Even (repeated begins reader before)
many begins reader h before r left f = turned kept (λ (l : Left). begins l.tokens) reader h (length left.tokens) before r left f

-- ---- names and numbers

pub int_even : Even int
unfolding int
int_even r left f = token number_meant (λ _ _ _. refl) r _ f

pub pred_even : Even pred
unfolding pred
pred_even r left f = named r _ f

backwards_even : Even backwards
unfolding backwards
backwards_even = then_even _ _ tilde (λ _ _ _ f. f)

pub edge_even : Even edge
unfolding edge
edge_even = then_even _ _ (perhaps (next (is_punct 126)) backwards false backwards_even) (λ _. then_even _ _ pred_even (λ _ _ _ f. f))

pub in_round_even : Even in_round_name
unfolding in_round_name
in_round_even = opened _ _ open_round (λ _. then_closes _ _ named (λ _. closed _ _ close_round (λ _ _ _ f. f)))

pub val_even : Even val
unfolding val
val_even = then_even _ _ (word_even (codes "val")) (λ _. in_round_even)

variable_even : Even variable
unfolding variable
variable_even = then_even _ _ named (λ _ r left f. then_even _ _ (word_even (codes "as")) (λ _ _ _ f. f) r left f)

pub any_variable_even : Even any_variable
unfolding any_variable
any_variable_even = perhaps (next_two is_name (is_word (codes "as"))) variable (None, 0) variable_even

alias_even : Even alias
unfolding alias
alias_even = then_even _ _ named (λ _. then_even _ _ colon (λ _ _ _ f. f))

pub any_alias_even : Even any_alias
unfolding any_alias
any_alias_even = perhaps (next_two is_name (is_punct 58)) alias None alias_even

-- ---- lists of nodes and of literals

node_even : Even (part (one_as node_meant))
node_even = token node_meant (λ _ _ _. refl)

comma_uid_even : (before : List UidArg) → Even (comma_uid before)
unfolding comma_uid
comma_uid_even before = then_even _ _ comma (λ _. then_even _ _ node_even (λ _ _ _ f. f))

pub uids_even : Even uids
unfolding uids
uids_even = then_even _ _ node_even (λ u. many (next (is_punct 44)) comma_uid comma_uid_even (u ∷ []))

pub lit_even : Even lit
unfolding lit
lit_even r left f = token literal_meant (λ _ _ _. refl) r _ f

comma_lit_even : (both : Bool) (before : List (List ℕ)) → Even (comma_lit both before)
unfolding comma_lit
comma_lit_even both before = then_even _ _ comma (λ _ r left f. then_even _ _ lit_even (λ _ _ _ f. f) r left f)

some_lits_even : (both : Bool) → Even (some_lits both)
unfolding some_lits
some_lits_even both = then_even _ _ lit_even (λ text. many (next (is_punct 44)) (comma_lit both) (comma_lit_even both) (text ∷ []))

square_lits_even : (both : Bool) → Even (square_lits both)
unfolding square_lits
square_lits_even both r left f =
    opened _ _ open_square (λ _ r l f. then_closes _ _ (some_lits_even both) (λ _. closed _ _ close_square (λ _ _ _ f. f)) r _ f) r left f

pub lits_even : (both : Bool) → Even (lits both)
unfolding lits
lits_even both = one_or (next (is_punct 91)) (square_lits both) (some_lits both) (square_lits_even both) (some_lits_even both)

-- ---- functions

count_of_even : Even count_of
unfolding count_of
count_of_even = then_even _ _ (word_even (codes "count")) (λ _. opened _ _ open_round (λ _. then_closes _ _ edge_even (λ _. closed _ _ close_round (λ _ _ _ f. f))))

val_of_even : Even val_of
unfolding val_of
val_of_even = then_even _ _ val_even (λ _ _ _ f. f)

pred_of_even : Even pred_of
unfolding pred_of
pred_of_even = then_even _ _ pred_even (λ _ _ _ f. f)

of_even : Even of
unfolding of
of_even = one_or (next (is_word (codes "count"))) count_of _ count_of_even (one_or (next (is_word (codes "val"))) val_of pred_of val_of_even pred_of_even)

comparison_even : (op : CmpOp) → Even (comparison op)
unfolding comparison
comparison_even op = then_even _ _ of_even (λ _. then_even _ _ comma (λ _. then_even _ _ (lits_even (takes_many op)) (λ _ _ _ f. f)))

between_even : Even between
unfolding between
between_even =
    then_even _ _ of_even (λ _. then_even _ _ comma (λ _. then_even _ _ lit_even (λ _. then_even _ _ comma (λ _. then_even _ _ lit_even (λ _ _ _ f. f)))))

has_even : Even has
unfolding has
has_even = then_even _ _ edge_even (λ _ _ _ f. f)

terms_even : (both : Bool) → Even (terms both)
unfolding terms
terms_even both = then_even _ _ pred_even (λ _. then_even _ _ comma (λ _. then_even _ _ (token quoted_meant (λ _ _ _. refl)) (λ _ _ _ f. f)))

regexp_even : Even regexp
unfolding regexp
regexp_even = then_even _ _ pred_even (λ _. then_even _ _ comma (λ _. then_even _ _ (token regex_meant (λ _ _ _. refl)) (λ _ _ _ f. f)))

uid_in_even : Even uid_in
unfolding uid_in
uid_in_even = then_even _ _ edge_even (λ _. then_even _ _ comma (λ _. then_even _ _ uids_even (λ _ _ _ f. f)))

named_uids_even : Even named_uids
unfolding named_uids
named_uids_even = then_even _ _ uids_even (λ _ _ _ f. f)

arguments_even : (w : FuncWord) → Even (arguments_of w)
unfolding arguments_of
arguments_even functions.Uid = named_uids_even
arguments_even (functions.Cmp op) = comparison_even op
arguments_even functions.Between = between_even
arguments_even functions.Has = has_even
arguments_even (functions.Terms both) = terms_even both
arguments_even functions.Regexp = regexp_even
arguments_even functions.UidIn = uid_in_even

pub func_even : (root : Bool) → Even (func root)
unfolding func
func_even root r left f =
    then_even _ _ (token function_meant (λ _ _ _. refl))
    (λ w r l f. opened _ _ open_round (λ _. then_closes _ _ (arguments_even w) (λ _. closed _ _ close_round (λ _ _ _ f. f))) r _ f) r left f

-- ---- arguments

val_order_even : Even val_order
unfolding val_order
val_order_even = then_even _ _ val_even (λ _ _ _ f. f)

pred_order_even : Even pred_order
unfolding pred_order
pred_order_even = then_even _ _ pred_even (λ _ _ _ f. f)

order_even : Even order
unfolding order
order_even = one_or (next (is_word (codes "val"))) val_order pred_order val_order_even pred_order_even

int_arg_even : (made : ℤ → QArg) → Even (int_arg made)
unfolding int_arg
int_arg_even made = then_even _ _ int_even (λ _ _ _ f. f)

node_arg_even : Even node_arg
unfolding node_arg
node_arg_even = then_even _ _ (token uid_meant (λ _ _ _. refl)) (λ _ _ _ f. f)

order_arg_even : (made : QOrder → QArg) → Even (order_arg made)
unfolding order_arg
order_arg_even made = then_even _ _ order_even (λ _ _ _ f. f)

value_even : (w : ArgWord) → Even (value_of w)
unfolding value_of
value_even arguments.First = int_arg_even _
value_even arguments.Offset = int_arg_even _
value_even arguments.After = node_arg_even
value_even arguments.Asc = order_arg_even _
value_even arguments.Desc = order_arg_even _

arg_even : Even arg
unfolding arg
arg_even = then_even _ _ (token argument_meant (λ _ _ _. refl)) (λ w. then_even _ _ colon (λ _. value_even w))

comma_arg_even : (before : List QArg) → Even (comma_arg before)
unfolding comma_arg
comma_arg_even before = then_even _ _ comma (λ _. then_even _ _ arg_even (λ _ _ _ f. f))

pub more_args_even : (before : List QArg) → Even (more_args before)
more_args_even before = many (next (is_punct 44)) comma_arg comma_arg_even before

some_args_even : Even some_args
unfolding some_args
some_args_even = then_even _ _ arg_even (λ a. more_args_even (a ∷ []))

pub bracketed_args_even : Even bracketed_args
unfolding bracketed_args
bracketed_args_even =
    opened _ _ open_round (λ _. then_closes _ _ (perhaps begins_arg some_args [] some_args_even) (λ _. closed _ _ close_round (λ _ _ _ f. f)))

-- ---- the options of @recurse

depth_even : (before : List QOpt) → Even (depth_option before)
unfolding depth_option
depth_even before r left f =
    then_even _ _ (word_even (codes "depth")) (λ _ r l f. then_even _ _ colon (λ _. then_even _ _ int_even (λ _ _ _ f. f)) r _ f) r left f

loop_even : (before : List QOpt) → Even (loop_option before)
unfolding loop_option
loop_even before r left f =
    then_even _ _ (word_even (codes "loop")) (λ _ r l f. then_even _ _ colon (λ _. then_even _ _ (token truth_meant (λ _ _ _. refl)) (λ _ _ _ f. f)) r _ f) r left f

ropt_even : (before : List QOpt) → Even (ropt before)
unfolding ropt
ropt_even before = one_or (next (is_word (codes "depth"))) (depth_option before) (loop_option before) (depth_even before) (loop_even before)

comma_ropt_even : (before : List QOpt) → Even (comma_ropt before)
unfolding comma_ropt
comma_ropt_even before = then_even _ _ comma (λ _. ropt_even before)

pub ropts_even : Even ropts
unfolding ropts
ropts_even =
    opened _ _ open_round (λ _. then_closes _ _ (ropt_even [])
    (λ first. then_closes _ _ (many (next (is_punct 44)) comma_ropt comma_ropt_even first) (λ _. closed _ _ close_round (λ _ _ _ f. f))))
