-- What is printed of names, literals, functions, arguments and options opens no more brackets than what was read.
use Rattle.std.proofs.Common.{ℕ, suc, ◌≤◌, Bool, true, false, List, [], ◌∷◌, ◌++◌, length, flat_map, refl, sym, subst}
use Rattle.std.specs.Prelude.{not, if◌then◌else◌, ◌&&◌, codes}
use Rattle.std.specs.List.{AllByRecursion}
use Rattle.dg_text.specs.Cases.{Left, part, name, optional}
use Rattle.dg_text.specs.Marks.{open_round, close_round, open_square, close_square, comma, colon, tilde}
use Rattle.dg_text.specs.Patterns.{regex_meant}
use Rattle.dg_text.specs.Quoting.{quoted_word}
use Rattle.dg_text.specs.Reading.{next, one_as}
use Rattle.dg_text.specs.Said.{is_wide, quoted_meant, uid_meant}
use Rattle.dg_text.specs.Spelling.{name_word, uid_word, mark_word, regex_word}
use Rattle.dg_text.specs.Tokens.{is_punct, is_word}
use Rattle.dg_text.specs.Words.{name_meant, is_reserved_name}
use Rattle.dg_text.specs.Written.{Word}
use Rattle.dg_parse.specs.declared.query.QArg.{QArg}
use Rattle.dg_parse.specs.declared.query.QArg.TheVariants as args
use Rattle.dg_parse.specs.declared.query.QEdge.{QEdge}
use Rattle.dg_parse.specs.declared.query.QFunc.TheVariants as functions
use Rattle.dg_parse.specs.declared.query.QOf.TheVariants as parts
use Rattle.dg_parse.specs.declared.query.QOpt.{QOpt}
use Rattle.dg_parse.specs.declared.query.QOpt.TheVariants as options
use Rattle.dg_parse.specs.declared.query.QOrder.TheVariants as orders
use Rattle.dg_parse.specs.declared.query.UidArg.{UidArg}
use Rattle.dg_parse.specs.declared.query.UidArg.TheVariants as nodes
use Rattle.dg_parse.specs.declared.words.ArgWord.{ArgWord}
use Rattle.dg_parse.specs.declared.words.ArgWord.TheVariants as arg_kinds
use Rattle.dg_parse.specs.declared.words.FuncWord.{FuncWord}
use Rattle.dg_parse.specs.declared.words.FuncWord.TheVariants as words
use Rattle.dg_parse.specs.Arguments.{val_order, pred_order, order, int_arg, node_arg, order_arg, value_of, arg, comma_arg, more_args, begins_arg, some_args, bracketed_args}
use Rattle.dg_parse.specs.Directives.{has_depth, has_loop, depth_option, loop_option, ropt, comma_ropt, ropts}
use Rattle.dg_parse.specs.Functions.{count_of, val_of, pred_of, of, comparison, between, has, terms, regexp, uid_in, named_uids, arguments_of, is_uid_in, func, takes_many}
use Rattle.dg_parse.specs.Literals.{comma_uid, uids, lit, comma_lit, some_lits, square_lits, lits}
use Rattle.dg_parse.specs.Names.{int, pred, backwards, edge, in_round_name, val}
use Rattle.dg_print.specs.Printed.{in_round, between_words, commas, edge_words, val_words, node_words, lit_words, of_words, func_text, inner_words, func_words, order_words, arg_text, value_words, arg_words, args_words, opt_words, opts_words}
use Rattle.dg_parse.specs.Words.{number_meant, node_meant, literal_meant, function_meant, argument_meant, truth_meant}
use Rattle.dg_print.proofs.Lists.{Added, all_of}
use Rattle.dg_print.proofs.Nesting.{IsFlat, Low, Nothing, Flat, low_append, low_round, Kept, bind, gives, weaker, either, Any, at_also, at_here, at_skip, at_one, at_sign, at_open, at_close, at_repeated, at_any_turns}

-- ---- words

-- a Name among words
pub low_name : (n : ℕ) (x : List ℕ) (ws : List Word) → Low n ws → Low n (name_word x ∷ ws)
low_name n x ws l = Flat n (name_word x) ws (λ start. (refl, refl)) l

-- a comma among words
pub low_comma : (n : ℕ) (ws : List Word) → Low n ws → Low n (mark_word comma ∷ ws)
low_comma n ws l = Flat n (mark_word comma) ws (λ start. (refl, refl)) l

pub low_colon : (n : ℕ) (ws : List Word) → Low n ws → Low n (mark_word colon ∷ ws)
low_colon n ws l = Flat n (mark_word colon) ws (λ start. (refl, refl)) l

pub low_brackets : (n : ℕ) (ws : List Word) → suc n ≤ 32 → Low (suc n) ws → Low n (in_round ws)
low_brackets n ws le l = low_round n open_round close_round ws le (λ start. (refl, refl)) (λ start. (refl, refl)) l

pub low_edge : (n : ℕ) (e : QEdge) → Low n (edge_words e)
low_edge n e = by e.back
  where
    by : (back : Bool) → Low n (if back then mark_word tilde ∷ name_word e.pred ∷ [] else name_word e.pred ∷ [])
    by true = Flat n (mark_word tilde) (name_word e.pred ∷ []) (λ start. (refl, refl)) (low_name n e.pred [] (Nothing n))
    by false = low_name n e.pred [] (Nothing n)

pub low_flat_map : {X : Type 0} (n : ℕ) (words_of : X → List Word) (xs : List X) → AllByRecursion (λ x. Low n (words_of x)) xs → Low n (flat_map words_of xs)
low_flat_map n words_of [] a = Nothing n
low_flat_map n words_of (x ∷ xs) a = low_append n (words_of x) (flat_map words_of xs) a.0 (low_flat_map n words_of xs a.1)

low_behind : {X : Type 0} (n : ℕ) (w : Word) (words_of : X → List Word) → IsFlat w → (xs : List X) → AllByRecursion (λ x. Low n (words_of x)) xs → Low n (flat_map (λ y. w ∷ words_of y) xs)
low_behind n w words_of f [] a = Nothing n
low_behind n w words_of f (x ∷ xs) a = low_append n (w ∷ words_of x) (flat_map (λ y. w ∷ words_of y) xs) (Flat n w (words_of x) f a.0) (low_behind n w words_of f xs a.1)

pub low_between : {X : Type 0} (n : ℕ) (w : Word) (words_of : X → List Word) → IsFlat w → (xs : List X) → AllByRecursion (λ x. Low n (words_of x)) xs → Low n (between_words w words_of xs)
low_between n w words_of f [] a = Nothing n
low_between n w words_of f (x ∷ xs) a = low_append n (words_of x) (flat_map (λ y. w ∷ words_of y) xs) a.0 (low_behind n w words_of f xs a.1)

pub low_commas : {X : Type 0} (n : ℕ) (words_of : X → List Word) (xs : List X) → AllByRecursion (λ x. Low n (words_of x)) xs → Low n (commas words_of xs)
low_commas n words_of xs a = low_between n (mark_word comma) words_of (λ start. (refl, refl)) xs a

pub low_more : {X : Type 0} (n : ℕ) (words_of : X → List Word) (xs : List X) → AllByRecursion (λ x. Low n (words_of x)) xs → Low n (flat_map (λ y. mark_word comma ∷ words_of y) xs)
low_more n words_of xs a = low_behind n (mark_word comma) words_of (λ start. (refl, refl)) xs a

every : {X : Type 0} (P : X → Type 0) → ((x : X) → P x) → (xs : List X) → AllByRecursion P xs
every P p [] = tt
every P p (x ∷ xs) = (p x, every P p xs)

low_node : (n : ℕ) (u : UidArg) → Low n (node_words u)
low_node n (nodes.Uid k) = Flat n (uid_word k) [] (λ start. (refl, refl)) (Nothing n)
low_node n (nodes.Var x) = low_name n x [] (Nothing n)

low_lit : (n : ℕ) (x : List ℕ) → Low n (lit_words x)
low_lit n x = Flat n (quoted_word x) [] (λ start. (refl, refl)) (Nothing n)

-- ---- names and numbers

pub at_name : {n : ℕ} (left : Left) → Kept n n left (name left) Any
at_name left = at_one name_meant left (λ b t s. refl)

pub at_pred : {n : ℕ} (left : Left) → Kept n n left (pred left) Any
unfolding pred
at_pred left = bind _ (at_also (length left.tokens) (next is_reserved_name left.tokens && true) left) (λ _ l. weaker (at_name l) (λ x _ _. tt))

pub at_int : {n : ℕ} (left : Left) → Kept n n left (int left) Any
unfolding int
at_int left = bind _ (at_also (length left.tokens) (next is_wide left.tokens && true) left) (λ _ l. weaker (at_one number_meant l (λ b t s. refl)) (λ x _ _. tt))

pub at_edge : {n : ℕ} (left : Left) → Kept n n left (edge left) Any
unfolding edge backwards
at_edge left =
    bind {X = Any} _ (either (next (is_punct tilde) left.tokens)
    (λ e. bind _ (at_sign tilde left (λ t s. (refl, refl))) (λ _ l. gives true l (λ _. tt)))
    (λ e. gives false left tt))
    (λ back l. bind _ (at_pred l) (λ p k. gives _ k (λ _ _. tt)))

-- "(" Name ")"
pub at_round_name : {n : ℕ} (left : Left) → Kept n n left (in_round_name left) (λ x. suc n ≤ 32)
unfolding in_round_name
at_round_name left =
    bind _ (at_open open_round left (λ t s. (refl, refl)))
    (λ _ l. bind _ (at_name l)
    (λ x k. bind _ (at_close close_round k (λ t s. (refl, refl)))
    (λ _ m. gives x m (λ _ _ le. le))))

pub low_val : (n : ℕ) (x : List ℕ) → suc n ≤ 32 → Low n (val_words x)
low_val n x le = low_name n (codes "val") (in_round (name_word x ∷ [])) (low_brackets n (name_word x ∷ []) le (low_name (suc n) x [] (Nothing (suc n))))

pub at_val : {n : ℕ} (left : Left) → Kept n n left (val left) (λ x. Low n (val_words x))
unfolding val
at_val {n} left =
    bind _ (at_skip (is_word (codes "val")) left (λ b t s. refl))
    (λ _ l. weaker (at_round_name l) (λ x le _. low_val n x le))

-- ---- lists

at_node : {n : ℕ} (left : Left) → Kept n n left (part (one_as node_meant) left) Any
at_node left = at_one node_meant left (λ b t s. refl)

at_uids : {n : ℕ} (left : Left) → Kept n n left (uids left) (λ us. Low n (commas node_words us))
unfolding uids comma_uid
at_uids {n} left =
    bind _ (at_node left)
    (λ u l. weaker (at_any_turns (next (is_punct comma)) comma_uid Any
    (λ before k. bind _ (at_sign comma k (λ t s. (refl, refl))) (λ _ m. bind _ (at_node m) (λ v q. gives _ q (λ _ _ x. x))))
    (length l.tokens) (u ∷ []) l)
    (λ us _ _. low_commas n node_words us (every (λ u. Low n (node_words u)) (low_node n) us)))

at_lit : {n : ℕ} (left : Left) → Kept n n left (lit left) Any
unfolding lit
at_lit left = bind _ (at_also (length left.tokens) (next is_wide left.tokens && true) left) (λ _ l. weaker (at_one literal_meant l (λ b t s. refl)) (λ x _ _. tt))

at_some_lits : {n : ℕ} (many : Bool) (left : Left) → Kept n n left (some_lits many left) Any
unfolding some_lits comma_lit
at_some_lits many left =
    bind _ (at_lit left)
    (λ x l. weaker (at_any_turns (next (is_punct comma)) (comma_lit many) Any
    (λ before k. bind _ (at_sign comma k (λ t s. (refl, refl))) (λ _ m. bind _ (at_here m) (λ place p. bind _ (at_lit p) (λ y q. bind _ (at_also place (not many) q) (λ _ r. gives (before ++ y ∷ []) r (λ _ _ _ _ x. x))))))
    (length l.tokens) (x ∷ []) l)
    (λ xs _ _. tt))

at_lits : {n : ℕ} (many : Bool) (left : Left) → Kept n n left (lits many left) (λ ls. Low n (commas lit_words ls))
unfolding lits square_lits
at_lits {n} many left = weaker {X = Any} (either (next (is_punct open_square) left.tokens)
    (λ e. bind _ (at_here left)
    (λ place l. bind _ (at_open open_square l (λ t s. (refl, refl)))
    (λ _ k. bind _ (at_also place (not many) k)
    (λ _ m. bind _ (at_some_lits many m)
    (λ ls p. bind _ (at_close close_square p (λ t s. (refl, refl)))
    (λ _ q. gives ls q (λ _ _ _ _ _. tt)))))))
    (λ e. at_some_lits many left))
    (λ ls _. low_commas n lit_words ls (every (λ x. Low n (lit_words x)) (low_lit n) ls))

-- ---- functions

at_of : {n : ℕ} (left : Left) → Kept n n left (of left) (λ o. Low n (of_words o))
unfolding of count_of val_of pred_of
at_of {n} left = either (next (is_word (codes "count")) left.tokens)
    (λ e. bind _ (at_skip (is_word (codes "count")) left (λ b t s. refl))
    (λ _ l. bind _ (at_open open_round l (λ t s. (refl, refl)))
    (λ _ k. bind _ (at_edge k)
    (λ edg m. bind _ (at_close close_round m (λ t s. (refl, refl)))
    (λ _ p. gives (parts.Count edg) p (λ _ _ le _. low_name n (codes "count") (in_round (edge_words edg)) (low_brackets n (edge_words edg) le (low_edge (suc n) edg))))))))
    (λ e. either (next (is_word (codes "val")) left.tokens)
    (λ e. bind _ (at_val left) (λ x l. gives (parts.Val x) l (λ h. h)))
    (λ e. bind _ (at_pred left) (λ p l. gives (parts.Pred p) l (λ _. low_name n p [] (Nothing n)))))

at_arguments : {n : ℕ} (w : FuncWord) (left : Left) → Kept n n left (arguments_of w left) (λ f. Low n (inner_words f))
unfolding arguments_of named_uids comparison between has terms regexp uid_in
at_arguments words.Uid left = bind _ (at_uids left) (λ us l. gives (functions.Uid us) l (λ h. h))
at_arguments {n} (words.Cmp op) left =
    bind _ (at_of left)
    (λ o l. bind _ (at_sign comma l (λ t s. (refl, refl)))
    (λ _ k. bind _ (at_lits (takes_many op) k)
    (λ ls m. gives (functions.Cmp op o ls) m (λ hl _ ho. low_append n (of_words o) (mark_word comma ∷ commas lit_words ls) ho (low_comma n (commas lit_words ls) hl)))))
at_arguments {n} words.Between left =
    bind _ (at_of left)
    (λ o l. bind _ (at_sign comma l (λ t s. (refl, refl)))
    (λ _ k. bind _ (at_lit k)
    (λ low m. bind _ (at_sign comma m (λ t s. (refl, refl)))
    (λ _ p. bind _ (at_lit p)
    (λ high q. gives (functions.Between o low high) q (λ _ _ _ _ ho.
    low_append n (of_words o) (mark_word comma ∷ quoted_word low ∷ mark_word comma ∷ quoted_word high ∷ []) ho
    (low_comma n (quoted_word low ∷ mark_word comma ∷ quoted_word high ∷ []) (Flat n (quoted_word low) (mark_word comma ∷ quoted_word high ∷ []) (λ start. (refl, refl)) (low_comma n (quoted_word high ∷ []) (low_lit n high))))))))))
at_arguments {n} words.Has left = bind _ (at_edge left) (λ e l. gives (functions.Has e) l (λ h. low_edge n e))
at_arguments {n} (words.Terms all) left =
    bind _ (at_pred left)
    (λ p l. bind _ (at_sign comma l (λ t s. (refl, refl)))
    (λ _ k. bind _ (at_one quoted_meant k (λ b t s. refl))
    (λ text m. gives (functions.Terms all p text) m (λ _ _ _. low_name n p (mark_word comma ∷ quoted_word text ∷ []) (low_comma n (quoted_word text ∷ []) (low_lit n text))))))
at_arguments {n} words.Regexp left =
    bind _ (at_pred left)
    (λ p l. bind _ (at_sign comma l (λ t s. (refl, refl)))
    (λ _ k. bind _ (at_one regex_meant k (λ b t s. refl))
    (λ r m. gives (functions.Regexp p r.0 r.1) m (λ _ _ _. low_name n p (mark_word comma ∷ regex_word r.0 r.1 ∷ []) (low_comma n (regex_word r.0 r.1 ∷ []) (Flat n (regex_word r.0 r.1) [] (λ start. (refl, refl)) (Nothing n)))))))
at_arguments {n} words.UidIn left =
    bind _ (at_edge left)
    (λ e l. bind _ (at_sign comma l (λ t s. (refl, refl)))
    (λ _ k. bind _ (at_uids k)
    (λ us m. gives (functions.UidIn e us) m (λ hu _ _. low_append n (edge_words e) (mark_word comma ∷ commas node_words us) (low_edge n e) (low_comma n (commas node_words us) hu)))))

pub at_func : {n : ℕ} (root : Bool) (left : Left) → Kept n n left (func root left) (λ f. Low n (func_words f))
unfolding func
at_func {n} root left =
    bind _ (at_here left)
    (λ place l. bind _ (at_one function_meant l (λ b t s. refl))
    (λ w k. bind _ (at_also place (root && is_uid_in w) k)
    (λ _ m. bind _ (at_open open_round m (λ t s. (refl, refl)))
    (λ _ p. bind _ (at_arguments w p)
    (λ f q. bind _ (at_close close_round q (λ t s. (refl, refl)))
    (λ _ r. gives f r (λ _ hf le _ _ _. low_name n (func_text f) (in_round (inner_words f)) (low_brackets n (inner_words f) le hf))))))))

-- ---- arguments

at_order : {n : ℕ} (left : Left) → Kept n n left (order left) (λ o. Low n (order_words o))
unfolding order val_order pred_order
at_order {n} left = either (next (is_word (codes "val")) left.tokens)
    (λ e. bind _ (at_val left) (λ x l. gives (orders.Val x) l (λ h. h)))
    (λ e. bind _ (at_pred left) (λ p l. gives (orders.Pred p) l (λ _. low_name n p [] (Nothing n))))

low_one : (n : ℕ) (w : Word) → IsFlat w → Low n (w ∷ [])
low_one n w f = Flat n w [] f (Nothing n)

at_value : {n : ℕ} (w : ArgWord) (left : Left) → Kept n n left (value_of w left) (λ a. Low n (value_words a))
unfolding value_of int_arg node_arg order_arg
at_value {n} arg_kinds.First left = bind _ (at_int left) (λ z l. gives (args.First z) l (λ _. low_one n _ (λ start. (refl, refl))))
at_value {n} arg_kinds.Offset left = bind _ (at_int left) (λ z l. gives (args.Offset z) l (λ _. low_one n _ (λ start. (refl, refl))))
at_value {n} arg_kinds.After left = bind _ (at_one uid_meant left (λ b t s. refl)) (λ u l. gives (args.After u) l (λ _. low_one n _ (λ start. (refl, refl))))
at_value arg_kinds.Asc left = bind _ (at_order left) (λ o l. gives (args.Asc o) l (λ h. h))
at_value arg_kinds.Desc left = bind _ (at_order left) (λ o l. gives (args.Desc o) l (λ h. h))

at_arg : {n : ℕ} (left : Left) → Kept n n left (arg left) (λ a. Low n (arg_words a))
unfolding arg
at_arg {n} left =
    bind _ (at_one argument_meant left (λ b t s. refl))
    (λ w l. bind _ (at_sign colon l (λ t s. (refl, refl)))
    (λ _ k. weaker (at_value w k) (λ a h _ _. low_name n (arg_text a) (mark_word colon ∷ value_words a) (low_colon n (value_words a) h))))

at_comma_arg : {n : ℕ} (before : List QArg) (left : Left) → Kept n n left (comma_arg before left) (λ all. Added (λ _ a. Low n (arg_words a)) before all)
unfolding comma_arg
at_comma_arg before left =
    bind _ (at_sign comma left (λ t s. (refl, refl)))
    (λ _ l. bind _ (at_arg l)
    (λ a k. gives _ k (λ h _. record { item = a; is = refl; good = h })))

-- arguments that open no more
abbrev pub LowArgs : ℕ → List QArg → Type 0
LowArgs n all = AllByRecursion (λ a. Low n (arg_words a)) all

pub at_more_args : {n : ℕ} (left : Left) → Kept n n left (more_args [] left) (λ all. LowArgs n all)
at_more_args {n} left = weaker (at_repeated (next (is_punct comma)) comma_arg (λ a. Low n (arg_words a)) at_comma_arg [] left)
    (λ all a. subst (λ (l : List QArg). LowArgs n l) (sym a.is) (all_of (λ a. Low n (arg_words a)) [] a.items a.good))

at_some_args : {n : ℕ} (left : Left) → Kept n n left (some_args left) (λ all. LowArgs n all)
unfolding some_args
at_some_args {n} left =
    bind _ (at_arg left)
    (λ a l. weaker (at_repeated (next (is_punct comma)) comma_arg (λ a. Low n (arg_words a)) at_comma_arg (a ∷ []) l)
    (λ all m h. subst (λ (l : List QArg). LowArgs n l) (sym m.is) (h, all_of (λ a. Low n (arg_words a)) (a ∷ []) m.items m.good)))

low_args : (n : ℕ) (all : List QArg) → suc n ≤ 32 → LowArgs (suc n) all → Low n (args_words all)
low_args n [] le h = Nothing n
low_args n (a ∷ more) le h = low_brackets n (commas arg_words (a ∷ more)) le (low_commas (suc n) arg_words (a ∷ more) h)

pub at_args : {n : ℕ} (left : Left) → Kept n n left (optional (next (is_punct open_round)) bracketed_args [] left) (λ all. Low n (args_words all))
unfolding bracketed_args
at_args {n} left = either (next (is_punct open_round) left.tokens)
    (λ e. bind _ (at_open open_round left (λ t s. (refl, refl)))
    (λ _ l. bind {X = λ all. LowArgs (suc n) all} _ (either (begins_arg l.tokens) (λ e. at_some_args l) (λ e. gives [] l tt))
    (λ all k. bind _ (at_close close_round k (λ t s. (refl, refl)))
    (λ _ m. gives all m (λ _ h le. low_args n all le h)))))
    (λ e. gives [] left (Nothing n))

-- ---- options

low_opt : (n : ℕ) (o : QOpt) → Low n (opt_words o)
low_opt n (options.Depth z) = low_name n (codes "depth") _ (low_colon n _ (low_one n _ (λ start. (refl, refl))))
low_opt n (options.Again b) = low_name n (codes "loop") _ (low_colon n _ (low_one n _ (λ start. (refl, refl))))

at_ropt : {n : ℕ} (before : List QOpt) (left : Left) → Kept n n left (ropt before left) Any
unfolding ropt depth_option loop_option
at_ropt before left = either (next (is_word (codes "depth")) left.tokens)
    (λ e. bind _ (at_here left)
    (λ place l. bind _ (at_skip (is_word (codes "depth")) l (λ b t s. refl))
    (λ _ k. bind _ (at_also place (has_depth before) k)
    (λ _ m. bind _ (at_sign colon m (λ t s. (refl, refl)))
    (λ _ p. bind _ (at_int p)
    (λ z q. gives (before ++ options.Depth z ∷ []) q (λ _ _ _ _ _. tt)))))))
    (λ e. bind _ (at_here left)
    (λ place l. bind _ (at_skip (is_word (codes "loop")) l (λ b t s. refl))
    (λ _ k. bind _ (at_also place (has_loop before) k)
    (λ _ m. bind _ (at_sign colon m (λ t s. (refl, refl)))
    (λ _ p. bind _ (at_one truth_meant p (λ b t s. refl))
    (λ z q. gives (before ++ options.Again z ∷ []) q (λ _ _ _ _ _. tt)))))))

low_opts : (n : ℕ) (all : List QOpt) → suc n ≤ 32 → Low n (opts_words all)
low_opts n [] le = Nothing n
low_opts n (o ∷ more) le = low_brackets n (commas opt_words (o ∷ more)) le (low_commas (suc n) opt_words (o ∷ more) (every (λ o. Low (suc n) (opt_words o)) (low_opt (suc n)) (o ∷ more)))

pub at_opts : {n : ℕ} (left : Left) → Kept n n left (optional (next (is_punct open_round)) ropts [] left) (λ all. Low n (opts_words all))
unfolding ropts comma_ropt
at_opts {n} left = either (next (is_punct open_round) left.tokens)
    (λ e. bind _ (at_open open_round left (λ t s. (refl, refl)))
    (λ _ l. bind _ (at_ropt [] l)
    (λ first k. bind _ (at_any_turns (next (is_punct comma)) comma_ropt Any
    (λ before m. bind _ (at_sign comma m (λ t s. (refl, refl))) (λ _ p. weaker (at_ropt before p) (λ all _ _ x. x)))
    (length k.tokens) first k)
    (λ all m. bind _ (at_close close_round m (λ t s. (refl, refl)))
    (λ _ p. gives all p (λ _ _ _ le. low_opts n all le))))))
    (λ e. gives [] left (Nothing n))
