-- Arguments are read again.
use Rattle.std.proofs.Common.{◌≡◌, ℕ, suc, Bool, List, [], ◌∷◌, ◌++◌, flat_map, refl, sym, subst, arith}
use Rattle.std.specs.Prelude.{Some, codes}
use Rattle.std.specs.List.{AllByRecursion}
use Rattle.dg_text.specs.Cases.{Left, optional}
use Rattle.dg_text.specs.Marks.{open_round, close_round, comma, colon}
use Rattle.dg_text.specs.Reading.{next}
use Rattle.dg_text.specs.Said.{uid_meant}
use Rattle.dg_text.specs.Tokens.{Tok, is_punct, is_word}
use Rattle.dg_parse.specs.declared.query.QArg.{QArg}
use Rattle.dg_parse.specs.declared.query.QArg.TheVariants as args
use Rattle.dg_parse.specs.declared.query.QOrder.{QOrder}
use Rattle.dg_parse.specs.declared.query.QOrder.TheVariants as orders
use Rattle.dg_parse.specs.declared.words.ArgWord.{ArgWord}
use Rattle.dg_parse.specs.declared.words.ArgWord.TheVariants as words
use Rattle.dg_parse.specs.Arguments.{val_order, pred_order, order, int_arg, node_arg, order_arg, value_of, arg, comma_arg, more_args, begins_arg, some_args, bracketed_args}
use Rattle.dg_print.specs.Printed.{commas, order_words, arg_text, value_words, arg_words, args_words}
use Rattle.dg_text.specs.Spelling.{name_word, uid_word, mark_word}
use Rattle.dg_parse.specs.Words.{argument_meant}
use Rattle.dg_text.specs.Written.{Word, IsWord}
use Rattle.dg_print.proofs.Again.{Each, Reads, bind, gives, weaker, either, at_one, at_skip, words_append, never, on, tok_from, behind, on_append}
use Rattle.dg_print.proofs.FixedWords.{fixed, sign}
use Rattle.dg_print.proofs.Formed.{IsSpelled}
use Rattle.dg_print.proofs.FunctionsAgain.{not_count}
use Rattle.dg_print.proofs.Lists.{Added, Repeats, at_repeated, repeated_reads, all_of, items_of}
use Rattle.dg_print.proofs.LiteralsAgain.{is_comma}
use Rattle.dg_print.proofs.NamesAgain.{IsPred, IsNumber, at_int, int_reads, at_pred, pred_reads, at_val, val_reads}

-- an order can be written
abbrev pub IsOrder : QOrder → Type 0
IsOrder (orders.Pred p) = IsPred p
IsOrder (orders.Val x) = IsWord (name_word x)

at_order : (left : Left) → Each left (order left) (λ o l. IsOrder o)
unfolding order val_order pred_order
at_order left = either (next (is_word (codes "val")) left.tokens)
    (λ e. bind _ (at_val left) (λ x l. gives _ l (λ h. h)))
    (λ e. bind _ (at_pred left) (λ p l. gives _ l (λ h. h)))

order_reads : (o : QOrder) → IsOrder o → Reads order o (order_words o) never
unfolding order val_order pred_order
order_reads (orders.Pred p) h = record {
  words = (h.word, tt);
  again = λ f rest e. rw ((not_count p h).1, (pred_reads p h).again f rest refl) refl;
}
order_reads (orders.Val x) h = record {
  words = (val_reads x h).words;
  again = λ f rest e. rw ((val_reads x h).again f rest refl) refl;
}

-- an argument can be written
abbrev pub IsArg : QArg → Type 0
IsArg (args.First n) = IsNumber n
IsArg (args.Offset n) = IsNumber n
IsArg (args.After n) = IsSpelled uid_meant (uid_word n) n
IsArg (args.Asc o) = IsOrder o
IsArg (args.Desc o) = IsOrder o

at_value : (w : ArgWord) (left : Left) → Each left (value_of w left) (λ a l. IsArg a)
unfolding value_of int_arg node_arg order_arg
at_value words.First left = bind _ (at_int left) (λ n l. gives _ l (λ h. h))
at_value words.Offset left = bind _ (at_int left) (λ n l. gives _ l (λ h. h))
at_value words.After left = bind _ (at_one uid_meant left) (λ n l. gives _ l (λ h. h.formed.node n h.means))
at_value words.Asc left = bind _ (at_order left) (λ n l. gives _ l (λ h. h))
at_value words.Desc left = bind _ (at_order left) (λ n l. gives _ l (λ h. h))

at_arg : (left : Left) → Each left (arg left) (λ a l. IsArg a)
unfolding arg
at_arg left =
    bind _ (at_one argument_meant left)
    (λ w l. bind _ (at_skip (is_punct colon) l)
    (λ _ k. weaker (at_value w k) (λ a m h _ _. h)))

-- the word of an argument
abbrev word_of : QArg → ArgWord
word_of (args.First n) = words.First
word_of (args.Offset n) = words.Offset
word_of (args.After n) = words.After
word_of (args.Asc o) = words.Asc
word_of (args.Desc o) = words.Desc

arg_fixed : (a : QArg) → IsWord (name_word (arg_text a))
arg_fixed (args.First n) = fixed (codes "first") refl
arg_fixed (args.Offset n) = fixed (codes "offset") refl
arg_fixed (args.After n) = fixed (codes "after") refl
arg_fixed (args.Asc o) = fixed (codes "orderasc") refl
arg_fixed (args.Desc o) = fixed (codes "orderdesc") refl

arg_means : (a : QArg) (start : ℕ) → argument_meant (tok_from start (name_word (arg_text a))) ≡ Some (word_of a)
arg_means (args.First n) start = refl
arg_means (args.Offset n) start = refl
arg_means (args.After n) start = refl
arg_means (args.Asc o) start = refl
arg_means (args.Desc o) start = refl

value_reads : (a : QArg) → IsArg a → Reads (value_of (word_of a)) a (value_words a) never
unfolding value_of int_arg node_arg order_arg
value_reads (args.First n) h = record { words = (h.word, tt); again = λ f rest e. rw ((int_reads n h).again f rest refl) refl }
value_reads (args.Offset n) h = record { words = (h.word, tt); again = λ f rest e. rw ((int_reads n h).again f rest refl) refl }
value_reads (args.After n) h = record { words = (h.word, tt); again = λ f rest e. rw (h.reads (f 0)) refl }
value_reads (args.Asc o) h = record { words = (order_reads o h).words; again = λ f rest e. rw ((order_reads o h).again f rest refl) refl }
value_reads (args.Desc o) h = record { words = (order_reads o h).words; again = λ f rest e. rw ((order_reads o h).again f rest refl) refl }

arg_reads : (a : QArg) → IsArg a → Reads arg a (arg_words a) never
unfolding arg
arg_reads a h = record {
  words = (arg_fixed a, (sign 58 refl, (value_reads a h).words));
  again = λ f rest e. rw (arg_means a (f 0), (value_reads a h).again (λ n. f (suc (suc n))) rest refl) refl;
}

-- ---- lists of arguments

at_comma_arg : (before : List QArg) (left : Left) → Each left (comma_arg before left) (λ all l. Added (λ _ a. IsArg a) before all)
unfolding comma_arg
at_comma_arg before left =
    bind _ (at_skip (is_punct comma) left)
    (λ _ l. bind _ (at_arg l)
    (λ a k. gives _ k (λ h _. record { item = a; is = refl; good = h })))

args_repeat : Repeats (next (is_punct comma)) comma_arg (λ _ a. IsArg a) (λ a. mark_word comma ∷ arg_words a) never
unfolding comma_arg
args_repeat = record {
  reads = λ before a h. record {
    words = (sign 44 refl, (arg_reads a h).words);
    again = λ f rest e. rw ((arg_reads a h).again (λ n. f (suc n)) rest refl) refl;
  };
  begun = λ before a h f rest. refl;
  clear = λ before a h f rest. refl;
  some = λ before a h. omega arith;
}

-- arguments that can be written
abbrev pub AreArgs : List QArg → Type 0
AreArgs all = AllByRecursion IsArg all

pub at_more_args : (left : Left) → Each left (more_args [] left) (λ all l. AreArgs all)
at_more_args left = weaker (at_repeated (next (is_punct comma)) comma_arg (λ _ a. IsArg a) at_comma_arg [] left)
    (λ all l a. subst (λ (l : List QArg). AreArgs l) (sym a.is) (all_of IsArg [] a.items a.good))

pub more_args_read : (before all : List QArg) → AreArgs all → Reads (more_args before) (before ++ all) (flat_map (λ a. mark_word comma ∷ arg_words a) all) is_comma
more_args_read before all h = repeated_reads (next (is_punct comma)) comma_arg (λ _ a. IsArg a) (λ a. mark_word comma ∷ arg_words a) never args_repeat before all (items_of IsArg before all h)

at_some_args : (left : Left) → Each left (some_args left) (λ all l. AreArgs all)
unfolding some_args
at_some_args left =
    bind _ (at_arg left)
    (λ a l. weaker (at_repeated (next (is_punct comma)) comma_arg (λ _ a. IsArg a) at_comma_arg (a ∷ []) l)
    (λ all k m h. subst (λ (l : List QArg). AreArgs l) (sym m.is) (h, all_of IsArg (a ∷ []) m.items m.good)))

at_bracketed_args : (left : Left) → Each left (bracketed_args left) (λ all l. AreArgs all)
unfolding bracketed_args
at_bracketed_args left =
    bind _ (at_skip (is_punct open_round) left)
    (λ _ l. bind {X = λ all _. AreArgs all} _ (either (begins_arg l.tokens) (λ e. at_some_args l) (λ e. gives [] l tt))
    (λ all k. bind _ (at_skip (is_punct close_round) k)
    (λ _ m. gives all m (λ _ h _. h))))

pub at_args : (left : Left) → Each left (optional (next (is_punct open_round)) bracketed_args [] left) (λ all l. AreArgs all)
at_args left = either (next (is_punct open_round) left.tokens) (λ e. at_bracketed_args left) (λ e. gives [] left tt)

some_args_read : (a : QArg) (more : List QArg) → AreArgs (a ∷ more) → Reads some_args (a ∷ more) (commas arg_words (a ∷ more)) is_comma
unfolding some_args
some_args_read a more h =
    let words : List Word = flat_map (λ a. mark_word comma ∷ arg_words a) more in
    let rest : Reads (more_args (a ∷ [])) (a ∷ more) words is_comma = more_args_read (a ∷ []) more h.1 in
    record {
      words = words_append (arg_words a) words (arg_reads a h.0).words rest.words;
      again = λ f left e.
          rw (on_append f (arg_words a) words left, (arg_reads a h.0).again f (on (behind f (arg_words a)) words left) refl, rest.again (behind f (arg_words a)) left e) refl;
    }

-- "(" stands there
abbrev pub is_open : List Tok → Bool
is_open l = next (is_punct open_round) l

pub args_read : (all : List QArg) → AreArgs all → Reads (optional (next (is_punct open_round)) bracketed_args []) all (args_words all) is_open
unfolding bracketed_args
args_read [] h = record { words = tt; again = λ f rest e. rw e refl }
args_read (a ∷ more) h =
    let inner : List Word = commas arg_words (a ∷ more) in
    record {
      words = (sign 40 refl, words_append inner (mark_word 41 ∷ []) (some_args_read a more h).words (sign 41 refl, tt));
      again = λ f rest e.
          let g : ℕ → ℕ = λ n. f (suc n) in
          rw (arg_means a (f 1), on_append g inner (mark_word 41 ∷ []) rest, (some_args_read a more h).again g (on (behind g inner) (mark_word 41 ∷ []) rest) refl) refl;
    }
