-- Functions are read again.
use Rattle.std.proofs.Common.{◌≡◌, ℕ, suc, ◌<◌, Bool, true, false, ◌||◌, List, [], ◌∷◌, ap, refl, sym, ◌∙◌, subst}
use Rattle.std.specs.Prelude.{Some, Ok, ◌&&◌, codes}
use Rattle.std.specs.Str.{bytes_eq}
use Rattle.std.proofs.lemmas.Bool.{false≢true}
use Rattle.dg_text.specs.Cases.{Left}
use Rattle.dg_text.specs.Marks.{open_round, close_round, comma}
use Rattle.dg_text.specs.Patterns.{regex_meant}
use Rattle.dg_text.specs.Reading.{next}
use Rattle.dg_text.specs.Said.{quoted_meant}
use Rattle.dg_text.specs.Tokens.{Tok, is_punct, is_word}
use Rattle.dg_parse.specs.declared.query.CmpOp.{CmpOp}
use Rattle.dg_parse.specs.declared.query.CmpOp.TheVariants as ops
use Rattle.dg_parse.specs.declared.query.QFunc.{QFunc}
use Rattle.dg_parse.specs.declared.query.QFunc.TheVariants as functions
use Rattle.dg_parse.specs.declared.query.QOf.{QOf}
use Rattle.dg_parse.specs.declared.query.QOf.TheVariants as parts
use Rattle.dg_parse.specs.declared.words.FuncWord.{FuncWord}
use Rattle.dg_parse.specs.declared.words.FuncWord.TheVariants as words
use Rattle.dg_parse.specs.Functions.{count_of, val_of, pred_of, of, comparison, between, has, terms, regexp, uid_in, named_uids, arguments_of, is_uid_in, func, takes_many}
use Rattle.dg_print.specs.Printed.{commas, edge_words, node_words, lit_words, of_words, cmp_text, func_text, inner_words, func_words}
use Rattle.dg_text.specs.Quoting.{quoted_word}
use Rattle.dg_text.specs.Spelling.{name_word, regex_word, mark_word}
use Rattle.dg_parse.specs.Words.{function_meant}
use Rattle.dg_text.specs.Written.{IsWord}
use Rattle.dg_print.proofs.Again.{Each, Reads, Took, bind, gives, either, at_one, at_skip, at_also, at_here, some_took, last_reads, unbarred, words_append, never, on, tok_from, behind, on_append}
use Rattle.dg_print.proofs.FixedWords.{fixed, sign}
use Rattle.dg_print.proofs.Formed.{IsSpelled}
use Rattle.dg_print.proofs.LiteralsAgain.{is_comma, AreNodes, AreLits, IsText, at_uids, uids_reads, at_lit, lit_reads, at_lits, lits_reads}
use Rattle.dg_print.proofs.NamesAgain.{IsPred, at_pred, pred_reads, at_edge, edge_reads, at_val, val_reads}

-- ---- what is compared

-- what is compared can be written
abbrev pub IsOf : QOf → Type 0
IsOf (parts.Pred p) = IsPred p
IsOf (parts.Count e) = IsPred e.pred
IsOf (parts.Val x) = IsWord (name_word x)

pub at_of : (left : Left) → Each left (of left) (λ o l. IsOf o)
unfolding of count_of val_of pred_of
at_of left = either (next (is_word (codes "count")) left.tokens)
    (λ e. bind _ (at_skip (is_word (codes "count")) left)
    (λ _ l. bind _ (at_skip (is_punct open_round) l)
    (λ _ k. bind _ (at_edge k)
    (λ e m. bind _ (at_skip (is_punct close_round) m)
    (λ _ n. gives _ n (λ _ h _ _. h))))))
    (λ e. either (next (is_word (codes "val")) left.tokens)
    (λ e. bind _ (at_val left) (λ x l. gives _ l (λ h. h)))
    (λ e. bind _ (at_pred left) (λ p l. gives _ l (λ h. h))))

-- none of the words that the language keeps
not_reserved : (p : List ℕ) (a b c d e f g h : Bool) → (a || b || c || d || e || f || g || h) ≡ false → (b ≡ false) × (c ≡ false)
not_reserved p false false false d e f g h n = (refl, refl)
not_reserved p true b c d e f g h n = absurd (false≢true (sym n))
not_reserved p false true c d e f g h n = absurd (false≢true (sym n))
not_reserved p false false true d e f g h n = absurd (false≢true (sym n))

-- a predicate is neither the word count nor the word val
pub not_count : (p : List ℕ) → IsPred p → (bytes_eq p (codes "count") ≡ false) × (bytes_eq p (codes "val") ≡ false)
not_count p h = not_reserved p _ _ _ _ _ _ _ _ h.free

pub of_reads : (o : QOf) → IsOf o → Reads of o (of_words o) never
unfolding of count_of val_of pred_of
of_reads (parts.Pred p) h = record {
  words = (h.word, tt);
  again = λ f rest e. rw ((not_count p h).0, (not_count p h).1, (pred_reads p h).again f rest refl) refl;
}
of_reads (parts.Count edg) h = record {
  words = (fixed (codes "count") refl, (sign 40 refl, words_append (edge_words edg) (mark_word 41 ∷ []) (edge_reads edg h).words (sign 41 refl, tt)));
  again = λ f rest e.
      rw (on_append (λ n. f (suc (suc n))) (edge_words edg) (mark_word 41 ∷ []) rest, (edge_reads edg h).again (λ n. f (suc (suc n))) (on (behind (λ n. f (suc (suc n))) (edge_words edg)) (mark_word 41 ∷ []) rest) refl) refl;
}
of_reads (parts.Val x) h = record {
  words = (val_reads x h).words;
  again = λ f rest e. rw ((val_reads x h).again f rest refl) refl;
}

-- ---- what stands in the brackets

-- the word of a function
abbrev pub word_of : QFunc → FuncWord
word_of (functions.Uid us) = words.Uid
word_of (functions.Cmp op o ls) = words.Cmp op
word_of (functions.Between o low high) = words.Between
word_of (functions.Has e) = words.Has
word_of (functions.Terms all p text) = words.Terms all
word_of (functions.Regexp p pattern fold) = words.Regexp
word_of (functions.UidIn e us) = words.UidIn

-- a function can be written
abbrev pub IsFunc : QFunc → Type 0
IsFunc (functions.Uid us) = AreNodes us
IsFunc (functions.Cmp op o ls) = IsOf o × AreLits (takes_many op) ls
IsFunc (functions.Between o low high) = IsOf o × IsText low × IsText high
IsFunc (functions.Has e) = IsPred e.pred
IsFunc (functions.Terms all p text) = IsPred p × IsText text
IsFunc (functions.Regexp p pattern fold) = IsPred p × IsSpelled regex_meant (regex_word pattern fold) (pattern, fold)
IsFunc (functions.UidIn e us) = IsPred e.pred × AreNodes us

-- the function that stands behind a word
pub record IsFuncOf (w : FuncWord) (f : QFunc) : Type 0 where
  pub good : IsFunc f
  pub of_word : word_of f ≡ w

quoted_took : {tokens : List Tok} {x : List ℕ} → Took quoted_meant tokens x → IsText x
quoted_took {x = x} k = k.formed.text x

at_arguments : (w : FuncWord) (left : Left) → Each left (arguments_of w left) (λ f l. IsFuncOf w f)
unfolding arguments_of named_uids comparison between has terms regexp uid_in
at_arguments words.Uid left = bind _ (at_uids left) (λ us l. gives _ l (λ h. record { good = h; of_word = refl }))
at_arguments (words.Cmp op) left =
    bind _ (at_of left)
    (λ o l. bind _ (at_skip (is_punct comma) l)
    (λ _ k. bind _ (at_lits (takes_many op) k)
    (λ ls m. gives _ m (λ hl _ ho. record { good = (ho, hl); of_word = refl }))))
at_arguments words.Between left =
    bind _ (at_of left)
    (λ o l. bind _ (at_skip (is_punct comma) l)
    (λ _ k. bind _ (at_lit k)
    (λ low m. bind _ (at_skip (is_punct comma) m)
    (λ _ n. bind _ (at_lit n)
    (λ high q. gives _ q (λ hh _ hl _ ho. record { good = (ho, hl.0, hh.0); of_word = refl }))))))
at_arguments words.Has left = bind _ (at_edge left) (λ e l. gives _ l (λ h. record { good = h; of_word = refl }))
at_arguments (words.Terms all) left =
    bind _ (at_pred left)
    (λ p l. bind _ (at_skip (is_punct comma) l)
    (λ _ k. bind _ (at_one quoted_meant k)
    (λ text m. gives _ m (λ ht _ hp. record { good = (hp, quoted_took ht); of_word = refl }))))
at_arguments words.Regexp left =
    bind _ (at_pred left)
    (λ p l. bind _ (at_skip (is_punct comma) l)
    (λ _ k. bind _ (at_one regex_meant k)
    (λ r m. gives _ m (λ ht _ hp. record { good = (hp, ht.formed.pattern r ht.means); of_word = refl }))))
at_arguments words.UidIn left =
    bind _ (at_edge left)
    (λ e l. bind _ (at_skip (is_punct comma) l)
    (λ _ k. bind _ (at_uids k)
    (λ us m. gives _ m (λ hu _ he. record { good = (he, hu); of_word = refl }))))

arguments_reads : (fn : QFunc) → IsFunc fn → Reads (arguments_of (word_of fn)) fn (inner_words fn) is_comma
unfolding arguments_of named_uids comparison between has terms regexp uid_in
arguments_reads (functions.Uid us) h = last_reads (functions.Uid us) (λ us l. Ok (functions.Uid us, l)) (uids_reads us h) (λ l. refl)
arguments_reads (functions.Cmp op o ls) h = record {
  words = words_append (of_words o) (mark_word 44 ∷ commas lit_words ls) (of_reads o h.0).words (sign 44 refl, (lits_reads (takes_many op) ls h.1).words);
  again = λ f rest e.
      let g : ℕ → ℕ = behind f (of_words o) in
      rw (
        on_append f (of_words o) (mark_word 44 ∷ commas lit_words ls) rest,
        (of_reads o h.0).again f (on g (mark_word 44 ∷ commas lit_words ls) rest) refl,
        (lits_reads (takes_many op) ls h.1).again (λ n. g (suc n)) rest e,
      ) refl;
}
arguments_reads (functions.Between o low high) h = record {
  words = words_append (of_words o) (mark_word 44 ∷ quoted_word low ∷ mark_word 44 ∷ quoted_word high ∷ []) (of_reads o h.0).words (sign 44 refl, (h.1.word, (sign 44 refl, (h.2.word, tt))));
  again = λ f rest e.
      let g : ℕ → ℕ = behind f (of_words o) in
      rw (
        on_append f (of_words o) (mark_word 44 ∷ quoted_word low ∷ mark_word 44 ∷ quoted_word high ∷ []) rest,
        (of_reads o h.0).again f (on g (mark_word 44 ∷ quoted_word low ∷ mark_word 44 ∷ quoted_word high ∷ []) rest) refl,
        (lit_reads low h.1).again (λ n. g (suc n)) (on (λ n. g (suc (suc n))) (mark_word 44 ∷ quoted_word high ∷ []) rest) refl,
        (lit_reads high h.2).again (λ n. g (suc (suc (suc n)))) rest refl,
      ) refl;
}
arguments_reads (functions.Has edg) h = unbarred (last_reads (functions.Has edg) (λ e l. Ok (functions.Has e, l)) (edge_reads edg h) (λ l. refl))
arguments_reads (functions.Terms all p text) h = record {
  words = (h.0.word, (sign 44 refl, (h.1.word, tt)));
  again = λ f rest e.
      rw ((pred_reads p h.0).again f (on (λ n. f (suc n)) (mark_word 44 ∷ quoted_word text ∷ []) rest) refl, h.1.reads (f 2)) refl;
}
arguments_reads (functions.Regexp p pattern fold) h = record {
  words = (h.0.word, (sign 44 refl, (h.1.word, tt)));
  again = λ f rest e.
      rw ((pred_reads p h.0).again f (on (λ n. f (suc n)) (mark_word 44 ∷ regex_word pattern fold ∷ []) rest) refl, h.1.reads (f 2)) refl;
}
arguments_reads (functions.UidIn edg us) h = record {
  words = words_append (edge_words edg) (mark_word 44 ∷ commas node_words us) (edge_reads edg h.0).words (sign 44 refl, (uids_reads us h.1).words);
  again = λ f rest e.
      let g : ℕ → ℕ = behind f (edge_words edg) in
      rw (
        on_append f (edge_words edg) (mark_word 44 ∷ commas node_words us) rest,
        (edge_reads edg h.0).again f (on g (mark_word 44 ∷ commas node_words us) rest) refl,
        (uids_reads us h.1).again (λ n. g (suc n)) rest e,
      ) refl;
}

-- ---- func

-- a function that can be written, at a root or not
pub record IsFuncAt (root : Bool) (f : QFunc) : Type 0 where
  pub good : IsFunc f
  pub fits : (root && is_uid_in (word_of f)) ≡ false

func_at : (root : Bool) (w : FuncWord) (f : QFunc) → IsFuncOf w f → (root && is_uid_in w) ≡ false → IsFuncAt root f
func_at root w f h e = record { good = h.good; fits = ap (λ v. root && is_uid_in v) h.of_word ∙ e }

pub at_func : (root : Bool) (left : Left) → Each left (func root left) (λ f l. IsFuncAt root f)
unfolding func
at_func root left =
    bind _ (at_here left)
    (λ place l. bind _ (at_one function_meant l)
    (λ w k. bind _ (at_also place (root && is_uid_in w) k)
    (λ _ m. bind _ (at_skip (is_punct open_round) m)
    (λ _ n. bind _ (at_arguments w n)
    (λ f q. bind _ (at_skip (is_punct close_round) q)
    (λ _ r. gives f r (λ _ hf _ also took here. func_at root w f hf (also.0 (subst (λ (n : ℕ). 0 < n) (sym here) (some_took took))))))))))

cmp_fixed : (op : CmpOp) → IsWord (name_word (cmp_text op))
cmp_fixed ops.Eq = fixed (codes "eq") refl
cmp_fixed ops.Le = fixed (codes "le") refl
cmp_fixed ops.Lt = fixed (codes "lt") refl
cmp_fixed ops.Ge = fixed (codes "ge") refl
cmp_fixed ops.Gt = fixed (codes "gt") refl

func_fixed : (f : QFunc) → IsWord (name_word (func_text f))
func_fixed (functions.Uid us) = fixed (codes "uid") refl
func_fixed (functions.Cmp op o ls) = cmp_fixed op
func_fixed (functions.Between o low high) = fixed (codes "between") refl
func_fixed (functions.Has e) = fixed (codes "has") refl
func_fixed (functions.Terms true p text) = fixed (codes "allofterms") refl
func_fixed (functions.Terms false p text) = fixed (codes "anyofterms") refl
func_fixed (functions.Regexp p pattern fold) = fixed (codes "regexp") refl
func_fixed (functions.UidIn e us) = fixed (codes "uid_in") refl

cmp_means : (op : CmpOp) (start : ℕ) → function_meant (tok_from start (name_word (cmp_text op))) ≡ Some (words.Cmp op)
cmp_means ops.Eq start = refl
cmp_means ops.Le start = refl
cmp_means ops.Lt start = refl
cmp_means ops.Ge start = refl
cmp_means ops.Gt start = refl

func_means : (f : QFunc) (start : ℕ) → function_meant (tok_from start (name_word (func_text f))) ≡ Some (word_of f)
func_means (functions.Uid us) start = refl
func_means (functions.Cmp op o ls) start = cmp_means op start
func_means (functions.Between o low high) start = refl
func_means (functions.Has e) start = refl
func_means (functions.Terms true p text) start = refl
func_means (functions.Terms false p text) start = refl
func_means (functions.Regexp p pattern fold) start = refl
func_means (functions.UidIn e us) start = refl

pub func_reads : (root : Bool) (fn : QFunc) → IsFuncAt root fn → Reads (func root) fn (func_words fn) never
unfolding func
func_reads root fn h = record {
  words = (func_fixed fn, (sign 40 refl, words_append (inner_words fn) (mark_word 41 ∷ []) (arguments_reads fn h.good).words (sign 41 refl, tt)));
  again = λ f rest e.
      let g : ℕ → ℕ = λ n. f (suc (suc n)) in
      rw (
        func_means fn (f 0),
        h.fits,
        on_append g (inner_words fn) (mark_word 41 ∷ []) rest,
        (arguments_reads fn h.good).again g (on (behind g (inner_words fn)) (mark_word 41 ∷ []) rest) refl,
      ) refl;
}
