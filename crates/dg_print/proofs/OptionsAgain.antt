-- The options of @recurse are read again.
use Rattle.std.proofs.Common.{◌≡◌, ℕ, suc, ◌<◌, true, false, List, [], ◌∷◌, ◌++◌, flat_map, ap, refl, sym, ◌∙◌, subst, arith}
use Rattle.std.specs.Prelude.{ℤ, codes}
use Rattle.dg_text.specs.Cases.{Left, repeated, optional}
use Rattle.dg_text.specs.Marks.{open_round, close_round, comma, colon}
use Rattle.dg_text.specs.Reading.{next, and_then}
use Rattle.dg_text.specs.Tokens.{Tok, is_punct, is_word}
use Rattle.dg_parse.specs.declared.query.QOpt.{QOpt}
use Rattle.dg_parse.specs.declared.query.QOpt.TheVariants as options
use Rattle.dg_parse.specs.Directives.{has_depth, has_loop, depth_option, loop_option, ropt, comma_ropt, ropts}
use Rattle.dg_print.specs.Printed.{commas, opt_words, opts_words}
use Rattle.dg_text.specs.Spelling.{mark_word}
use Rattle.dg_parse.specs.Words.{truth_meant}
use Rattle.dg_text.specs.Written.{Word}
use Rattle.dg_print.proofs.Again.{Each, Reads, bind, gives, weaker, either, at_one, at_skip, at_also, at_here, some_passed, words_append, never, on, behind, on_append}
use Rattle.dg_print.proofs.ArgumentsAgain.{is_open}
use Rattle.dg_print.proofs.FixedWords.{fixed, sign}
use Rattle.dg_print.proofs.Lists.{Added, AddedAll, Items, Repeats, at_repeated, repeated_reads}
use Rattle.dg_print.proofs.LiteralsAgain.{is_comma}
use Rattle.dg_print.proofs.NamesAgain.{IsNumber, at_int, int_reads}

-- an option that may stand behind others
pub record IsDepth (before : List QOpt) (n : ℤ) : Type 0 where
  pub number : IsNumber n
  pub first : has_depth before ≡ false

abbrev pub IsOpt : List QOpt → QOpt → Type 0
IsOpt before (options.Depth n) = IsDepth before n
IsOpt before (options.Again b) = has_loop before ≡ false

at_ropt : (before : List QOpt) (left : Left) → Each left (ropt before left) (λ all l. Added IsOpt before all)
unfolding ropt depth_option loop_option
at_ropt before left = either (next (is_word (codes "depth")) left.tokens)
    (λ e. bind _ (at_here left)
    (λ place l. bind _ (at_skip (is_word (codes "depth")) l)
    (λ _ k. bind _ (at_also place (has_depth before) k)
    (λ _ m. bind _ (at_skip (is_punct colon) m)
    (λ _ n. bind _ (at_int n)
    (λ z q. gives _ q (λ h _ also word here. record { item = options.Depth z; is = refl; good = record { number = h; first = also.0 (subst (λ (n : ℕ). 0 < n) (sym here) (some_passed word)) } })))))))
    (λ e. bind _ (at_here left)
    (λ place l. bind _ (at_skip (is_word (codes "loop")) l)
    (λ _ k. bind _ (at_also place (has_loop before) k)
    (λ _ m. bind _ (at_skip (is_punct colon) m)
    (λ _ n. bind _ (at_one truth_meant n)
    (λ b q. gives _ q (λ h _ also word here. record { item = options.Again b; is = refl; good = also.0 (subst (λ (n : ℕ). 0 < n) (sym here) (some_passed word)) })))))))

ropt_reads : (before : List QOpt) (o : QOpt) → IsOpt before o → Reads (ropt before) (before ++ o ∷ []) (opt_words o) never
unfolding ropt depth_option loop_option
ropt_reads before (options.Depth n) h = record {
  words = (fixed (codes "depth") refl, (sign 58 refl, (h.number.word, tt)));
  again = λ f rest e. rw (h.first, (int_reads n h.number).again (λ k. f (suc (suc k))) rest refl) refl;
}
ropt_reads before (options.Again true) h = record {
  words = (fixed (codes "loop") refl, (sign 58 refl, (fixed (codes "true") refl, tt)));
  again = λ f rest e. rw h refl;
}
ropt_reads before (options.Again false) h = record {
  words = (fixed (codes "loop") refl, (sign 58 refl, (fixed (codes "false") refl, tt)));
  again = λ f rest e. rw h refl;
}

at_comma_ropt : (before : List QOpt) (left : Left) → Each left (comma_ropt before left) (λ all l. Added IsOpt before all)
unfolding comma_ropt
at_comma_ropt before left =
    bind _ (at_skip (is_punct comma) left)
    (λ _ l. weaker (at_ropt before l) (λ all k a _. a))

ropts_repeat : Repeats (next (is_punct comma)) comma_ropt IsOpt (λ o. mark_word comma ∷ opt_words o) never
unfolding comma_ropt
ropts_repeat = record {
  reads = λ before o h. record {
    words = (sign 44 refl, (ropt_reads before o h).words);
    again = λ f rest e. rw ((ropt_reads before o h).again (λ n. f (suc n)) rest refl) refl;
  };
  begun = λ before o h f rest. refl;
  clear = λ before o h f rest. refl;
  some = λ before o h. omega arith;
}

-- options that can be written
abbrev pub AreOpts : List QOpt → Type 0
AreOpts all = Items IsOpt [] all

opts_are : (first all : List QOpt) → Added IsOpt [] first → AddedAll IsOpt first all → AreOpts all
opts_are first all a m =
    let good : Items IsOpt (a.item ∷ []) m.items = subst (λ (l : List QOpt). Items IsOpt l m.items) a.is m.good in
    subst (λ (l : List QOpt). AreOpts l) (sym (m.is ∙ ap (λ l. l ++ m.items) a.is)) (a.good, good)

at_ropts : (left : Left) → Each left (ropts left) (λ all l. AreOpts all)
unfolding ropts
at_ropts left =
    bind _ (at_skip (is_punct open_round) left)
    (λ _ l. bind _ (at_ropt [] l)
    (λ first k. bind _ (at_repeated (next (is_punct comma)) comma_ropt IsOpt at_comma_ropt first k)
    (λ all m. bind _ (at_skip (is_punct close_round) m)
    (λ _ n. gives all n (λ _ more a _. opts_are first all a more)))))

pub at_opts : (left : Left) → Each left (optional (next (is_punct open_round)) ropts [] left) (λ all l. AreOpts all)
at_opts left = either (next (is_punct open_round) left.tokens) (λ e. at_ropts left) (λ e. gives [] left tt)

some_opts_read : (a : QOpt) (more : List QOpt) → AreOpts (a ∷ more) → Reads (λ l. and_then (ropt [] l) (λ first. repeated (next (is_punct comma)) comma_ropt first)) (a ∷ more) (commas opt_words (a ∷ more)) is_comma
some_opts_read a more h =
    let words : List Word = flat_map (λ a. mark_word comma ∷ opt_words a) more in
    let rest : Reads (repeated (next (is_punct comma)) comma_ropt (a ∷ [])) (a ∷ more) words is_comma =
    repeated_reads (next (is_punct comma)) comma_ropt IsOpt (λ a. mark_word comma ∷ opt_words a) never ropts_repeat (a ∷ []) more h.1 in
    record {
      words = words_append (opt_words a) words (ropt_reads [] a h.0).words rest.words;
      again = λ f left e.
          rw (on_append f (opt_words a) words left, (ropt_reads [] a h.0).again f (on (behind f (opt_words a)) words left) refl, rest.again (behind f (opt_words a)) left e) refl;
    }

pub opts_read : (all : List QOpt) → AreOpts all → Reads (optional (next (is_punct open_round)) ropts []) all (opts_words all) is_open
unfolding ropts
opts_read [] h = record { words = tt; again = λ f rest e. rw e refl }
opts_read (a ∷ more) h =
    let words : List Word = flat_map (λ a. mark_word comma ∷ opt_words a) more in
    let all : Reads (repeated (next (is_punct comma)) comma_ropt (a ∷ [])) (a ∷ more) words is_comma =
    repeated_reads (next (is_punct comma)) comma_ropt IsOpt (λ a. mark_word comma ∷ opt_words a) never ropts_repeat (a ∷ []) more h.1 in
    let inner : List Word = commas opt_words (a ∷ more) in
    record {
      words = (sign 40 refl, words_append inner (mark_word 41 ∷ []) (some_opts_read a more h).words (sign 41 refl, tt));
      again = λ f rest e.
          let g : ℕ → ℕ = λ n. f (suc n) in
          let k : ℕ → ℕ = behind g inner in
          let j : ℕ → ℕ = behind g (opt_words a) in
          let left : List Tok = on k (mark_word 41 ∷ []) rest in
          rw (on_append g inner (mark_word 41 ∷ []) rest, on_append g (opt_words a) words left, (ropt_reads [] a h.0).again g (on j words left) refl, all.again j left refl) refl;
    }
