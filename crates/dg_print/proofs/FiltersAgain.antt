-- Filters are read again.
use Rattle.std.proofs.Common.{◌≡◌, ℕ, zero, suc, ◌≤◌, ◌+◌, Bool, true, false, ◌||◌, List, [], ◌∷◌, ◌++◌, length, flat_map, ap, refl, sym, ◌∙◌, subst, arith}
use Rattle.std.specs.Prelude.{Ok, codes}
use Rattle.std.specs.List.{AllByRecursion}
use Rattle.dg_text.specs.Cases.{Left, upon, repeated}
use Rattle.dg_text.specs.Marks.{open_round, close_round}
use Rattle.dg_text.specs.Reading.{next, turns}
use Rattle.dg_text.specs.Tokens.{Tok, is_punct, is_word_any_case}
use Rattle.dg_parse.specs.declared.query.CmpOp.{CmpOp}
use Rattle.dg_parse.specs.declared.query.CmpOp.TheVariants as ops
use Rattle.dg_parse.specs.declared.query.QFilter.{QFilter}
use Rattle.dg_parse.specs.declared.query.QOf.{QOf}
use Rattle.dg_parse.specs.declared.query.QFunc.{QFunc}
use Rattle.dg_parse.specs.declared.query.QFunc.TheVariants as functions
use Rattle.dg_parse.specs.declared.query.QPart.{QPart}
use Rattle.dg_parse.specs.declared.query.QPart.TheVariants as parts
use Rattle.dg_parse.specs.declared.query.QPart.TheOpen.{QPart-F}
use Rattle.dg_parse.specs.declared.query.QPart.TheViews.{out-QPart}
use Rattle.dg_parse.specs.Filters.{one_not, plainly, func_alone, bracketed, atom, not_of, and_more, and_rest, and_of, or_more, or_rest, or_of, filter}
use Rattle.dg_print.specs.Printed.{shown, shown_alone, shown_or, shown_and, nots, func_words, in_round, filter_words}
use Rattle.dg_text.specs.Spelling.{name_word, mark_word}
use Rattle.dg_text.specs.Written.{Word}
use Rattle.dg_print.proofs.Again.{Each, Reads, AreWords, bind, gives, either, at_skip, words_append, never, at, on, behind, on_append}
use Rattle.dg_print.proofs.FilterWords.{Layer, shown_is, or_words, and_words, shown_as_or, shown_as_and, shown_as_func, part_or, part_and, part_func, AreTwo, AreParts, not_case, IsNot, and_case, IsAnd, or_case, IsOr, IsFilter, in_brackets, not_and, and_or}
use Rattle.dg_print.proofs.FixedWords.{fixed, sign}
use Rattle.dg_print.proofs.FunctionsAgain.{IsFuncAt, at_func, func_reads}
use Rattle.dg_print.proofs.Lists.{Added, AddedSome, Items, Repeats, at_repeated_some, at_any_turns, repeated_reads, or_first, or_second}

-- "and", "or" or "not" comes next
abbrev begins_and : List Tok → Bool
begins_and = next (is_word_any_case (codes "and"))

abbrev begins_or : List Tok → Bool
begins_or = next (is_word_any_case (codes "or"))

abbrev begins_not : List Tok → Bool
begins_not = next (is_word_any_case (codes "not"))

-- ---- what is read

at_one_not : (n : ℕ) (left : Left) → Each left (one_not n left) (λ _ _. Unit {0})
unfolding one_not
at_one_not n left = bind _ (at_skip (is_word_any_case (codes "not")) left) (λ _ l. gives _ l (λ _. tt))

-- a filter that is read with brackets at most so deep
abbrev At : ℕ → QFilter → Type 0
At depth = λ g. IsFilter depth g

module _ (depth : ℕ) (one : (l : Left) → Each l (filter depth l) (λ f k. IsFilter depth f)) where
  at_atom : (left : Left) → Each left (atom (filter depth) left) (λ f l. IsNot (At depth) f)
  unfolding atom bracketed func_alone
  at_atom left = either (next (is_punct open_round) left.tokens)
      (λ e. bind _ (at_skip (is_punct open_round) left)
      (λ _ l. bind _ (one l)
      (λ f k. bind _ (at_skip (is_punct close_round) k)
      (λ _ m. gives f m (λ _ h _. in_brackets depth f h)))))
      (λ e. bind _ (at_func false left) (λ fn l. gives _ l (λ h. func_not fn h)))
    where
      func_not : (fn : QFunc) → IsFuncAt false fn → IsNot (At depth) (plainly (parts.Func fn))
      func_not fn h = subst (λ (o : Layer). not_case (At depth) (parts.Func fn) o) (sym (parts.outs-Func fn)) h

  at_not : (left : Left) → Each left (not_of (filter depth) left) (λ f l. IsNot (At depth) f)
  unfolding not_of
  at_not left =
      bind _ (at_any_turns begins_not one_not at_one_not (length left.tokens) 0 left)
      (λ n l. bind _ (at_atom l)
      (λ f k. gives _ k (λ h _. h)))

  at_and_more : (before : List QFilter) (left : Left) → Each left (and_more (filter depth) before left) (λ all l. Added (λ _ f. IsNot (At depth) f) before all)
  unfolding and_more
  at_and_more before left =
      bind _ (at_skip (is_word_any_case (codes "and")) left)
      (λ _ l. bind _ (at_not l)
      (λ f k. gives _ k (λ h _. record { item = f; is = refl; good = h })))

  all_not : (before fs : List QFilter) → Items (λ _ f. IsNot (At depth) f) before fs → AllByRecursion (λ f. IsNot (At depth) f) fs
  all_not before [] i = tt
  all_not before (f ∷ fs) i = (i.0, all_not (before ++ f ∷ []) fs i.1)

  more_and : (first : QFilter) (all : List QFilter) → IsNot (At depth) first → AddedSome (λ _ f. IsNot (At depth) f) (first ∷ []) all → IsAnd (At depth) (plainly (parts.And all))
  more_and first all h a =
      let each : AllByRecursion (λ f. IsNot (At depth) f) (first ∷ a.item ∷ a.more) = (h, all_not (first ∷ []) (a.item ∷ a.more) a.good) in
      let are : AreParts (λ f. IsNot (At depth) f) all = record { two = record { first = first; second = a.item; more = a.more; is = a.is }; each = subst (λ (l : List QFilter). AllByRecursion (λ f. IsNot (At depth) f) l) (sym a.is) each } in
      subst (λ (o : Layer). and_case (At depth) (parts.And all) o zero) (sym (parts.outs-And all)) are

  at_and : (left : Left) → Each left (and_of (filter depth) left) (λ f l. IsAnd (At depth) f)
  unfolding and_of and_rest
  at_and left =
      bind _ (at_not left)
      (λ first l. either (begins_and l.tokens)
      (λ e. bind _ (at_repeated_some begins_and (and_more (filter depth)) (λ _ f. IsNot (At depth) f) at_and_more refl (first ∷ []) l e)
      (λ all k. gives _ k (λ a h. more_and first all h a)))
      (λ e. gives first l (λ h. not_and depth first h)))

  at_or_more : (before : List QFilter) (left : Left) → Each left (or_more (filter depth) before left) (λ all l. Added (λ _ f. IsAnd (At depth) f) before all)
  unfolding or_more
  at_or_more before left =
      bind _ (at_skip (is_word_any_case (codes "or")) left)
      (λ _ l. bind _ (at_and l)
      (λ f k. gives _ k (λ h _. record { item = f; is = refl; good = h })))

  all_and : (before fs : List QFilter) → Items (λ _ f. IsAnd (At depth) f) before fs → AllByRecursion (λ f. IsAnd (At depth) f) fs
  all_and before [] i = tt
  all_and before (f ∷ fs) i = (i.0, all_and (before ++ f ∷ []) fs i.1)

  more_or : (first : QFilter) (all : List QFilter) → IsAnd (At depth) first → AddedSome (λ _ f. IsAnd (At depth) f) (first ∷ []) all → IsOr (At depth) (plainly (parts.Or all))
  more_or first all h a =
      let each : AllByRecursion (λ f. IsAnd (At depth) f) (first ∷ a.item ∷ a.more) = (h, all_and (first ∷ []) (a.item ∷ a.more) a.good) in
      let are : AreParts (λ f. IsAnd (At depth) f) all = record { two = record { first = first; second = a.item; more = a.more; is = a.is }; each = subst (λ (l : List QFilter). AllByRecursion (λ f. IsAnd (At depth) f) l) (sym a.is) each } in
      subst (λ (o : Layer). or_case (At depth) (parts.Or all) o zero) (sym (parts.outs-Or all)) are

  at_or : (left : Left) → Each left (or_of (filter depth) left) (λ f l. IsOr (At depth) f)
  unfolding or_of or_rest
  at_or left =
      bind _ (at_and left)
      (λ first l. either (begins_or l.tokens)
      (λ e. bind _ (at_repeated_some begins_or (or_more (filter depth)) (λ _ f. IsAnd (At depth) f) at_or_more refl (first ∷ []) l e)
      (λ all k. gives _ k (λ a h. more_or first all h a)))
      (λ e. gives first l (λ h. and_or depth first h)))

pub at_filter : (depth : ℕ) (left : Left) → Each left (filter depth left) (λ f k. IsFilter depth f)
unfolding filter IsFilter
at_filter zero left = none left.tokens
  where
    none : (tokens : List Tok) → Each left (filter zero left) (λ f k. IsFilter zero f)
    none tokens = record { it = tt }
at_filter (suc depth) left = at_or depth (at_filter depth) left

-- ---- what is written is read again

-- neither goes on behind a filter
abbrev ends_and : List Tok → Bool
ends_and l = begins_and l || never l

-- nothing of a filter goes on
abbrev pub ends_or : List Tok → Bool
ends_or l = begins_or l || ends_and l

nots_words : (n : ℕ) → AreWords (nots n)
nots_words zero = tt
nots_words (suc n) = (fixed (codes "not") refl, nots_words n)

nots_again : (most n before : ℕ) (f : ℕ → ℕ) (rest : List Tok) → n ≤ most → begins_not rest ≡ false → turns most (upon begins_not) one_not before (at (on f (nots n) rest)) ≡ Ok (before + n, at rest)
unfolding turns one_not
nots_again zero zero before f rest le e = let same : before ≡ before + zero = omega arith in ap (λ (n : ℕ). Ok (n, at rest)) same
nots_again zero (suc n) before f rest le e = absurd (omega (arith, le))
nots_again (suc most) zero before f rest le e = let same : before ≡ before + zero = omega arith in rw e (ap (λ (n : ℕ). Ok (n, at rest)) same)
nots_again (suc most) (suc n) before f rest le e =
    let same : (before + 1) + n ≡ before + suc n = omega arith in
    nots_again most n (before + 1) (λ k. f (suc k)) rest (omega (arith, le)) e ∙ ap (λ (n : ℕ). Ok (n, at rest)) same

nots_fit : (n : ℕ) (f : ℕ → ℕ) (rest : List Tok) → n ≤ length (on f (nots n) rest)
nots_fit zero f rest = omega arith
nots_fit (suc n) f rest = omega (arith, nots_fit n (λ k. f (suc k)) rest)

-- a function's word isn't "not"
cmp_begins : (op : CmpOp) (o : QOf) (ls : List (List ℕ)) (f : ℕ → ℕ) (rest : List Tok) → begins_not (on f (func_words (functions.Cmp op o ls)) rest) ≡ false
cmp_begins ops.Eq o ls f rest = refl
cmp_begins ops.Le o ls f rest = refl
cmp_begins ops.Lt o ls f rest = refl
cmp_begins ops.Ge o ls f rest = refl
cmp_begins ops.Gt o ls f rest = refl

func_begins : (fn : QFunc) (f : ℕ → ℕ) (rest : List Tok) → begins_not (on f (func_words fn) rest) ≡ false
func_begins (functions.Uid us) f rest = refl
func_begins (functions.Cmp op o ls) f rest = cmp_begins op o ls f rest
func_begins (functions.Between o low high) f rest = refl
func_begins (functions.Has e) f rest = refl
func_begins (functions.Terms true p text) f rest = refl
func_begins (functions.Terms false p text) f rest = refl
func_begins (functions.Regexp p pattern fold) f rest = refl
func_begins (functions.UidIn e us) f rest = refl

items_of : (P : QFilter → Type 0) (before fs : List QFilter) → AllByRecursion P fs → Items (λ _ f. P f) before fs
items_of P before [] a = tt
items_of P before (f ∷ fs) a = (a.0, items_of P (before ++ f ∷ []) fs a.1)

module _ (depth : ℕ) (ih : (f : QFilter) → IsFilter depth f → Reads (filter depth) f (filter_words f) ends_or) where
  -- "(" or ")"
  round_reads : (p : QPart) (ws : List Word) → filter_words (plainly p) ≡ ws → IsFilter depth (plainly p) → Reads (atom (filter depth)) (plainly p) (in_round ws) never
  unfolding atom bracketed
  round_reads p ws e h =
      let inner : Reads (filter depth) (plainly p) ws ends_or = subst (λ (us : List Word). Reads (filter depth) (plainly p) us ends_or) e (ih (plainly p) h) in
      record {
        words = (sign 40 refl, words_append ws (mark_word 41 ∷ []) inner.words (sign 41 refl, tt));
        again = λ f rest _.
            let g : ℕ → ℕ = λ n. f (suc n) in
            rw (on_append g ws (mark_word 41 ∷ []) rest, inner.again g (on (behind g ws) (mark_word 41 ∷ []) rest) refl) refl;
      }

  func_alone_reads : (fn : QFunc) → IsFuncAt false fn → Reads (atom (filter depth)) (plainly (parts.Func fn)) (func_words fn) never
  unfolding atom func_alone
  func_alone_reads fn h = record {
    words = (func_reads false fn h).words;
    again = λ f rest _. rw ((func_reads false fn h).again f rest refl) refl;
  }

  nots_reads : (n : ℕ) (p : QPart) (ws : List Word) → ((f : ℕ → ℕ) (rest : List Tok) → begins_not (on f ws rest) ≡ false) → Reads (atom (filter depth)) (plainly p) ws never
      → Reads (not_of (filter depth)) (record { nots = n; part = p }) (nots n ++ ws) never
  unfolding not_of
  nots_reads n p ws e a = record {
    words = words_append (nots n) ws (nots_words n) a.words;
    again = λ f rest _.
        let g : ℕ → ℕ = behind f (nots n) in
        let count : (0 + n) + 0 ≡ n = omega arith in
        rw (on_append f (nots n) ws rest, nots_again (length (on f (nots n) (on g ws rest))) n 0 f (on g ws rest) (nots_fit n f (on g ws rest)) (e g rest), a.again g rest refl)
        (ap (λ (k : ℕ). Ok (record { nots = k; part = p }, at rest)) count);
  }

  not_reads : (f : QFilter) → IsNot (At depth) f → Reads (not_of (filter depth)) f (shown f).as_not never
  not_reads f h = by (out-QPart f.part) refl h
    where
      as_words : (ws : List Word) → (shown f).as_not ≡ ws → Reads (not_of (filter depth)) f ws never → Reads (not_of (filter depth)) f (shown f).as_not never
      as_words ws e a = subst (λ (us : List Word). Reads (not_of (filter depth)) f us never) (sym e) a

      by : (o : Layer) → out-QPart f.part ≡ o → not_case (At depth) f.part o → Reads (not_of (filter depth)) f (shown f).as_not never
      by (QPart-F.Or fs) e h =
          as_words (nots f.nots ++ in_round (or_words fs)) (ap (λ s. s.as_not) (shown_is f ∙ shown_as_or f.part fs f.nots e))
          (nots_reads f.nots f.part (in_round (or_words fs)) (λ g rest. refl)
          (round_reads f.part (or_words fs) (ap (λ s. s.as_or) (shown_is (plainly f.part) ∙ shown_as_or f.part fs 0 e)) h))
      by (QPart-F.And fs) e h =
          as_words (nots f.nots ++ in_round (and_words fs)) (ap (λ s. s.as_not) (shown_is f ∙ shown_as_and f.part fs f.nots e))
          (nots_reads f.nots f.part (in_round (and_words fs)) (λ g rest. refl)
          (round_reads f.part (and_words fs) (ap (λ s. s.as_or) (shown_is (plainly f.part) ∙ shown_as_and f.part fs 0 e)) h))
      by (QPart-F.Func fn) e h =
          as_words (nots f.nots ++ func_words fn) (ap (λ s. s.as_not) (shown_is f ∙ shown_as_func f.part fn f.nots e))
          (nots_reads f.nots f.part (func_words fn) (func_begins fn)
          (subst (λ (p : QPart). Reads (atom (filter depth)) (plainly p) (func_words fn) never) (sym (part_func f.part fn e)) (func_alone_reads fn h)))

  and_repeats : Repeats begins_and (and_more (filter depth)) (λ _ f. IsNot (At depth) f) (λ f. name_word (codes "and") ∷ (shown f).as_not) never
  unfolding and_more
  and_repeats = record {
    reads = λ before x h. record {
      words = (fixed (codes "and") refl, (not_reads x h).words);
      again = λ f rest e. rw ((not_reads x h).again (λ n. f (suc n)) rest refl) refl;
    };
    begun = λ before x h f rest. refl;
    clear = λ before x h f rest. refl;
    some = λ before x h. omega arith;
  }

  -- one part stands for itself
  one_reads_and : (f : QFilter) (ws : List Word) → Reads (not_of (filter depth)) f ws never → Reads (and_of (filter depth)) f ws ends_and
  unfolding and_of
  one_reads_and x ws a = record {
    words = a.words;
    again = λ f rest e. rw (a.again f rest refl, or_first (begins_and rest) (never rest) e) refl;
  }

  ands_read : (a b : QFilter) (more : List QFilter) → AllByRecursion (λ f. IsNot (At depth) f) (a ∷ b ∷ more)
      → Reads (and_of (filter depth)) (plainly (parts.And (a ∷ b ∷ more))) (and_words (a ∷ b ∷ more)) ends_and
  unfolding and_of and_rest
  ands_read a b more h =
      let words : List Word = flat_map (λ f. name_word (codes "and") ∷ (shown f).as_not) (b ∷ more) in
      let rest : Reads (repeated begins_and (and_more (filter depth)) (a ∷ [])) (a ∷ b ∷ more) words ends_and =
      repeated_reads begins_and (and_more (filter depth)) (λ _ f. IsNot (At depth) f) (λ f. name_word (codes "and") ∷ (shown f).as_not) never and_repeats (a ∷ []) (b ∷ more)
      (items_of (λ f. IsNot (At depth) f) (a ∷ []) (b ∷ more) h.1) in
      record {
        words = words_append (shown a).as_not words (not_reads a h.0).words rest.words;
        again = λ f left e.
            let g : ℕ → ℕ = behind f (shown a).as_not in
            rw (on_append f (shown a).as_not words left, (not_reads a h.0).again f (on g words left) refl, rest.again g left e) refl;
      }

  and_reads : (f : QFilter) → IsAnd (At depth) f → Reads (and_of (filter depth)) f (shown f).as_and ends_and
  and_reads f h = by (out-QPart f.part) f.nots refl refl h
    where
      alone : (shown f).as_and ≡ (shown f).as_not → IsNot (At depth) f → Reads (and_of (filter depth)) f (shown f).as_and ends_and
      alone e i = subst (λ (us : List Word). Reads (and_of (filter depth)) f us ends_and) (sym e) (one_reads_and f (shown f).as_not (not_reads f i))

      by : (o : Layer) (n : ℕ) → out-QPart f.part ≡ o → f.nots ≡ n → and_case (At depth) f.part o n → Reads (and_of (filter depth)) f (shown f).as_and ends_and
      by (QPart-F.Or fs) n e k h =
          let same : shown f ≡ shown_or f.nots (or_words fs) = shown_is f ∙ shown_as_or f.part fs f.nots e in
          alone (ap (λ s. s.as_and) same ∙ sym (ap (λ s. s.as_not) same)) (subst (λ (o : Layer). not_case (At depth) f.part o) (sym e) h)
      by (QPart-F.And fs) zero e k h =
          let same : shown f ≡ shown_and zero (and_words fs) = shown_is f ∙ shown_as_and f.part fs f.nots e ∙ ap (λ n. shown_and n (and_words fs)) k in
          let t : AreTwo fs = h.two in
          let all : AllByRecursion (λ f. IsNot (At depth) f) (t.first ∷ t.second ∷ t.more) = subst (λ (l : List QFilter). AllByRecursion (λ f. IsNot (At depth) f) l) t.is h.each in
          let read : Reads (and_of (filter depth)) (plainly (parts.And fs)) (and_words fs) ends_and =
          subst (λ (l : List QFilter). Reads (and_of (filter depth)) (plainly (parts.And l)) (and_words l) ends_and) (sym t.is) (ands_read t.first t.second t.more all) in
          let it : plainly (parts.And fs) ≡ f = (λ i. record { nots = sym k i; part = sym (part_and f.part fs e) i }) in
          subst (λ (us : List Word). Reads (and_of (filter depth)) f us ends_and) (sym (ap (λ s. s.as_and) same))
          (subst (λ (x : QFilter). Reads (and_of (filter depth)) x (and_words fs) ends_and) it read)
      by (QPart-F.And fs) (suc n) e k h =
          let same : shown f ≡ shown_and (suc n) (and_words fs) = shown_is f ∙ shown_as_and f.part fs f.nots e ∙ ap (λ n. shown_and n (and_words fs)) k in
          alone (ap (λ s. s.as_and) same ∙ sym (ap (λ s. s.as_not) same)) (subst (λ (o : Layer). not_case (At depth) f.part o) (sym e) h)
      by (QPart-F.Func fn) n e k h =
          let same : shown f ≡ shown_alone (nots f.nots ++ func_words fn) = shown_is f ∙ shown_as_func f.part fn f.nots e in
          alone (ap (λ s. s.as_and) same ∙ sym (ap (λ s. s.as_not) same)) (subst (λ (o : Layer). not_case (At depth) f.part o) (sym e) h)

  or_repeats : Repeats begins_or (or_more (filter depth)) (λ _ f. IsAnd (At depth) f) (λ f. name_word (codes "or") ∷ (shown f).as_and) ends_and
  unfolding or_more
  or_repeats = record {
    reads = λ before x h. record {
      words = (fixed (codes "or") refl, (and_reads x h).words);
      again = λ f rest e. rw ((and_reads x h).again (λ n. f (suc n)) rest e) refl;
    };
    begun = λ before x h f rest. refl;
    clear = λ before x h f rest. refl;
    some = λ before x h. omega arith;
  }

  one_reads_or : (f : QFilter) (ws : List Word) → Reads (and_of (filter depth)) f ws ends_and → Reads (or_of (filter depth)) f ws ends_or
  unfolding or_of
  one_reads_or x ws a = record {
    words = a.words;
    again = λ f rest e. rw (a.again f rest (or_second (begins_or rest) (ends_and rest) e), or_first (begins_or rest) (ends_and rest) e) refl;
  }

  ors_read : (a b : QFilter) (more : List QFilter) → AllByRecursion (λ f. IsAnd (At depth) f) (a ∷ b ∷ more)
      → Reads (or_of (filter depth)) (plainly (parts.Or (a ∷ b ∷ more))) (or_words (a ∷ b ∷ more)) ends_or
  unfolding or_of or_rest
  ors_read a b more h =
      let words : List Word = flat_map (λ f. name_word (codes "or") ∷ (shown f).as_and) (b ∷ more) in
      let rest : Reads (repeated begins_or (or_more (filter depth)) (a ∷ [])) (a ∷ b ∷ more) words ends_or =
      repeated_reads begins_or (or_more (filter depth)) (λ _ f. IsAnd (At depth) f) (λ f. name_word (codes "or") ∷ (shown f).as_and) ends_and or_repeats (a ∷ []) (b ∷ more)
      (items_of (λ f. IsAnd (At depth) f) (a ∷ []) (b ∷ more) h.1) in
      record {
        words = words_append (shown a).as_and words (and_reads a h.0).words rest.words;
        again = λ f left e.
            let g : ℕ → ℕ = behind f (shown a).as_and in
            rw (on_append f (shown a).as_and words left, (and_reads a h.0).again f (on g words left) refl, rest.again g left e) refl;
      }

  or_reads : (f : QFilter) → IsOr (At depth) f → Reads (or_of (filter depth)) f (shown f).as_or ends_or
  or_reads f h = by (out-QPart f.part) f.nots refl refl h
    where
      alone : (shown f).as_or ≡ (shown f).as_and → IsAnd (At depth) f → Reads (or_of (filter depth)) f (shown f).as_or ends_or
      alone e i = subst (λ (us : List Word). Reads (or_of (filter depth)) f us ends_or) (sym e) (one_reads_or f (shown f).as_and (and_reads f i))

      as_and : (o : Layer) (n : ℕ) → out-QPart f.part ≡ o → f.nots ≡ n → and_case (At depth) f.part o n → IsAnd (At depth) f
      as_and o n e k h =
          subst (λ (o : Layer). and_case (At depth) f.part o f.nots) (sym e) (subst (λ (n : ℕ). and_case (At depth) f.part o n) (sym k) h)

      by : (o : Layer) (n : ℕ) → out-QPart f.part ≡ o → f.nots ≡ n → or_case (At depth) f.part o n → Reads (or_of (filter depth)) f (shown f).as_or ends_or
      by (QPart-F.Or fs) zero e k h =
          let same : shown f ≡ shown_or zero (or_words fs) = shown_is f ∙ shown_as_or f.part fs f.nots e ∙ ap (λ n. shown_or n (or_words fs)) k in
          let t : AreTwo fs = h.two in
          let all : AllByRecursion (λ f. IsAnd (At depth) f) (t.first ∷ t.second ∷ t.more) = subst (λ (l : List QFilter). AllByRecursion (λ f. IsAnd (At depth) f) l) t.is h.each in
          let read : Reads (or_of (filter depth)) (plainly (parts.Or fs)) (or_words fs) ends_or =
          subst (λ (l : List QFilter). Reads (or_of (filter depth)) (plainly (parts.Or l)) (or_words l) ends_or) (sym t.is) (ors_read t.first t.second t.more all) in
          let it : plainly (parts.Or fs) ≡ f = (λ i. record { nots = sym k i; part = sym (part_or f.part fs e) i }) in
          subst (λ (us : List Word). Reads (or_of (filter depth)) f us ends_or) (sym (ap (λ s. s.as_or) same))
          (subst (λ (x : QFilter). Reads (or_of (filter depth)) x (or_words fs) ends_or) it read)
      by (QPart-F.Or fs) (suc n) e k h =
          let same : shown f ≡ shown_or (suc n) (or_words fs) = shown_is f ∙ shown_as_or f.part fs f.nots e ∙ ap (λ n. shown_or n (or_words fs)) k in
          alone (ap (λ s. s.as_or) same ∙ sym (ap (λ s. s.as_and) same)) (as_and (QPart-F.Or fs) (suc n) e k h)
      by (QPart-F.And fs) n e k h =
          let same : shown f ≡ shown_and f.nots (and_words fs) = shown_is f ∙ shown_as_and f.part fs f.nots e in
          alone (ap (λ s. s.as_or) same ∙ sym (ap (λ s. s.as_and) same)) (as_and (QPart-F.And fs) n e k h)
      by (QPart-F.Func fn) n e k h =
          let same : shown f ≡ shown_alone (nots f.nots ++ func_words fn) = shown_is f ∙ shown_as_func f.part fn f.nots e in
          alone (ap (λ s. s.as_or) same ∙ sym (ap (λ s. s.as_and) same)) (as_and (QPart-F.Func fn) n e k h)

pub filter_reads : (depth : ℕ) (f : QFilter) → IsFilter depth f → Reads (filter depth) f (filter_words f) ends_or
unfolding filter IsFilter
filter_reads zero f h = absurd h
filter_reads (suc depth) f h = or_reads depth (filter_reads depth) f h
