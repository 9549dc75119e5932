-- Conditions are read again.
use Rattle.std.proofs.Common.{◌≡◌, ℕ, zero, suc, ◌≤◌, ◌+◌, Bool, false, ◌||◌, List, [], ◌∷◌, ◌++◌, length, flat_map, ap, refl, sym, ◌∙◌, subst, arith}
use Rattle.std.specs.Prelude.{ℤ, Some, Ok, codes}
use Rattle.std.specs.List.{AllByRecursion}
use Rattle.dg_text.specs.Cases.{Left, upon, repeated}
use Rattle.dg_text.specs.Marks.{open_round, close_round, comma}
use Rattle.dg_text.specs.Reading.{next, turns}
use Rattle.dg_text.specs.Tokens.{Tok, is_punct, is_word, is_word_any_case}
use Rattle.dg_parse.specs.declared.query.CmpOp.{CmpOp}
use Rattle.dg_parse.specs.declared.query.CmpOp.TheVariants as ops
use Rattle.dg_parse.specs.declared.upsert.UCond.{UCond}
use Rattle.dg_parse.specs.declared.upsert.UPart.{UPart}
use Rattle.dg_parse.specs.declared.upsert.UPart.TheVariants as parts
use Rattle.dg_parse.specs.declared.upsert.UPart.TheOpen.{UPart-F}
use Rattle.dg_parse.specs.declared.upsert.UPart.TheViews.{out-UPart}
use Rattle.dg_parse.specs.Filters.{one_not}
use Rattle.dg_parse.specs.Conditions.{plainly, len_alone, bracketed, atom, not_of, and_more, and_rest, and_of, or_more, or_rest, or_of, condition}
use Rattle.dg_parse.specs.Words.{comparison_meant}
use Rattle.dg_print.specs.Printed.{shown_alone, shown_or, shown_and, nots, in_round, cmp_text}
use Rattle.dg_print.specs.PrintedUpsert.{shown, len_words, cond_words}
use Rattle.dg_text.specs.Spelling.{name_word, mark_word, int_word}
use Rattle.dg_text.specs.Written.{Word, IsWord}
use Rattle.dg_print.proofs.Again.{Each, Reads, AreWords, bind, gives, either, at_skip, at_one, words_append, never, at, on, tok_from, behind, on_append}
use Rattle.dg_print.proofs.ConditionWords.{Layer, shown_is, or_words, and_words, shown_as_or, shown_as_and, shown_as_len, part_or, part_and, part_len, AreTwo, AreParts, not_case, IsNot, and_case, IsAnd, or_case, IsOr, IsLen, IsCond, in_brackets, not_and, and_or}
use Rattle.dg_print.proofs.FixedWords.{fixed, sign}
use Rattle.dg_print.proofs.NamesAgain.{at_round_name, round_name_reads, at_int, int_reads}
use Rattle.dg_print.proofs.Lists.{Added, AddedSome, Items, Repeats, at_repeated_some, at_any_turns, repeated_reads, or_first, or_second}

-- "and", "or" or "not" comes next
abbrev begins_and : List Tok → Bool
begins_and = next (is_word_any_case (codes "and"))

abbrev begins_or : List Tok → Bool
begins_or = next (is_word_any_case (codes "or"))

abbrev begins_not : List Tok → Bool
begins_not = next (is_word_any_case (codes "not"))

-- ---- what is read

at_one_not : (n : ℕ) (left : Left) → Each left (one_not n left) (λ _ _. Unit {0})
unfolding one_not
at_one_not n left = bind _ (at_skip (is_word_any_case (codes "not")) left) (λ _ l. gives _ l (λ _. tt))

-- a condition that is read with brackets at most so deep
abbrev At : ℕ → UCond → Type 0
At depth = λ g. IsCond depth g

module _ (depth : ℕ) (one : (l : Left) → Each l (condition depth l) (λ f k. IsCond depth f)) where
  len_not : (op : CmpOp) (x : List ℕ) (z : ℤ) → IsLen x z → IsNot (At depth) (plainly (parts.Len op x z))
  len_not op x z h = subst (λ (o : Layer). not_case (At depth) (parts.Len op x z) o) (sym (parts.outs-Len op x z)) h

  at_len : (left : Left) → Each left (len_alone left) (λ f l. IsNot (At depth) f)
  unfolding len_alone
  at_len left =
      bind _ (at_one comparison_meant left)
      (λ op l. bind _ (at_skip (is_punct open_round) l)
      (λ _ k. bind _ (at_skip (is_word (codes "len")) k)
      (λ _ m. bind _ (at_round_name m)
      (λ x p. bind _ (at_skip (is_punct comma) p)
      (λ _ q. bind _ (at_int q)
      (λ z r. bind _ (at_skip (is_punct close_round) r)
      (λ _ t. gives (plainly (parts.Len op x z)) t (λ _ hz _ hx _ _ _. len_not op x z (record { word = hx; number = hz })))))))))

  at_atom : (left : Left) → Each left (atom (condition depth) left) (λ f l. IsNot (At depth) f)
  unfolding atom bracketed
  at_atom left = either (next (is_punct open_round) left.tokens)
      (λ e. bind _ (at_skip (is_punct open_round) left)
      (λ _ l. bind _ (one l)
      (λ f k. bind _ (at_skip (is_punct close_round) k)
      (λ _ m. gives f m (λ _ h _. in_brackets depth f h)))))
      (λ e. at_len left)

  at_not : (left : Left) → Each left (not_of (condition depth) left) (λ f l. IsNot (At depth) f)
  unfolding not_of
  at_not left =
      bind _ (at_any_turns begins_not one_not at_one_not (length left.tokens) 0 left)
      (λ n l. bind _ (at_atom l)
      (λ f k. gives _ k (λ h _. h)))

  at_and_more : (before : List UCond) (left : Left) → Each left (and_more (condition depth) before left) (λ all l. Added (λ _ f. IsNot (At depth) f) before all)
  unfolding and_more
  at_and_more before left =
      bind _ (at_skip (is_word_any_case (codes "and")) left)
      (λ _ l. bind _ (at_not l)
      (λ f k. gives _ k (λ h _. record { item = f; is = refl; good = h })))

  all_not : (before fs : List UCond) → Items (λ _ f. IsNot (At depth) f) before fs → AllByRecursion (λ f. IsNot (At depth) f) fs
  all_not before [] i = tt
  all_not before (f ∷ fs) i = (i.0, all_not (before ++ f ∷ []) fs i.1)

  more_and : (first : UCond) (all : List UCond) → IsNot (At depth) first → AddedSome (λ _ f. IsNot (At depth) f) (first ∷ []) all → IsAnd (At depth) (plainly (parts.And all))
  more_and first all h a =
      let each : AllByRecursion (λ f. IsNot (At depth) f) (first ∷ a.item ∷ a.more) = (h, all_not (first ∷ []) (a.item ∷ a.more) a.good) in
      let are : AreParts (λ f. IsNot (At depth) f) all = record { two = record { first = first; second = a.item; more = a.more; is = a.is }; each = subst (λ (l : List UCond). AllByRecursion (λ f. IsNot (At depth) f) l) (sym a.is) each } in
      subst (λ (o : Layer). and_case (At depth) (parts.And all) o zero) (sym (parts.outs-And all)) are

  at_and : (left : Left) → Each left (and_of (condition depth) left) (λ f l. IsAnd (At depth) f)
  unfolding and_of and_rest
  at_and left =
      bind _ (at_not left)
      (λ first l. either (begins_and l.tokens)
      (λ e. bind _ (at_repeated_some begins_and (and_more (condition depth)) (λ _ f. IsNot (At depth) f) at_and_more refl (first ∷ []) l e)
      (λ all k. gives _ k (λ a h. more_and first all h a)))
      (λ e. gives first l (λ h. not_and depth first h)))

  at_or_more : (before : List UCond) (left : Left) → Each left (or_more (condition depth) before left) (λ all l. Added (λ _ f. IsAnd (At depth) f) before all)
  unfolding or_more
  at_or_more before left =
      bind _ (at_skip (is_word_any_case (codes "or")) left)
      (λ _ l. bind _ (at_and l)
      (λ f k. gives _ k (λ h _. record { item = f; is = refl; good = h })))

  all_and : (before fs : List UCond) → Items (λ _ f. IsAnd (At depth) f) before fs → AllByRecursion (λ f. IsAnd (At depth) f) fs
  all_and before [] i = tt
  all_and before (f ∷ fs) i = (i.0, all_and (before ++ f ∷ []) fs i.1)

  more_or : (first : UCond) (all : List UCond) → IsAnd (At depth) first → AddedSome (λ _ f. IsAnd (At depth) f) (first ∷ []) all → IsOr (At depth) (plainly (parts.Or all))
  more_or first all h a =
      let each : AllByRecursion (λ f. IsAnd (At depth) f) (first ∷ a.item ∷ a.more) = (h, all_and (first ∷ []) (a.item ∷ a.more) a.good) in
      let are : AreParts (λ f. IsAnd (At depth) f) all = record { two = record { first = first; second = a.item; more = a.more; is = a.is }; each = subst (λ (l : List UCond). AllByRecursion (λ f. IsAnd (At depth) f) l) (sym a.is) each } in
      subst (λ (o : Layer). or_case (At depth) (parts.Or all) o zero) (sym (parts.outs-Or all)) are

  at_or : (left : Left) → Each left (or_of (condition depth) left) (λ f l. IsOr (At depth) f)
  unfolding or_of or_rest
  at_or left =
      bind _ (at_and left)
      (λ first l. either (begins_or l.tokens)
      (λ e. bind _ (at_repeated_some begins_or (or_more (condition depth)) (λ _ f. IsAnd (At depth) f) at_or_more refl (first ∷ []) l e)
      (λ all k. gives _ k (λ a h. more_or first all h a)))
      (λ e. gives first l (λ h. and_or depth first h)))

pub at_condition : (depth : ℕ) (left : Left) → Each left (condition depth left) (λ f k. IsCond depth f)
unfolding condition IsCond
at_condition zero left = none left.tokens
  where
    none : (tokens : List Tok) → Each left (condition zero left) (λ f k. IsCond zero f)
    none tokens = record { it = tt }
at_condition (suc depth) left = at_or depth (at_condition depth) left

-- ---- what is written is read again

-- neither goes on behind a condition
abbrev ends_and : List Tok → Bool
ends_and l = begins_and l || never l

-- nothing of a condition goes on
abbrev pub ends_or : List Tok → Bool
ends_or l = begins_or l || ends_and l

nots_words : (n : ℕ) → AreWords (nots n)
nots_words zero = tt
nots_words (suc n) = (fixed (codes "not") refl, nots_words n)

nots_again : (most n before : ℕ) (f : ℕ → ℕ) (rest : List Tok) → n ≤ most → begins_not rest ≡ false → turns most (upon begins_not) one_not before (at (on f (nots n) rest)) ≡ Ok (before + n, at rest)
unfolding turns one_not
nots_again zero zero before f rest le e = let same : before ≡ before + zero = omega arith in ap (λ (n : ℕ). Ok (n, at rest)) same
nots_again zero (suc n) before f rest le e = absurd (omega (arith, le))
nots_again (suc most) zero before f rest le e = let same : before ≡ before + zero = omega arith in rw e (ap (λ (n : ℕ). Ok (n, at rest)) same)
nots_again (suc most) (suc n) before f rest le e =
    let same : (before + 1) + n ≡ before + suc n = omega arith in
    nots_again most n (before + 1) (λ k. f (suc k)) rest (omega (arith, le)) e ∙ ap (λ (n : ℕ). Ok (n, at rest)) same

nots_fit : (n : ℕ) (f : ℕ → ℕ) (rest : List Tok) → n ≤ length (on f (nots n) rest)
nots_fit zero f rest = omega arith
nots_fit (suc n) f rest = omega (arith, nots_fit n (λ k. f (suc k)) rest)

-- the word of a comparison
cmp_fixed : (op : CmpOp) → IsWord (name_word (cmp_text op))
cmp_fixed ops.Eq = fixed (codes "eq") refl
cmp_fixed ops.Le = fixed (codes "le") refl
cmp_fixed ops.Lt = fixed (codes "lt") refl
cmp_fixed ops.Ge = fixed (codes "ge") refl
cmp_fixed ops.Gt = fixed (codes "gt") refl

cmp_means : (op : CmpOp) (start : ℕ) → comparison_meant (tok_from start (name_word (cmp_text op))) ≡ Some op
cmp_means ops.Eq start = refl
cmp_means ops.Le start = refl
cmp_means ops.Lt start = refl
cmp_means ops.Ge start = refl
cmp_means ops.Gt start = refl

-- it isn't "not"
len_begins : (op : CmpOp) (x : List ℕ) (m : ℤ) (f : ℕ → ℕ) (rest : List Tok) → begins_not (on f (len_words op x m) rest) ≡ false
len_begins ops.Eq x m f rest = refl
len_begins ops.Le x m f rest = refl
len_begins ops.Lt x m f rest = refl
len_begins ops.Ge x m f rest = refl
len_begins ops.Gt x m f rest = refl

items_of : (P : UCond → Type 0) (before fs : List UCond) → AllByRecursion P fs → Items (λ _ f. P f) before fs
items_of P before [] a = tt
items_of P before (f ∷ fs) a = (a.0, items_of P (before ++ f ∷ []) fs a.1)

module _ (depth : ℕ) (ih : (f : UCond) → IsCond depth f → Reads (condition depth) f (cond_words f) ends_or) where
  -- "(" or ")"
  round_reads : (p : UPart) (ws : List Word) → cond_words (plainly p) ≡ ws → IsCond depth (plainly p) → Reads (atom (condition depth)) (plainly p) (in_round ws) never
  unfolding atom bracketed
  round_reads p ws e h =
      let inner : Reads (condition depth) (plainly p) ws ends_or = subst (λ (us : List Word). Reads (condition depth) (plainly p) us ends_or) e (ih (plainly p) h) in
      record {
        words = (sign 40 refl, words_append ws (mark_word 41 ∷ []) inner.words (sign 41 refl, tt));
        again = λ f rest _.
            let g : ℕ → ℕ = λ n. f (suc n) in
            rw (on_append g ws (mark_word 41 ∷ []) rest, inner.again g (on (behind g ws) (mark_word 41 ∷ []) rest) refl) refl;
      }

  len_reads : (op : CmpOp) (x : List ℕ) (m : ℤ) → IsLen x m → Reads (atom (condition depth)) (plainly (parts.Len op x m)) (len_words op x m) never
  unfolding atom len_alone
  len_reads op x m h = record {
    words = (cmp_fixed op, (sign 40 refl, (fixed (codes "len") refl, (sign 40 refl, (h.word, (sign 41 refl, (sign 44 refl, (h.number.word, (sign 41 refl, tt)))))))));
    again = λ f rest _.
        let g : ℕ → ℕ = λ n. f (suc (suc (suc n))) in
        let g2 : ℕ → ℕ = λ n. g (suc (suc (suc n))) in
        let g3 : ℕ → ℕ = λ n. g2 (suc n) in
        rw (
          cmp_means op (f 0),
          (round_name_reads x h.word).again g (on g2 (mark_word comma ∷ int_word m ∷ mark_word close_round ∷ []) rest) refl,
          (int_reads m h.number).again g3 (tok_from (g3 1) (mark_word close_round) ∷ rest) refl,
        ) refl;
  }

  nots_reads : (n : ℕ) (p : UPart) (ws : List Word) → ((f : ℕ → ℕ) (rest : List Tok) → begins_not (on f ws rest) ≡ false) → Reads (atom (condition depth)) (plainly p) ws never
      → Reads (not_of (condition depth)) (record { nots = n; part = p }) (nots n ++ ws) never
  unfolding not_of
  nots_reads n p ws e a = record {
    words = words_append (nots n) ws (nots_words n) a.words;
    again = λ f rest _.
        let g : ℕ → ℕ = behind f (nots n) in
        let count : (0 + n) + 0 ≡ n = omega arith in
        rw (on_append f (nots n) ws rest, nots_again (length (on f (nots n) (on g ws rest))) n 0 f (on g ws rest) (nots_fit n f (on g ws rest)) (e g rest), a.again g rest refl)
        (ap (λ (k : ℕ). Ok (record { nots = k; part = p }, at rest)) count);
  }

  not_reads : (f : UCond) → IsNot (At depth) f → Reads (not_of (condition depth)) f (shown f).as_not never
  not_reads f h = by (out-UPart f.part) refl h
    where
      as_words : (ws : List Word) → (shown f).as_not ≡ ws → Reads (not_of (condition depth)) f ws never → Reads (not_of (condition depth)) f (shown f).as_not never
      as_words ws e a = subst (λ (us : List Word). Reads (not_of (condition depth)) f us never) (sym e) a

      by : (o : Layer) → out-UPart f.part ≡ o → not_case (At depth) f.part o → Reads (not_of (condition depth)) f (shown f).as_not never
      by (UPart-F.Or fs) e h =
          as_words (nots f.nots ++ in_round (or_words fs)) (ap (λ s. s.as_not) (shown_is f ∙ shown_as_or f.part fs f.nots e))
          (nots_reads f.nots f.part (in_round (or_words fs)) (λ g rest. refl)
          (round_reads f.part (or_words fs) (ap (λ s. s.as_or) (shown_is (plainly f.part) ∙ shown_as_or f.part fs 0 e)) h))
      by (UPart-F.And fs) e h =
          as_words (nots f.nots ++ in_round (and_words fs)) (ap (λ s. s.as_not) (shown_is f ∙ shown_as_and f.part fs f.nots e))
          (nots_reads f.nots f.part (in_round (and_words fs)) (λ g rest. refl)
          (round_reads f.part (and_words fs) (ap (λ s. s.as_or) (shown_is (plainly f.part) ∙ shown_as_and f.part fs 0 e)) h))
      by (UPart-F.Len op x m) e h =
          as_words (nots f.nots ++ len_words op x m) (ap (λ s. s.as_not) (shown_is f ∙ shown_as_len f.part op x m f.nots e))
          (nots_reads f.nots f.part (len_words op x m) (len_begins op x m)
          (subst (λ (p : UPart). Reads (atom (condition depth)) (plainly p) (len_words op x m) never) (sym (part_len f.part op x m e)) (len_reads op x m h)))

  and_repeats : Repeats begins_and (and_more (condition depth)) (λ _ f. IsNot (At depth) f) (λ f. name_word (codes "and") ∷ (shown f).as_not) never
  unfolding and_more
  and_repeats = record {
    reads = λ before x h. record {
      words = (fixed (codes "and") refl, (not_reads x h).words);
      again = λ f rest e. rw ((not_reads x h).again (λ n. f (suc n)) rest refl) refl;
    };
    begun = λ before x h f rest. refl;
    clear = λ before x h f rest. refl;
    some = λ before x h. omega arith;
  }

  -- one part stands for itself
  one_reads_and : (f : UCond) (ws : List Word) → Reads (not_of (condition depth)) f ws never → Reads (and_of (condition depth)) f ws ends_and
  unfolding and_of
  one_reads_and x ws a = record {
    words = a.words;
    again = λ f rest e. rw (a.again f rest refl, or_first (begins_and rest) (never rest) e) refl;
  }

  ands_read : (a b : UCond) (more : List UCond) → AllByRecursion (λ f. IsNot (At depth) f) (a ∷ b ∷ more)
      → Reads (and_of (condition depth)) (plainly (parts.And (a ∷ b ∷ more))) (and_words (a ∷ b ∷ more)) ends_and
  unfolding and_of and_rest
  ands_read a b more h =
      let words : List Word = flat_map (λ f. name_word (codes "and") ∷ (shown f).as_not) (b ∷ more) in
      let rest : Reads (repeated begins_and (and_more (condition depth)) (a ∷ [])) (a ∷ b ∷ more) words ends_and =
      repeated_reads begins_and (and_more (condition depth)) (λ _ f. IsNot (At depth) f) (λ f. name_word (codes "and") ∷ (shown f).as_not) never and_repeats (a ∷ []) (b ∷ more)
      (items_of (λ f. IsNot (At depth) f) (a ∷ []) (b ∷ more) h.1) in
      record {
        words = words_append (shown a).as_not words (not_reads a h.0).words rest.words;
        again = λ f left e.
            let g : ℕ → ℕ = behind f (shown a).as_not in
            rw (on_append f (shown a).as_not words left, (not_reads a h.0).again f (on g words left) refl, rest.again g left e) refl;
      }

  and_reads : (f : UCond) → IsAnd (At depth) f → Reads (and_of (condition depth)) f (shown f).as_and ends_and
  and_reads f h = by (out-UPart f.part) f.nots refl refl h
    where
      alone : (shown f).as_and ≡ (shown f).as_not → IsNot (At depth) f → Reads (and_of (condition depth)) f (shown f).as_and ends_and
      alone e i = subst (λ (us : List Word). Reads (and_of (condition depth)) f us ends_and) (sym e) (one_reads_and f (shown f).as_not (not_reads f i))

      by : (o : Layer) (n : ℕ) → out-UPart f.part ≡ o → f.nots ≡ n → and_case (At depth) f.part o n → Reads (and_of (condition depth)) f (shown f).as_and ends_and
      by (UPart-F.Or fs) n e k h =
          let same : shown f ≡ shown_or f.nots (or_words fs) = shown_is f ∙ shown_as_or f.part fs f.nots e in
          alone (ap (λ s. s.as_and) same ∙ sym (ap (λ s. s.as_not) same)) (subst (λ (o : Layer). not_case (At depth) f.part o) (sym e) h)
      by (UPart-F.And fs) zero e k h =
          let same : shown f ≡ shown_and zero (and_words fs) = shown_is f ∙ shown_as_and f.part fs f.nots e ∙ ap (λ n. shown_and n (and_words fs)) k in
          let t : AreTwo fs = h.two in
          let all : AllByRecursion (λ f. IsNot (At depth) f) (t.first ∷ t.second ∷ t.more) = subst (λ (l : List UCond). AllByRecursion (λ f. IsNot (At depth) f) l) t.is h.each in
          let read : Reads (and_of (condition depth)) (plainly (parts.And fs)) (and_words fs) ends_and =
          subst (λ (l : List UCond). Reads (and_of (condition depth)) (plainly (parts.And l)) (and_words l) ends_and) (sym t.is) (ands_read t.first t.second t.more all) in
          let it : plainly (parts.And fs) ≡ f = (λ i. record { nots = sym k i; part = sym (part_and f.part fs e) i }) in
          subst (λ (us : List Word). Reads (and_of (condition depth)) f us ends_and) (sym (ap (λ s. s.as_and) same))
          (subst (λ (x : UCond). Reads (and_of (condition depth)) x (and_words fs) ends_and) it read)
      by (UPart-F.And fs) (suc n) e k h =
          let same : shown f ≡ shown_and (suc n) (and_words fs) = shown_is f ∙ shown_as_and f.part fs f.nots e ∙ ap (λ n. shown_and n (and_words fs)) k in
          alone (ap (λ s. s.as_and) same ∙ sym (ap (λ s. s.as_not) same)) (subst (λ (o : Layer). not_case (At depth) f.part o) (sym e) h)
      by (UPart-F.Len op x m) n e k h =
          let same : shown f ≡ shown_alone (nots f.nots ++ len_words op x m) = shown_is f ∙ shown_as_len f.part op x m f.nots e in
          alone (ap (λ s. s.as_and) same ∙ sym (ap (λ s. s.as_not) same)) (subst (λ (o : Layer). not_case (At depth) f.part o) (sym e) h)

  or_repeats : Repeats begins_or (or_more (condition depth)) (λ _ f. IsAnd (At depth) f) (λ f. name_word (codes "or") ∷ (shown f).as_and) ends_and
  unfolding or_more
  or_repeats = record {
    reads = λ before x h. record {
      words = (fixed (codes "or") refl, (and_reads x h).words);
      again = λ f rest e. rw ((and_reads x h).again (λ n. f (suc n)) rest e) refl;
    };
    begun = λ before x h f rest. refl;
    clear = λ before x h f rest. refl;
    some = λ before x h. omega arith;
  }

  one_reads_or : (f : UCond) (ws : List Word) → Reads (and_of (condition depth)) f ws ends_and → Reads (or_of (condition depth)) f ws ends_or
  unfolding or_of
  one_reads_or x ws a = record {
    words = a.words;
    again = λ f rest e. rw (a.again f rest (or_second (begins_or rest) (ends_and rest) e), or_first (begins_or rest) (ends_and rest) e) refl;
  }

  ors_read : (a b : UCond) (more : List UCond) → AllByRecursion (λ f. IsAnd (At depth) f) (a ∷ b ∷ more)
      → Reads (or_of (condition depth)) (plainly (parts.Or (a ∷ b ∷ more))) (or_words (a ∷ b ∷ more)) ends_or
  unfolding or_of or_rest
  ors_read a b more h =
      let words : List Word = flat_map (λ f. name_word (codes "or") ∷ (shown f).as_and) (b ∷ more) in
      let rest : Reads (repeated begins_or (or_more (condition depth)) (a ∷ [])) (a ∷ b ∷ more) words ends_or =
      repeated_reads begins_or (or_more (condition depth)) (λ _ f. IsAnd (At depth) f) (λ f. name_word (codes "or") ∷ (shown f).as_and) ends_and or_repeats (a ∷ []) (b ∷ more)
      (items_of (λ f. IsAnd (At depth) f) (a ∷ []) (b ∷ more) h.1) in
      record {
        words = words_append (shown a).as_and words (and_reads a h.0).words rest.words;
        again = λ f left e.
            let g : ℕ → ℕ = behind f (shown a).as_and in
            rw (on_append f (shown a).as_and words left, (and_reads a h.0).again f (on g words left) refl, rest.again g left e) refl;
      }

  or_reads : (f : UCond) → IsOr (At depth) f → Reads (or_of (condition depth)) f (shown f).as_or ends_or
  or_reads f h = by (out-UPart f.part) f.nots refl refl h
    where
      alone : (shown f).as_or ≡ (shown f).as_and → IsAnd (At depth) f → Reads (or_of (condition depth)) f (shown f).as_or ends_or
      alone e i = subst (λ (us : List Word). Reads (or_of (condition depth)) f us ends_or) (sym e) (one_reads_or f (shown f).as_and (and_reads f i))

      as_and : (o : Layer) (n : ℕ) → out-UPart f.part ≡ o → f.nots ≡ n → and_case (At depth) f.part o n → IsAnd (At depth) f
      as_and o n e k h =
          subst (λ (o : Layer). and_case (At depth) f.part o f.nots) (sym e) (subst (λ (n : ℕ). and_case (At depth) f.part o n) (sym k) h)

      by : (o : Layer) (n : ℕ) → out-UPart f.part ≡ o → f.nots ≡ n → or_case (At depth) f.part o n → Reads (or_of (condition depth)) f (shown f).as_or ends_or
      by (UPart-F.Or fs) zero e k h =
          let same : shown f ≡ shown_or zero (or_words fs) = shown_is f ∙ shown_as_or f.part fs f.nots e ∙ ap (λ n. shown_or n (or_words fs)) k in
          let t : AreTwo fs = h.two in
          let all : AllByRecursion (λ f. IsAnd (At depth) f) (t.first ∷ t.second ∷ t.more) = subst (λ (l : List UCond). AllByRecursion (λ f. IsAnd (At depth) f) l) t.is h.each in
          let read : Reads (or_of (condition depth)) (plainly (parts.Or fs)) (or_words fs) ends_or =
          subst (λ (l : List UCond). Reads (or_of (condition depth)) (plainly (parts.Or l)) (or_words l) ends_or) (sym t.is) (ors_read t.first t.second t.more all) in
          let it : plainly (parts.Or fs) ≡ f = (λ i. record { nots = sym k i; part = sym (part_or f.part fs e) i }) in
          subst (λ (us : List Word). Reads (or_of (condition depth)) f us ends_or) (sym (ap (λ s. s.as_or) same))
          (subst (λ (x : UCond). Reads (or_of (condition depth)) x (or_words fs) ends_or) it read)
      by (UPart-F.Or fs) (suc n) e k h =
          let same : shown f ≡ shown_or (suc n) (or_words fs) = shown_is f ∙ shown_as_or f.part fs f.nots e ∙ ap (λ n. shown_or n (or_words fs)) k in
          alone (ap (λ s. s.as_or) same ∙ sym (ap (λ s. s.as_and) same)) (as_and (UPart-F.Or fs) (suc n) e k h)
      by (UPart-F.And fs) n e k h =
          let same : shown f ≡ shown_and f.nots (and_words fs) = shown_is f ∙ shown_as_and f.part fs f.nots e in
          alone (ap (λ s. s.as_or) same ∙ sym (ap (λ s. s.as_and) same)) (as_and (UPart-F.And fs) n e k h)
      by (UPart-F.Len op x m) n e k h =
          let same : shown f ≡ shown_alone (nots f.nots ++ len_words op x m) = shown_is f ∙ shown_as_len f.part op x m f.nots e in
          alone (ap (λ s. s.as_or) same ∙ sym (ap (λ s. s.as_and) same)) (as_and (UPart-F.Len op x m) n e k h)

pub condition_reads : (depth : ℕ) (f : UCond) → IsCond depth f → Reads (condition depth) f (cond_words f) ends_or
unfolding condition IsCond
condition_reads zero f h = absurd h
condition_reads (suc depth) f h = or_reads depth (condition_reads depth) f h
