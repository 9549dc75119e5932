-- What is printed of conditions opens no more brackets than what was read.
use Rattle.std.proofs.Common.{◌≡◌, ℕ, zero, suc, ◌≤◌, Bool, List, [], ◌∷◌, ◌++◌, length, refl, sym, ◌∙◌, subst}
use Rattle.std.specs.Prelude.{ℤ, codes}
use Rattle.std.specs.List.{AllByRecursion}
use Rattle.dg_text.specs.Cases.{Left}
use Rattle.dg_text.specs.Marks.{open_round, close_round, comma}
use Rattle.dg_text.specs.Reading.{next}
use Rattle.dg_text.specs.Spelling.{name_word, mark_word, int_word}
use Rattle.dg_text.specs.Tokens.{Tok, is_punct, is_word, is_word_any_case}
use Rattle.dg_text.specs.Written.{Word}
use Rattle.dg_parse.specs.declared.upsert.UCond.{UCond}
use Rattle.dg_parse.specs.declared.query.CmpOp.{CmpOp}
use Rattle.dg_parse.specs.declared.upsert.UPart.{UPart}
use Rattle.dg_parse.specs.declared.upsert.UPart.TheVariants as parts
use Rattle.dg_parse.specs.declared.upsert.UPart.TheOpen.{UPart-F}
use Rattle.dg_parse.specs.declared.upsert.UPart.TheViews.{out-UPart}
use Rattle.dg_parse.specs.Filters.{one_not}
use Rattle.dg_parse.specs.Conditions.{plainly, negated, len_alone, bracketed, atom, not_of, and_more, and_rest, and_of, or_more, or_rest, or_of, condition}
use Rattle.dg_parse.specs.Words.{comparison_meant}
use Rattle.dg_print.specs.Printed.{Shown, shown_or, shown_and, barely, nots, in_round, cmp_text}
use Rattle.dg_print.specs.PrintedUpsert.{shown, len_words, cond_words}
use Rattle.dg_print.proofs.ConditionWords.{Layer, shown_of, shown_is, or_words, and_words, shown_as_or, shown_as_and, shown_as_len}
use Rattle.dg_print.proofs.Lists.{Added, all_of}
use Rattle.dg_print.proofs.NestedParts.{low_name, low_comma, low_brackets, low_between, at_round_name, at_int}
use Rattle.dg_print.proofs.Nesting.{Low, Nothing, Flat, low_append, low_down, Kept, bind, gives, weaker, either, Any, at_skip, at_one, at_sign, at_open, at_close, at_repeated, at_any_turns}

-- ---- words

low_nots : (n k : ℕ) (ws : List Word) → Low n ws → Low n (nots k ++ ws)
low_nots n zero ws l = l
low_nots n (suc k) ws l = low_name n (codes "not") (nots k ++ ws) (low_nots n k ws l)

low_barely : (n k : ℕ) (bare ws : List Word) → Low n bare → Low n ws → Low n (barely k bare ws)
low_barely n zero bare ws b l = b
low_barely n (suc k) bare ws b l = low_nots n (suc k) ws l

-- a part without "not", bare
abbrev LowBare : ℕ → UPart → Type 0
LowBare n p = Low n (shown_of p 0).as_or

-- a part with any number of "not", wherever it stands
record LowPart (n : ℕ) (p : UPart) : Type 0 where
  pub as_or : (k : ℕ) → Low n (shown_of p k).as_or
  pub as_and : (k : ℕ) → Low n (shown_of p k).as_and
  pub as_not : (k : ℕ) → Low n (shown_of p k).as_not

low_part : (n : ℕ) (p : UPart) → suc n ≤ 32 → LowBare (suc n) p → LowPart n p
low_part n p le l = by (out-UPart p) refl
  where
    by : (o : Layer) → out-UPart p ≡ o → LowPart n p
    by (UPart-F.Or fs) e =
        let ws : List Word = or_words fs in
        let bare : Low (suc n) ws = subst (λ (s : Shown). Low (suc n) s.as_or) (shown_as_or p fs 0 e) l in
        let low : Low n ws = low_down n ws bare in
        let round : Low n (in_round ws) = low_brackets n ws le bare in
        record {
          as_or = λ k. subst (λ (s : Shown). Low n s.as_or) (sym (shown_as_or p fs k e)) (low_barely n k ws (in_round ws) low round);
          as_and = λ k. subst (λ (s : Shown). Low n s.as_and) (sym (shown_as_or p fs k e)) (low_nots n k (in_round ws) round);
          as_not = λ k. subst (λ (s : Shown). Low n s.as_not) (sym (shown_as_or p fs k e)) (low_nots n k (in_round ws) round);
        }
    by (UPart-F.And fs) e =
        let ws : List Word = and_words fs in
        let bare : Low (suc n) ws = subst (λ (s : Shown). Low (suc n) s.as_or) (shown_as_and p fs 0 e) l in
        let low : Low n ws = low_down n ws bare in
        let round : Low n (in_round ws) = low_brackets n ws le bare in
        record {
          as_or = λ k. subst (λ (s : Shown). Low n s.as_or) (sym (shown_as_and p fs k e)) (low_barely n k ws (in_round ws) low round);
          as_and = λ k. subst (λ (s : Shown). Low n s.as_and) (sym (shown_as_and p fs k e)) (low_barely n k ws (in_round ws) low round);
          as_not = λ k. subst (λ (s : Shown). Low n s.as_not) (sym (shown_as_and p fs k e)) (low_nots n k (in_round ws) round);
        }
    by (UPart-F.Len op x m) e =
        let ws : List Word = len_words op x m in
        let low : Low n ws = low_down n ws (subst (λ (s : Shown). Low (suc n) s.as_or) (shown_as_len p op x m 0 e) l) in
        record {
          as_or = λ k. subst (λ (s : Shown). Low n s.as_or) (sym (shown_as_len p op x m k e)) (low_nots n k ws low);
          as_and = λ k. subst (λ (s : Shown). Low n s.as_and) (sym (shown_as_len p op x m k e)) (low_nots n k ws low);
          as_not = λ k. subst (λ (s : Shown). Low n s.as_not) (sym (shown_as_len p op x m k e)) (low_nots n k ws low);
        }

low_len : (n : ℕ) (op : CmpOp) (x : List ℕ) (m : ℤ) → Low n (len_words op x m) → LowPart n (parts.Len op x m)
low_len n op x m low =
    let e = parts.outs-Len op x m in
    let ws : List Word = len_words op x m in
    record {
      as_or = λ k. subst (λ (s : Shown). Low n s.as_or) (sym (shown_as_len (parts.Len op x m) op x m k e)) (low_nots n k ws low);
      as_and = λ k. subst (λ (s : Shown). Low n s.as_and) (sym (shown_as_len (parts.Len op x m) op x m k e)) (low_nots n k ws low);
      as_not = λ k. subst (λ (s : Shown). Low n s.as_not) (sym (shown_as_len (parts.Len op x m) op x m k e)) (low_nots n k ws low);
    }

low_whole : (n : ℕ) (op : CmpOp) (x : List ℕ) (m : ℤ) → suc n ≤ 32 → suc (suc n) ≤ 32 → Low n (len_words op x m)
low_whole n op x m le deep =
    let k : ℕ = suc n in
    let inner : List Word = name_word (codes "len") ∷ (in_round (name_word x ∷ []) ++ mark_word comma ∷ int_word m ∷ []) in
    let last : Low k (mark_word comma ∷ int_word m ∷ []) = low_comma k (int_word m ∷ []) (Flat k (int_word m) [] (λ start. (refl, refl)) (Nothing k)) in
    let low : Low k inner = low_name k (codes "len") (in_round (name_word x ∷ []) ++ mark_word comma ∷ int_word m ∷ []) (low_append k (in_round (name_word x ∷ [])) (mark_word comma ∷ int_word m ∷ []) (low_brackets k (name_word x ∷ []) deep (low_name (suc k) x [] (Nothing (suc k)))) last) in
    low_name n (cmp_text op) (in_round inner) (low_brackets n inner le low)

-- where an or may stand bare
record LowOr (n : ℕ) (f : UCond) : Type 0 where
  pub as_or : Low n (shown f).as_or
  pub bare : LowBare n f.part

-- where an and may stand bare
record LowAnd (n : ℕ) (f : UCond) : Type 0 where
  pub as_and : Low n (shown f).as_and
  pub as_or : Low n (shown f).as_or
  pub bare : LowBare n f.part

part_and : (n : ℕ) (f : UCond) → LowPart n f.part → LowAnd n f
part_and n f h = record {
  as_and = subst (λ (s : Shown). Low n s.as_and) (sym (shown_is f)) (h.as_and f.nots);
  as_or = subst (λ (s : Shown). Low n s.as_or) (sym (shown_is f)) (h.as_or f.nots);
  bare = h.as_or 0;
}

part_not : (n : ℕ) (f : UCond) → LowPart n f.part → Low n (shown f).as_not
part_not n f h = subst (λ (s : Shown). Low n s.as_not) (sym (shown_is f)) (h.as_not f.nots)

low_ands : (n : ℕ) (fs : List UCond) → AllByRecursion (λ f. LowPart n f.part) fs → LowAnd n (plainly (parts.And fs))
low_ands n fs a =
    let p : UPart = parts.And fs in
    let same : shown_of p 0 ≡ shown_and 0 (and_words fs) = shown_as_and p fs 0 (parts.outs-And fs) in
    let low : Low n (and_words fs) = low_between n (name_word (codes "and")) (λ f. (shown f).as_not) (λ start. (refl, refl)) fs (nots_of fs a) in
    record {
      as_and = subst (λ (s : Shown). Low n s.as_and) (sym (shown_is (plainly p) ∙ same)) low;
      as_or = subst (λ (s : Shown). Low n s.as_or) (sym (shown_is (plainly p) ∙ same)) low;
      bare = subst (λ (s : Shown). Low n s.as_or) (sym same) low;
    }
  where
    nots_of : (gs : List UCond) → AllByRecursion (λ f. LowPart n f.part) gs → AllByRecursion (λ f. Low n (shown f).as_not) gs
    nots_of [] a = tt
    nots_of (g ∷ gs) a = (part_not n g a.0, nots_of gs a.1)

low_ors : (n : ℕ) (fs : List UCond) → AllByRecursion (λ f. LowAnd n f) fs → LowOr n (plainly (parts.Or fs))
low_ors n fs a =
    let p : UPart = parts.Or fs in
    let same : shown_of p 0 ≡ shown_or 0 (or_words fs) = shown_as_or p fs 0 (parts.outs-Or fs) in
    let low : Low n (or_words fs) = low_between n (name_word (codes "or")) (λ f. (shown f).as_and) (λ start. (refl, refl)) fs (ands_of fs a) in
    record {
      as_or = subst (λ (s : Shown). Low n s.as_or) (sym (shown_is (plainly p) ∙ same)) low;
      bare = subst (λ (s : Shown). Low n s.as_or) (sym same) low;
    }
  where
    ands_of : (gs : List UCond) → AllByRecursion (λ f. LowAnd n f) gs → AllByRecursion (λ f. Low n (shown f).as_and) gs
    ands_of [] a = tt
    ands_of (g ∷ gs) a = (a.0.as_and, ands_of gs a.1)

-- ---- what is read

begins_and : List Tok → Bool
begins_and l = next (is_word_any_case (codes "and")) l

module _ (depth : ℕ) (one : (n : ℕ) (l : Left) → Kept n n l (condition depth l) (λ f. LowOr n f)) where
  at_len : {n : ℕ} (left : Left) → Kept n n left (len_alone left) (λ f. LowPart n f.part)
  unfolding len_alone
  at_len {n} left =
      bind _ (at_one comparison_meant left (λ b t s. refl))
      (λ op l. bind _ (at_open open_round l (λ t s. (refl, refl)))
      (λ _ k. bind _ (at_skip (is_word (codes "len")) k (λ b t s. refl))
      (λ _ m. bind _ (at_round_name m)
      (λ x p. bind _ (at_sign comma p (λ t s. (refl, refl)))
      (λ _ q. bind _ (at_int q)
      (λ z r. bind _ (at_close close_round r (λ t s. (refl, refl)))
      (λ _ t. gives (plainly (parts.Len op x z)) t (λ _ _ _ deep _ le _. low_len n op x z (low_whole n op x z le deep)))))))))

  at_atom : {n : ℕ} (left : Left) → Kept n n left (atom (condition depth) left) (λ f. LowPart n f.part)
  unfolding atom bracketed
  at_atom {n} left = either (next (is_punct open_round) left.tokens)
      (λ e. bind _ (at_open open_round left (λ t s. (refl, refl)))
      (λ _ l. bind _ (one (suc n) l)
      (λ f k. bind _ (at_close close_round k (λ t s. (refl, refl)))
      (λ _ m. gives f m (λ _ h le. low_part n f.part le h.bare)))))
      (λ e. at_len left)

  at_not : {n : ℕ} (left : Left) → Kept n n left (not_of (condition depth) left) (λ f. LowPart n f.part)
  unfolding not_of one_not
  at_not {n} left =
      bind _ (at_any_turns (next (is_word_any_case (codes "not"))) one_not Any
      (λ k l. bind _ (at_skip (is_word_any_case (codes "not")) l (λ b t s. refl)) (λ _ m. gives _ m (λ _ x. x)))
      (length left.tokens) 0 left)
      (λ k l. bind _ (at_atom l)
      (λ f m. gives (negated k f) m (λ h _. h)))

  at_and_more : {n : ℕ} (before : List UCond) (left : Left) → Kept n n left (and_more (condition depth) before left) (λ all. Added (λ _ f. LowPart n f.part) before all)
  unfolding and_more
  at_and_more before left =
      bind _ (at_skip (is_word_any_case (codes "and")) left (λ b t s. refl))
      (λ _ l. bind _ (at_not l)
      (λ f k. gives (before ++ f ∷ []) k (λ h _. record { item = f; is = refl; good = h })))

  at_and : {n : ℕ} (left : Left) → Kept n n left (and_of (condition depth) left) (λ f. LowAnd n f)
  unfolding and_of and_rest
  at_and {n} left =
      bind _ (at_not left)
      (λ first l. either (next (is_word_any_case (codes "and")) l.tokens)
      (λ e. bind _ (at_repeated (next (is_word_any_case (codes "and"))) (and_more (condition depth)) (λ f. LowPart n f.part) at_and_more (first ∷ []) l)
      (λ all k. gives (plainly (parts.And all)) k (λ a h.
      low_ands n all (subst (λ (fs : List UCond). AllByRecursion (λ f. LowPart n f.part) fs) (sym a.is) (h, all_of (λ f. LowPart n f.part) (first ∷ []) a.items a.good)))))
      (λ e. gives first l (λ h. part_and n first h)))

  at_or_more : {n : ℕ} (before : List UCond) (left : Left) → Kept n n left (or_more (condition depth) before left) (λ all. Added (λ _ f. LowAnd n f) before all)
  unfolding or_more
  at_or_more before left =
      bind _ (at_skip (is_word_any_case (codes "or")) left (λ b t s. refl))
      (λ _ l. bind _ (at_and l)
      (λ f k. gives (before ++ f ∷ []) k (λ h _. record { item = f; is = refl; good = h })))

  at_or : {n : ℕ} (left : Left) → Kept n n left (or_of (condition depth) left) (λ f. LowOr n f)
  unfolding or_of or_rest
  at_or {n} left =
      bind _ (at_and left)
      (λ first l. either (next (is_word_any_case (codes "or")) l.tokens)
      (λ e. bind _ (at_repeated (next (is_word_any_case (codes "or"))) (or_more (condition depth)) (λ f. LowAnd n f) at_or_more (first ∷ []) l)
      (λ all k. gives (plainly (parts.Or all)) k (λ a h.
      low_ors n all (subst (λ (fs : List UCond). AllByRecursion (λ f. LowAnd n f) fs) (sym a.is) (h, all_of (λ f. LowAnd n f) (first ∷ []) a.items a.good)))))
      (λ e. gives first l (λ h. record { as_or = h.as_or; bare = h.bare })))

at_depth : (depth n : ℕ) (left : Left) → Kept n n left (condition depth left) (λ f. LowOr n f)
unfolding condition
at_depth zero n left = record { it = tt }
at_depth (suc depth) n left = at_or depth (at_depth depth) left

pub at_condition : {n : ℕ} (depth : ℕ) (left : Left) → Kept n n left (condition depth left) (λ f. Low n (cond_words f))
at_condition {n} depth left = weaker (at_depth depth n left) (λ f h. h.as_or)
