-- Filters as words, and which filters are read with brackets at most so deep.
use Rattle.std.proofs.Common.{◌≡◌, ℕ, zero, suc, false, List, [], ◌∷◌, ◌++◌, map, flat_map, ap, refl, sym, ◌∙◌, subst}
use Rattle.std.specs.Prelude.{codes}
use Rattle.std.specs.List.{AllByRecursion}
use Rattle.dg_parse.specs.declared.query.QFilter.{QFilter}
use Rattle.dg_parse.specs.declared.query.QFunc.{QFunc}
use Rattle.dg_parse.specs.declared.query.QPart.{QPart}
use Rattle.dg_parse.specs.declared.query.QPart.TheVariants as parts
use Rattle.dg_parse.specs.declared.query.QPart.TheOpen.{QPart-F}
use Rattle.dg_parse.specs.declared.query.QPart.TheViews.{out-QPart, roll-QPart, roll-out-QPart}
use Rattle.dg_parse.specs.declared.query.QPart.TheFolds.{fold-QPart, fold_out-QPart, fold_out-QFilter}
use Rattle.dg_parse.specs.Filters.{plainly}
use Rattle.dg_print.specs.Printed.{Shown, shown, shown_part, shown_filter, shown_alone, shown_or, shown_and, nots, func_words, between_words}
use Rattle.dg_text.specs.Spelling.{name_word}
use Rattle.dg_text.specs.Written.{Word}
use Rattle.dg_print.proofs.FunctionsAgain.{IsFuncAt}

-- ---- the words by the part

-- a part with so many "not" before it, as words
abbrev pub shown_of : QPart → ℕ → Shown
shown_of = fold-QPart (ℕ → Shown) Shown shown_part shown_filter

pub shown_is : (f : QFilter) → shown f ≡ shown_of f.part f.nots
shown_is f = fold_out-QFilter (ℕ → Shown) Shown shown_part shown_filter f

-- one layer of a part
abbrev pub Layer : Type 0
Layer = QPart-F QPart QFilter

words_map : (w : Word) (words_of : Shown → List Word) (fs : List QFilter) → flat_map (λ y. w ∷ words_of y) (map shown fs) ≡ flat_map (λ y. w ∷ words_of (shown y)) fs
words_map w words_of [] = refl
words_map w words_of (f ∷ fs) = ap (λ l. (w ∷ words_of (shown f)) ++ l) (words_map w words_of fs)

between_map : (w : Word) (words_of : Shown → List Word) (fs : List QFilter) → between_words w words_of (map shown fs) ≡ between_words w (λ f. words_of (shown f)) fs
between_map w words_of [] = refl
between_map w words_of (f ∷ fs) = ap (λ l. words_of (shown f) ++ l) (words_map w words_of fs)

-- the parts of an or, with their word
abbrev pub or_words : List QFilter → List Word
or_words fs = between_words (name_word (codes "or")) (λ f. (shown f).as_and) fs

-- the parts of an and, with their word
abbrev pub and_words : List QFilter → List Word
and_words fs = between_words (name_word (codes "and")) (λ f. (shown f).as_not) fs

pub shown_as_or : (p : QPart) (fs : List QFilter) (n : ℕ) → out-QPart p ≡ QPart-F.Or fs → shown_of p n ≡ shown_or n (or_words fs)
shown_as_or p fs n e =
    ap (λ s. s n) (fold_out-QPart (ℕ → Shown) Shown shown_part shown_filter p)
    ∙ rw e (ap (shown_or n) (between_map (name_word (codes "or")) (λ f. f.as_and) fs))

pub shown_as_and : (p : QPart) (fs : List QFilter) (n : ℕ) → out-QPart p ≡ QPart-F.And fs → shown_of p n ≡ shown_and n (and_words fs)
shown_as_and p fs n e =
    ap (λ s. s n) (fold_out-QPart (ℕ → Shown) Shown shown_part shown_filter p)
    ∙ rw e (ap (shown_and n) (between_map (name_word (codes "and")) (λ f. f.as_not) fs))

pub shown_as_func : (p : QPart) (fn : QFunc) (n : ℕ) → out-QPart p ≡ QPart-F.Func fn → shown_of p n ≡ shown_alone (nots n ++ func_words fn)
shown_as_func p fn n e =
    ap (λ s. s n) (fold_out-QPart (ℕ → Shown) Shown shown_part shown_filter p)
    ∙ rw e refl

-- a part is its layer
pub part_or : (p : QPart) (fs : List QFilter) → out-QPart p ≡ QPart-F.Or fs → p ≡ parts.Or fs
part_or p fs e = sym (roll-out-QPart p) ∙ ap roll-QPart e ∙ parts.rolls-Or fs

pub part_and : (p : QPart) (fs : List QFilter) → out-QPart p ≡ QPart-F.And fs → p ≡ parts.And fs
part_and p fs e = sym (roll-out-QPart p) ∙ ap roll-QPart e ∙ parts.rolls-And fs

pub part_func : (p : QPart) (fn : QFunc) → out-QPart p ≡ QPart-F.Func fn → p ≡ parts.Func fn
part_func p fn e = sym (roll-out-QPart p) ∙ ap roll-QPart e ∙ parts.rolls-Func fn

-- ---- which filters are read

-- two or more
pub record AreTwo {X : Type 0} (xs : List X) : Type 0 where
  pub first : X
  pub second : X
  pub more : List X
  pub is : xs ≡ first ∷ second ∷ more

-- a part that stands behind "not" or alone, by what stands in brackets
abbrev pub not_case : (QFilter → Type 0) → QPart → Layer → Type 0
not_case inner p (QPart-F.Or fs) = inner (plainly p)
not_case inner p (QPart-F.And fs) = inner (plainly p)
not_case inner p (QPart-F.Func fn) = IsFuncAt false fn

-- a filter where neither or nor and may stand bare
abbrev pub IsNot : (QFilter → Type 0) → QFilter → Type 0
IsNot inner f = not_case inner f.part (out-QPart f.part)

-- each of them, and two or more
pub record AreParts (P : QFilter → Type 0) (fs : List QFilter) : Type 0 where
  pub two : AreTwo fs
  pub each : AllByRecursion P fs

-- a part where an and may stand bare
abbrev pub and_case : (QFilter → Type 0) → QPart → Layer → ℕ → Type 0
and_case inner p (QPart-F.Or fs) n = not_case inner p (QPart-F.Or fs)
and_case inner p (QPart-F.And fs) zero = AreParts (λ f. IsNot inner f) fs
and_case inner p (QPart-F.And fs) (suc n) = not_case inner p (QPart-F.And fs)
and_case inner p (QPart-F.Func fn) n = not_case inner p (QPart-F.Func fn)

-- a filter where an and may stand bare
abbrev pub IsAnd : (QFilter → Type 0) → QFilter → Type 0
IsAnd inner f = and_case inner f.part (out-QPart f.part) f.nots

-- a part where an or may stand bare
abbrev pub or_case : (QFilter → Type 0) → QPart → Layer → ℕ → Type 0
or_case inner p (QPart-F.Or fs) zero = AreParts (λ f. IsAnd inner f) fs
or_case inner p (QPart-F.Or fs) (suc n) = not_case inner p (QPart-F.Or fs)
or_case inner p (QPart-F.And fs) n = and_case inner p (QPart-F.And fs) n
or_case inner p (QPart-F.Func fn) n = not_case inner p (QPart-F.Func fn)

-- a filter where an or may stand bare
abbrev pub IsOr : (QFilter → Type 0) → QFilter → Type 0
IsOr inner f = or_case inner f.part (out-QPart f.part) f.nots

-- a filter that is read with brackets at most so deep
unfoldable pub IsFilter : ℕ → QFilter → Type 0
IsFilter zero f = ⊥
IsFilter (suc depth) f = IsOr (λ g. IsFilter depth g) f

-- ---- what is read is read deeper too

module _ (inner more : QFilter → Type 0) (up : (f : QFilter) → inner f → more f) where
  not_up : (p : QPart) (o : Layer) → not_case inner p o → not_case more p o
  not_up p (QPart-F.Or fs) h = up (plainly p) h
  not_up p (QPart-F.And fs) h = up (plainly p) h
  not_up p (QPart-F.Func fn) h = h

  nots_up : (fs : List QFilter) → AllByRecursion (λ f. IsNot inner f) fs → AllByRecursion (λ f. IsNot more f) fs
  nots_up [] h = tt
  nots_up (f ∷ fs) h = (not_up f.part (out-QPart f.part) h.0, nots_up fs h.1)

  and_up : (p : QPart) (o : Layer) (n : ℕ) → and_case inner p o n → and_case more p o n
  and_up p (QPart-F.Or fs) n h = not_up p (QPart-F.Or fs) h
  and_up p (QPart-F.And fs) zero h = record { two = h.two; each = nots_up fs h.each }
  and_up p (QPart-F.And fs) (suc n) h = not_up p (QPart-F.And fs) h
  and_up p (QPart-F.Func fn) n h = h

  ands_up : (fs : List QFilter) → AllByRecursion (λ f. IsAnd inner f) fs → AllByRecursion (λ f. IsAnd more f) fs
  ands_up [] h = tt
  ands_up (f ∷ fs) h = (and_up f.part (out-QPart f.part) f.nots h.0, ands_up fs h.1)

  or_up : (p : QPart) (o : Layer) (n : ℕ) → or_case inner p o n → or_case more p o n
  or_up p (QPart-F.Or fs) zero h = record { two = h.two; each = ands_up fs h.each }
  or_up p (QPart-F.Or fs) (suc n) h = not_up p (QPart-F.Or fs) h
  or_up p (QPart-F.And fs) n h = and_up p (QPart-F.And fs) n h
  or_up p (QPart-F.Func fn) n h = h

deeper : (depth : ℕ) (f : QFilter) → IsFilter depth f → IsFilter (suc depth) f
unfolding IsFilter
deeper zero f h = absurd h
deeper (suc depth) f h = or_up (λ g. IsFilter depth g) (λ g. IsFilter (suc depth) g) (deeper depth) f.part (out-QPart f.part) f.nots h

-- one in brackets stands where neither may stand bare
pub in_brackets : (depth : ℕ) (f : QFilter) → IsFilter depth f → IsNot (λ g. IsFilter depth g) f
unfolding IsFilter
in_brackets zero f h = absurd h
in_brackets (suc depth) f h = by (out-QPart f.part) f.nots refl h
  where
    by : (o : Layer) (n : ℕ) → out-QPart f.part ≡ o → or_case (λ g. IsFilter depth g) f.part o n → not_case (λ g. IsFilter (suc depth) g) f.part o
    by (QPart-F.Or fs) zero e h = subst (λ (o : Layer). or_case (λ g. IsFilter depth g) f.part o zero) (sym e) h
    by (QPart-F.Or fs) (suc n) e h = deeper depth (plainly f.part) h
    by (QPart-F.And fs) zero e h = subst (λ (o : Layer). or_case (λ g. IsFilter depth g) f.part o zero) (sym e) h
    by (QPart-F.And fs) (suc n) e h = deeper depth (plainly f.part) h
    by (QPart-F.Func fn) n e h = h

-- one that stands where neither may stand bare, stands where an and may
pub not_and : (depth : ℕ) (f : QFilter) → IsNot (λ g. IsFilter depth g) f → IsAnd (λ g. IsFilter depth g) f
unfolding IsFilter
not_and zero f h = by (out-QPart f.part) f.nots refl h
  where
    by : (o : Layer) (n : ℕ) → out-QPart f.part ≡ o → not_case (λ g. IsFilter zero g) f.part o → and_case (λ g. IsFilter zero g) f.part o n
    by (QPart-F.Or fs) n e h = absurd h
    by (QPart-F.And fs) n e h = absurd h
    by (QPart-F.Func fn) n e h = h
not_and (suc depth) f h = by (out-QPart f.part) f.nots refl h
  where
    by : (o : Layer) (n : ℕ) → out-QPart f.part ≡ o → not_case (λ g. IsFilter (suc depth) g) f.part o → and_case (λ g. IsFilter (suc depth) g) f.part o n
    by (QPart-F.Or fs) n e h = h
    by (QPart-F.And fs) zero e h =
        let g : AreParts (λ f. IsNot (λ g. IsFilter depth g) f) fs = subst (λ (o : Layer). or_case (λ g. IsFilter depth g) f.part o zero) e h in
        record { two = g.two; each = nots_up (λ g. IsFilter depth g) (λ g. IsFilter (suc depth) g) (deeper depth) fs g.each }
    by (QPart-F.And fs) (suc n) e h = h
    by (QPart-F.Func fn) n e h = h

-- one that stands where an and may stand bare, stands where an or may
pub and_or : (depth : ℕ) (f : QFilter) → IsAnd (λ g. IsFilter depth g) f → IsOr (λ g. IsFilter depth g) f
unfolding IsFilter
and_or zero f h = by (out-QPart f.part) f.nots h
  where
    by : (o : Layer) (n : ℕ) → and_case (λ g. IsFilter zero g) f.part o n → or_case (λ g. IsFilter zero g) f.part o n
    by (QPart-F.Or fs) n h = absurd h
    by (QPart-F.And fs) n h = h
    by (QPart-F.Func fn) n h = h
and_or (suc depth) f h = by (out-QPart f.part) f.nots refl h
  where
    by : (o : Layer) (n : ℕ) → out-QPart f.part ≡ o → and_case (λ g. IsFilter (suc depth) g) f.part o n → or_case (λ g. IsFilter (suc depth) g) f.part o n
    by (QPart-F.Or fs) zero e h =
        let g : AreParts (λ f. IsAnd (λ g. IsFilter depth g) f) fs = subst (λ (o : Layer). or_case (λ g. IsFilter depth g) f.part o zero) e h in
        record { two = g.two; each = ands_up (λ g. IsFilter depth g) (λ g. IsFilter (suc depth) g) (deeper depth) fs g.each }
    by (QPart-F.Or fs) (suc n) e h = h
    by (QPart-F.And fs) n e h = h
    by (QPart-F.Func fn) n e h = h
