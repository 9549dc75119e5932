-- Conditions as words, and which conditions are read with brackets at most so deep.
use Rattle.std.proofs.Common.{◌≡◌, ℕ, zero, suc, List, [], ◌∷◌, ◌++◌, map, flat_map, ap, refl, sym, ◌∙◌, subst}
use Rattle.std.specs.Prelude.{ℤ, codes}
use Rattle.std.specs.List.{AllByRecursion}
use Rattle.dg_parse.specs.declared.upsert.UCond.{UCond}
use Rattle.dg_parse.specs.declared.query.CmpOp.{CmpOp}
use Rattle.dg_parse.specs.declared.upsert.UPart.{UPart}
use Rattle.dg_parse.specs.declared.upsert.UPart.TheVariants as parts
use Rattle.dg_parse.specs.declared.upsert.UPart.TheOpen.{UPart-F}
use Rattle.dg_parse.specs.declared.upsert.UPart.TheViews.{out-UPart, roll-UPart, roll-out-UPart}
use Rattle.dg_parse.specs.declared.upsert.UPart.TheFolds.{fold-UPart, fold_out-UPart, fold_out-UCond}
use Rattle.dg_parse.specs.Conditions.{plainly}
use Rattle.dg_print.specs.Printed.{Shown, shown_alone, shown_or, shown_and, nots, between_words}
use Rattle.dg_print.specs.PrintedUpsert.{shown, shown_part, shown_cond, len_words}
use Rattle.dg_text.specs.Spelling.{name_word}
use Rattle.dg_text.specs.Written.{Word, IsWord}
use Rattle.dg_print.proofs.NamesAgain.{IsNumber}

-- ---- the words by the part

-- a part with so many "not" before it, as words
abbrev pub shown_of : UPart → ℕ → Shown
shown_of = fold-UPart (ℕ → Shown) Shown shown_part shown_cond

pub shown_is : (f : UCond) → shown f ≡ shown_of f.part f.nots
shown_is f = fold_out-UCond (ℕ → Shown) Shown shown_part shown_cond f

-- one layer of a part
abbrev pub Layer : Type 0
Layer = UPart-F UPart UCond

words_map : (w : Word) (words_of : Shown → List Word) (fs : List UCond) → flat_map (λ y. w ∷ words_of y) (map shown fs) ≡ flat_map (λ y. w ∷ words_of (shown y)) fs
words_map w words_of [] = refl
words_map w words_of (f ∷ fs) = ap (λ l. (w ∷ words_of (shown f)) ++ l) (words_map w words_of fs)

between_map : (w : Word) (words_of : Shown → List Word) (fs : List UCond) → between_words w words_of (map shown fs) ≡ between_words w (λ f. words_of (shown f)) fs
between_map w words_of [] = refl
between_map w words_of (f ∷ fs) = ap (λ l. words_of (shown f) ++ l) (words_map w words_of fs)

-- the parts of an or, with their word
abbrev pub or_words : List UCond → List Word
or_words fs = between_words (name_word (codes "or")) (λ f. (shown f).as_and) fs

-- the parts of an and, with their word
abbrev pub and_words : List UCond → List Word
and_words fs = between_words (name_word (codes "and")) (λ f. (shown f).as_not) fs

pub shown_as_or : (p : UPart) (fs : List UCond) (n : ℕ) → out-UPart p ≡ UPart-F.Or fs → shown_of p n ≡ shown_or n (or_words fs)
shown_as_or p fs n e =
    ap (λ s. s n) (fold_out-UPart (ℕ → Shown) Shown shown_part shown_cond p)
    ∙ rw e (ap (shown_or n) (between_map (name_word (codes "or")) (λ f. f.as_and) fs))

pub shown_as_and : (p : UPart) (fs : List UCond) (n : ℕ) → out-UPart p ≡ UPart-F.And fs → shown_of p n ≡ shown_and n (and_words fs)
shown_as_and p fs n e =
    ap (λ s. s n) (fold_out-UPart (ℕ → Shown) Shown shown_part shown_cond p)
    ∙ rw e (ap (shown_and n) (between_map (name_word (codes "and")) (λ f. f.as_not) fs))

pub shown_as_len : (p : UPart) (op : CmpOp) (x : List ℕ) (m : ℤ) (n : ℕ) → out-UPart p ≡ UPart-F.Len op x m → shown_of p n ≡ shown_alone (nots n ++ len_words op x m)
shown_as_len p op x m n e =
    ap (λ s. s n) (fold_out-UPart (ℕ → Shown) Shown shown_part shown_cond p)
    ∙ rw e refl

-- a part is its layer
pub part_or : (p : UPart) (fs : List UCond) → out-UPart p ≡ UPart-F.Or fs → p ≡ parts.Or fs
part_or p fs e = sym (roll-out-UPart p) ∙ ap roll-UPart e ∙ parts.rolls-Or fs

pub part_and : (p : UPart) (fs : List UCond) → out-UPart p ≡ UPart-F.And fs → p ≡ parts.And fs
part_and p fs e = sym (roll-out-UPart p) ∙ ap roll-UPart e ∙ parts.rolls-And fs

pub part_len : (p : UPart) (op : CmpOp) (x : List ℕ) (m : ℤ) → out-UPart p ≡ UPart-F.Len op x m → p ≡ parts.Len op x m
part_len p op x m e = sym (roll-out-UPart p) ∙ ap roll-UPart e ∙ parts.rolls-Len op x m

-- ---- which conditions are read

-- a comparison can be written
pub record IsLen (x : List ℕ) (m : ℤ) : Type 0 where
  pub word : IsWord (name_word x)
  pub number : IsNumber m

-- two or more
pub record AreTwo {X : Type 0} (xs : List X) : Type 0 where
  pub first : X
  pub second : X
  pub more : List X
  pub is : xs ≡ first ∷ second ∷ more

-- a part that stands behind "not" or alone, by what stands in brackets
abbrev pub not_case : (UCond → Type 0) → UPart → Layer → Type 0
not_case inner p (UPart-F.Or fs) = inner (plainly p)
not_case inner p (UPart-F.And fs) = inner (plainly p)
not_case inner p (UPart-F.Len op x m) = IsLen x m

-- a condition where neither or nor and may stand bare
abbrev pub IsNot : (UCond → Type 0) → UCond → Type 0
IsNot inner f = not_case inner f.part (out-UPart f.part)

-- each of them, and two or more
pub record AreParts (P : UCond → Type 0) (fs : List UCond) : Type 0 where
  pub two : AreTwo fs
  pub each : AllByRecursion P fs

-- a part where an and may stand bare
abbrev pub and_case : (UCond → Type 0) → UPart → Layer → ℕ → Type 0
and_case inner p (UPart-F.Or fs) n = not_case inner p (UPart-F.Or fs)
and_case inner p (UPart-F.And fs) zero = AreParts (λ f. IsNot inner f) fs
and_case inner p (UPart-F.And fs) (suc n) = not_case inner p (UPart-F.And fs)
and_case inner p (UPart-F.Len op x m) n = not_case inner p (UPart-F.Len op x m)

-- a condition where an and may stand bare
abbrev pub IsAnd : (UCond → Type 0) → UCond → Type 0
IsAnd inner f = and_case inner f.part (out-UPart f.part) f.nots

-- a part where an or may stand bare
abbrev pub or_case : (UCond → Type 0) → UPart → Layer → ℕ → Type 0
or_case inner p (UPart-F.Or fs) zero = AreParts (λ f. IsAnd inner f) fs
or_case inner p (UPart-F.Or fs) (suc n) = not_case inner p (UPart-F.Or fs)
or_case inner p (UPart-F.And fs) n = and_case inner p (UPart-F.And fs) n
or_case inner p (UPart-F.Len op x m) n = not_case inner p (UPart-F.Len op x m)

-- a condition where an or may stand bare
abbrev pub IsOr : (UCond → Type 0) → UCond → Type 0
IsOr inner f = or_case inner f.part (out-UPart f.part) f.nots

-- a condition that is read with brackets at most so deep
unfoldable pub IsCond : ℕ → UCond → Type 0
IsCond zero f = ⊥
IsCond (suc depth) f = IsOr (λ g. IsCond depth g) f

-- ---- what is read is read deeper too

module _ (inner more : UCond → Type 0) (up : (f : UCond) → inner f → more f) where
  not_up : (p : UPart) (o : Layer) → not_case inner p o → not_case more p o
  not_up p (UPart-F.Or fs) h = up (plainly p) h
  not_up p (UPart-F.And fs) h = up (plainly p) h
  not_up p (UPart-F.Len op x m) h = h

  nots_up : (fs : List UCond) → AllByRecursion (λ f. IsNot inner f) fs → AllByRecursion (λ f. IsNot more f) fs
  nots_up [] h = tt
  nots_up (f ∷ fs) h = (not_up f.part (out-UPart f.part) h.0, nots_up fs h.1)

  and_up : (p : UPart) (o : Layer) (n : ℕ) → and_case inner p o n → and_case more p o n
  and_up p (UPart-F.Or fs) n h = not_up p (UPart-F.Or fs) h
  and_up p (UPart-F.And fs) zero h = record { two = h.two; each = nots_up fs h.each }
  and_up p (UPart-F.And fs) (suc n) h = not_up p (UPart-F.And fs) h
  and_up p (UPart-F.Len op x m) n h = h

  ands_up : (fs : List UCond) → AllByRecursion (λ f. IsAnd inner f) fs → AllByRecursion (λ f. IsAnd more f) fs
  ands_up [] h = tt
  ands_up (f ∷ fs) h = (and_up f.part (out-UPart f.part) f.nots h.0, ands_up fs h.1)

  or_up : (p : UPart) (o : Layer) (n : ℕ) → or_case inner p o n → or_case more p o n
  or_up p (UPart-F.Or fs) zero h = record { two = h.two; each = ands_up fs h.each }
  or_up p (UPart-F.Or fs) (suc n) h = not_up p (UPart-F.Or fs) h
  or_up p (UPart-F.And fs) n h = and_up p (UPart-F.And fs) n h
  or_up p (UPart-F.Len op x m) n h = h

deeper : (depth : ℕ) (f : UCond) → IsCond depth f → IsCond (suc depth) f
unfolding IsCond
deeper zero f h = absurd h
deeper (suc depth) f h = or_up (λ g. IsCond depth g) (λ g. IsCond (suc depth) g) (deeper depth) f.part (out-UPart f.part) f.nots h

-- one in brackets stands where neither may stand bare
pub in_brackets : (depth : ℕ) (f : UCond) → IsCond depth f → IsNot (λ g. IsCond depth g) f
unfolding IsCond
in_brackets zero f h = absurd h
in_brackets (suc depth) f h = by (out-UPart f.part) f.nots refl h
  where
    by : (o : Layer) (n : ℕ) → out-UPart f.part ≡ o → or_case (λ g. IsCond depth g) f.part o n → not_case (λ g. IsCond (suc depth) g) f.part o
    by (UPart-F.Or fs) zero e h = subst (λ (o : Layer). or_case (λ g. IsCond depth g) f.part o zero) (sym e) h
    by (UPart-F.Or fs) (suc n) e h = deeper depth (plainly f.part) h
    by (UPart-F.And fs) zero e h = subst (λ (o : Layer). or_case (λ g. IsCond depth g) f.part o zero) (sym e) h
    by (UPart-F.And fs) (suc n) e h = deeper depth (plainly f.part) h
    by (UPart-F.Len op x m) n e h = h

-- one that stands where neither may stand bare, stands where an and may
pub not_and : (depth : ℕ) (f : UCond) → IsNot (λ g. IsCond depth g) f → IsAnd (λ g. IsCond depth g) f
unfolding IsCond
not_and zero f h = by (out-UPart f.part) f.nots refl h
  where
    by : (o : Layer) (n : ℕ) → out-UPart f.part ≡ o → not_case (λ g. IsCond zero g) f.part o → and_case (λ g. IsCond zero g) f.part o n
    by (UPart-F.Or fs) n e h = absurd h
    by (UPart-F.And fs) n e h = absurd h
    by (UPart-F.Len op x m) n e h = h
not_and (suc depth) f h = by (out-UPart f.part) f.nots refl h
  where
    by : (o : Layer) (n : ℕ) → out-UPart f.part ≡ o → not_case (λ g. IsCond (suc depth) g) f.part o → and_case (λ g. IsCond (suc depth) g) f.part o n
    by (UPart-F.Or fs) n e h = h
    by (UPart-F.And fs) zero e h =
        let g : AreParts (λ f. IsNot (λ g. IsCond depth g) f) fs = subst (λ (o : Layer). or_case (λ g. IsCond depth g) f.part o zero) e h in
        record { two = g.two; each = nots_up (λ g. IsCond depth g) (λ g. IsCond (suc depth) g) (deeper depth) fs g.each }
    by (UPart-F.And fs) (suc n) e h = h
    by (UPart-F.Len op x m) n e h = h

-- one that stands where an and may stand bare, stands where an or may
pub and_or : (depth : ℕ) (f : UCond) → IsAnd (λ g. IsCond depth g) f → IsOr (λ g. IsCond depth g) f
unfolding IsCond
and_or zero f h = by (out-UPart f.part) f.nots h
  where
    by : (o : Layer) (n : ℕ) → and_case (λ g. IsCond zero g) f.part o n → or_case (λ g. IsCond zero g) f.part o n
    by (UPart-F.Or fs) n h = absurd h
    by (UPart-F.And fs) n h = h
    by (UPart-F.Len op x m) n h = h
and_or (suc depth) f h = by (out-UPart f.part) f.nots refl h
  where
    by : (o : Layer) (n : ℕ) → out-UPart f.part ≡ o → and_case (λ g. IsCond (suc depth) g) f.part o n → or_case (λ g. IsCond (suc depth) g) f.part o n
    by (UPart-F.Or fs) zero e h =
        let g : AreParts (λ f. IsAnd (λ g. IsCond depth g) f) fs = subst (λ (o : Layer). or_case (λ g. IsCond depth g) f.part o zero) e h in
        record { two = g.two; each = ands_up (λ g. IsCond depth g) (λ g. IsCond (suc depth) g) (deeper depth) fs g.each }
    by (UPart-F.Or fs) (suc n) e h = h
    by (UPart-F.And fs) n e h = h
    by (UPart-F.Len op x m) n e h = h
