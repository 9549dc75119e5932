-- The operations from one ascending list to another, from the front.
use Rattle.std.proofs.Common.{◌≡◌, ℕ, zero, suc, ◌+◌, ◌-◌, ◌<◌, ◌≤◌, cond, not, List, [], ◌∷◌, ◌++◌, length, get_or, take, drop, fold, map, refl, subst, sym, ◌∙◌, arith, append_assoc, inl, inr}
use Rattle.std.specs.Prelude.{◌||◌}
use mathlib.Core.Logic.{◌⊎◌}
use Rattle.std.specs.List.{AllByRecursion}
use Rattle.std.proofs.lemmas.List.{append-nil, take_all, drop_all, length-drop}
use Rattle.std.proofs.Math.Seq.{drop-cons}
use Rattle.std.specs.declared.cmp.Ordering.TheVariants.{Less, Equal, Greater}
use Rattle.std.specs.Ordering.{is_eq}
use Rattle.dg_values.specs.Ascending.{Ascends, has, placed, with_one}
use Rattle.dg_values.specs.Order.{posting_cmp}
use Rattle.dg_values.specs.declared.value.Posting.{Posting}
use Rattle.dg_values.proofs.OrderLaws.{posting_order}
use Rattle.dg_sets.proofs.Sets.{is_itself, back, forth, not_above, all_with, all_passed}
use Rattle.dg_delta.specs.declared.op.Op.{Op}
use Rattle.dg_delta.specs.declared.op.Op.TheVariants.{Set, Del}
use Rattle.dg_delta.specs.Ops.{posting_of, op_cmp, missing, changes_between}

-- the posting is below each of these
abbrev pub IsBelow : Posting → List Posting → Type 0
IsBelow o os = AllByRecursion (λ p. posting_cmp o p ≡ Less) os

pub below_all : (o p : Posting) (ps : List Posting) → posting_cmp o p ≡ Less → IsBelow p ps → IsBelow o (p ∷ ps)
below_all o p ps e a = (e, all_with (λ w. posting_cmp p w ≡ Less) (λ w. posting_cmp o w ≡ Less) ps (λ w l. posting_order.trans o p w e l) a)

-- ---- what a list lacks

-- nothing of those above
lacks_more : (o : Posting) (have want : List Posting) → IsBelow o want → missing (o ∷ have) want ≡ missing have want
lacks_more o have [] b = refl
lacks_more o have (w ∷ want) b =
    (λ i. cond (not (is_eq (b.0 i) || has posting_cmp have w)) (w ∷ missing (o ∷ have) want) (missing (o ∷ have) want))
    ∙ (λ i. cond (not (has posting_cmp have w)) (w ∷ lacks_more o have want b.1 i) (lacks_more o have want b.1 i))

lacks_first : (o : Posting) (have want : List Posting) → IsBelow o have → missing have (o ∷ want) ≡ o ∷ missing have want
lacks_first o have want b = λ i. cond (not (not_above posting_cmp posting_order o have b i)) (o ∷ missing have want) (missing have want)

has_first : (o : Posting) (have want : List Posting) → IsBelow o want → missing (o ∷ have) (o ∷ want) ≡ missing have want
has_first o have want b =
    (λ i. cond (not (is_itself posting_cmp posting_order o i || has posting_cmp have o)) (o ∷ missing (o ∷ have) want) (missing (o ∷ have) want)) ∙ lacks_more o have want b

none_lack : (want : List Posting) → missing [] want ≡ want
none_lack [] = refl
none_lack (w ∷ want) = λ i. w ∷ none_lack want i

-- ---- operations in order

put_behind : (op : Op) (base ops : List Op) → AllByRecursion (λ o. op_cmp op o ≡ Less) ops → fold (with_one op_cmp) (op ∷ base) ops ≡ op ∷ fold (with_one op_cmp) base ops
put_behind op base [] b = refl
put_behind op base (o ∷ ops) b =
    (λ i. fold (with_one op_cmp) (placed (back posting_cmp posting_order (posting_of op) (posting_of o) b.0 i) o op base (with_one op_cmp base o)) ops) ∙ put_behind op (with_one op_cmp base o) ops b.1

put_first : (op : Op) (base : List Op) → AllByRecursion (λ o. op_cmp op o ≡ Less) base → with_one op_cmp base op ≡ op ∷ base
put_first op [] b = refl
put_first op (o ∷ base) b = λ i. placed (b.0 i) op o base (with_one op_cmp base op)

below_dels : (op : Op) (os : List Posting) → IsBelow (posting_of op) os → AllByRecursion (λ o. op_cmp op o ≡ Less) (map Del os)
below_dels op [] b = tt
below_dels op (o ∷ os) b = (b.0, below_dels op os b.1)

below_sets : (op : Op) (os : List Posting) → IsBelow (posting_of op) os → AllByRecursion (λ o. op_cmp op o ≡ Less) (map Set os)
below_sets op [] b = tt
below_sets op (o ∷ os) b = (b.0, below_sets op os b.1)

below_missing : (o : Posting) (have want : List Posting) → IsBelow o want → IsBelow o (missing have want)
below_missing o have want b = all_passed (λ p. posting_cmp o p ≡ Less) (λ p. not (has posting_cmp have p)) want b

-- ---- from the front

-- a posting that only the old list has, and that is below all others
pub lost_first : (o : Posting) (old new : List Posting) → IsBelow o old → IsBelow o new → changes_between (o ∷ old) new ≡ Del o ∷ changes_between old new
lost_first o old new a b =
    (λ i. fold (with_one op_cmp) (map Del (lacks_first o new old b i)) (map Set (lacks_more o old new b i)))
    ∙ put_behind (Del o) (map Del (missing new old)) (map Set (missing old new)) (below_sets (Del o) (missing old new) (below_missing o old new b))

pub gained_first : (o : Posting) (old new : List Posting) → IsBelow o old → IsBelow o new → changes_between old (o ∷ new) ≡ Set o ∷ changes_between old new
gained_first o old new a b =
    (λ i. fold (with_one op_cmp) (map Del (lacks_more o new old a i)) (map Set (lacks_first o old new a i)))
    ∙ ((λ i. fold (with_one op_cmp) (put_first (Set o) (map Del (missing new old)) (below_dels (Set o) (missing new old) (below_missing o new old a)) i) (map Set (missing old new)))
    ∙ put_behind (Set o) (map Del (missing new old)) (map Set (missing old new)) (below_sets (Set o) (missing old new) (below_missing o old new b)))

pub kept_first : (o : Posting) (old new : List Posting) → IsBelow o old → IsBelow o new → changes_between (o ∷ old) (o ∷ new) ≡ changes_between old new
kept_first o old new a b = λ i. fold (with_one op_cmp) (map Del (has_first o new old a i)) (map Set (has_first o old new b i))

pub all_gained : (new : List Posting) → Ascends posting_cmp new → changes_between [] new ≡ map Set new
all_gained [] a = refl
all_gained (o ∷ new) a = gained_first o [] new tt a.0 ∙ λ i. Set o ∷ all_gained new a.1 i

pub all_lost : (old : List Posting) → Ascends posting_cmp old → changes_between old [] ≡ map Del old
all_lost [] a = refl
all_lost (o ∷ old) a = lost_first o old [] a.0 tt ∙ λ i. Del o ∷ all_lost old a.1 i

-- ---- one step of the pass

-- what is left of two lists that ascend, with the operations found so far
pub record IsPassing (old new : List Posting) (found : List Op) (lost gained : ℕ) : Type 0 where
  pub lost_within : lost ≤ length old
  pub gained_within : gained ≤ length new
  pub whole : changes_between old new ≡ found ++ changes_between (drop lost old) (drop gained new)

ascends_from : (k : ℕ) (os : List Posting) → Ascends posting_cmp os → Ascends posting_cmp (drop k os)
ascends_from zero os a = a
ascends_from (suc k) [] a = tt
ascends_from (suc k) (o ∷ os) a = ascends_from k os a.1

-- what comes at a place
split_at : (os : List Posting) (k : ℕ) (o : Posting) → k < length os → get_or os k o ≡ o → drop k os ≡ o ∷ drop (k + 1) os
split_at os k o lt is =
    let next : suc k ≡ k + 1 = omega arith in
    drop-cons os k o lt ∙ λ i. is i ∷ drop (next i) os

below_rest : (os : List Posting) (k : ℕ) (o : Posting) → k < length os → get_or os k o ≡ o → Ascends posting_cmp os → IsBelow o (drop (k + 1) os)
below_rest os k o lt is a = (subst (Ascends posting_cmp) (split_at os k o lt is) (ascends_from k os a)).0

joined : (found rest : List Op) (op : Op) → found ++ op ∷ rest ≡ (found ++ op ∷ []) ++ rest
joined found rest op = sym (append_assoc found (op ∷ []) rest)

pub passing_lost : (old new : List Posting) (found more : List Op) (lost gained : ℕ) (o n : Posting) → Ascends posting_cmp old → Ascends posting_cmp new → lost < length old → gained < length new → get_or old lost o ≡ o → get_or new gained n ≡ n → posting_cmp o n ≡ Less → more ≡ found ++ Del o ∷ [] → IsPassing old new found lost gained → IsPassing old new more (lost + 1) gained
passing_lost old new found more lost gained o n a b lt mt is js e m t =
    let rest : drop gained new ≡ n ∷ drop (gained + 1) new = split_at new gained n mt js in
    let low : IsBelow o (drop gained new) = subst (IsBelow o) (sym rest) (below_all o n (drop (gained + 1) new) e (below_rest new gained n mt js b)) in
    record {
      lost_within = omega (arith, lt);
      gained_within = t.gained_within;
      whole =
          t.whole
          ∙ ((λ i. found ++ changes_between (split_at old lost o lt is i) (drop gained new))
          ∙ ((λ i. found ++ lost_first o (drop (lost + 1) old) (drop gained new) (below_rest old lost o lt is a) low i)
          ∙ (joined found (changes_between (drop (lost + 1) old) (drop gained new)) (Del o)
          ∙ λ i. sym m i ++ changes_between (drop (lost + 1) old) (drop gained new))));
    }

pub passing_gained : (old new : List Posting) (found more : List Op) (lost gained : ℕ) (o n : Posting) → Ascends posting_cmp old → Ascends posting_cmp new → lost < length old → gained < length new → get_or old lost o ≡ o → get_or new gained n ≡ n → posting_cmp o n ≡ Greater → more ≡ found ++ Set n ∷ [] → IsPassing old new found lost gained → IsPassing old new more lost (gained + 1)
passing_gained old new found more lost gained o n a b lt mt is js e m t =
    let rest : drop lost old ≡ o ∷ drop (lost + 1) old = split_at old lost o lt is in
    let low : IsBelow n (drop lost old) = subst (IsBelow n) (sym rest) (below_all n o (drop (lost + 1) old) (forth posting_cmp posting_order o n e) (below_rest old lost o lt is a)) in
    record {
      lost_within = t.lost_within;
      gained_within = omega (arith, mt);
      whole =
          t.whole
          ∙ ((λ i. found ++ changes_between (drop lost old) (split_at new gained n mt js i))
          ∙ ((λ i. found ++ gained_first n (drop lost old) (drop (gained + 1) new) low (below_rest new gained n mt js b) i)
          ∙ (joined found (changes_between (drop lost old) (drop (gained + 1) new)) (Set n)
          ∙ λ i. sym m i ++ changes_between (drop lost old) (drop (gained + 1) new))));
    }

pub passing_kept : (old new : List Posting) (found : List Op) (lost gained : ℕ) (o n : Posting) → Ascends posting_cmp old → Ascends posting_cmp new → lost < length old → gained < length new → get_or old lost o ≡ o → get_or new gained n ≡ n → posting_cmp o n ≡ Equal → IsPassing old new found lost gained → IsPassing old new found (lost + 1) (gained + 1)
passing_kept old new found lost gained o n a b lt mt is js e t =
    let same : n ≡ o = sym (posting_order.same o n e) in
    let low : IsBelow o (drop (gained + 1) new) = subst (λ (p : Posting). IsBelow p (drop (gained + 1) new)) same (below_rest new gained n mt js b) in
    record {
      lost_within = omega (arith, lt);
      gained_within = omega (arith, mt);
      whole =
          t.whole
          ∙ ((λ i. found ++ changes_between (split_at old lost o lt is i) ((split_at new gained n mt js ∙ λ j. same j ∷ drop (gained + 1) new) i))
          ∙ λ i. found ++ kept_first o (drop (lost + 1) old) (drop (gained + 1) new) (below_rest old lost o lt is a) low i);
    }

-- a slice from a place on
slice_from : (os : List Posting) (k : ℕ) → take (length os - k) (drop k os) ≡ drop k os
slice_from os k = take_all (length os - k) (drop k os) (let n = length-drop k os in omega arith)

pub passing_ends : (old new : List Posting) (found : List Op) (lost gained : ℕ) → Ascends posting_cmp old → Ascends posting_cmp new → (length old ≤ lost) ⊎ (length new ≤ gained) → IsPassing old new found lost gained → changes_between old new ≡ (found ++ map Del (take (length old - lost) (drop lost old))) ++ map Set (take (length new - gained) (drop gained new))
passing_ends old new found lost gained a b left t = ends left ∙ λ i. (found ++ map Del (sym (slice_from old lost) i)) ++ map Set (sym (slice_from new gained) i)
  where
    ends : (length old ≤ lost) ⊎ (length new ≤ gained) → changes_between old new ≡ (found ++ map Del (drop lost old)) ++ map Set (drop gained new)
    ends (inl le) =
        let none : drop lost old ≡ [] = drop_all lost old le in
        t.whole ∙ ((λ i. found ++ changes_between (none i) (drop gained new)) ∙ ((λ i. found ++ all_gained (drop gained new) (ascends_from gained new b) i) ∙ ((λ i. sym (append-nil found) i ++ map Set (drop gained new)) ∙ λ i. (found ++ map Del (sym none i)) ++ map Set (drop gained new))))
    ends (inr le) =
        let none : drop gained new ≡ [] = drop_all gained new le in
        t.whole ∙ ((λ i. found ++ changes_between (drop lost old) (none i)) ∙ ((λ i. found ++ all_lost (drop lost old) (ascends_from lost old a) i) ∙ (sym (append-nil (found ++ map Del (drop lost old))) ∙ λ i. (found ++ map Del (drop lost old)) ++ map Set (sym none i))))
