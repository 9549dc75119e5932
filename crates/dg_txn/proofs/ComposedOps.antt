-- Two runs of operations as one: from the front, in one pass over both, and that it leads where both lead.
use Rattle.std.proofs.Common.{◌≡◌, ℕ, ◌+◌, ◌<◌, ◌≤◌, Bool, true, false, cond, not, List, [], ◌∷◌, ◌++◌, length, get_or, drop, fold, map, refl, ap, subst, sym, ◌∙◌, arith, append_assoc, inl, inr}
use Rattle.std.specs.Prelude.{◌&&◌, ◌||◌}
use mathlib.Core.Logic.{◌⊎◌}
use Rattle.std.specs.List.{AllByRecursion}
use Rattle.std.proofs.lemmas.List.{append-nil, drop_all}
use Rattle.std.specs.declared.cmp.Ordering.{Ordering}
use Rattle.std.specs.declared.cmp.Ordering.TheVariants.{Less, Equal, Greater}
use Rattle.std.specs.Ordering.{is_eq, ordering_reverse}
use Rattle.dg_values.specs.Ascending.{Ascends, has, placed, with_one}
use Rattle.dg_values.specs.Order.{posting_cmp}
use Rattle.dg_values.specs.declared.value.Posting.{Posting}
use Rattle.dg_values.proofs.OrderLaws.{posting_order}
use Rattle.dg_sets.proofs.Sets.{from_each, one_list, all_with, all_passed}
use Rattle.dg_sets.proofs.Merges.{left_from, ascends_left, turned, turned_back, above_both, ascends_put}
use Rattle.dg_delta.specs.declared.op.Op.{Op}
use Rattle.dg_delta.specs.declared.op.Op.TheVariants.{Set, Del}
use Rattle.dg_delta.specs.Ops.{posting_of, op_cmp, missing, changes_between}
use Rattle.dg_delta.specs.Effects.{is_set}
use Rattle.dg_delta.proofs.OpLaws.{op_total}
use Rattle.dg_edges.proofs.OpLaws.{postings_between, between_ascends, between_has}
use Rattle.dg_txn.specs.Gains.{apart_from, composed}

-- the operation is below each of these
abbrev pub IsBelow : Op → List Op → Type 0
IsBelow op ops = AllByRecursion (λ o. op_cmp op o ≡ Less) ops

below_all : (op o : Op) (ops : List Op) → op_cmp op o ≡ Less → IsBelow o ops → IsBelow op (o ∷ ops)
below_all op o ops e a = (e, above_both op_cmp op_total op o ops e a)

-- ---- what is apart from others

below_apart : (op : Op) (others ops : List Op) → IsBelow op ops → IsBelow op (apart_from others ops)
below_apart op others ops b = all_passed (λ o. op_cmp op o ≡ Less) (λ o. not (has op_cmp others o)) ops b

-- one more below them changes nothing
apart_more : (op : Op) (others ops : List Op) → IsBelow op ops → apart_from (op ∷ others) ops ≡ apart_from others ops
apart_more op others [] b = refl
apart_more op others (o ∷ ops) b =
    (λ i. cond (not (is_eq (b.0 i) || has op_cmp others o)) (o ∷ apart_from (op ∷ others) ops) (apart_from (op ∷ others) ops))
    ∙ (λ i. cond (not (has op_cmp others o)) (o ∷ apart_more op others ops b.1 i) (apart_more op others ops b.1 i))

none_on : (op : Op) (others : List Op) → IsBelow op others → has op_cmp others op ≡ false
none_on op [] b = refl
none_on op (o ∷ others) b = (λ i. is_eq (turned op_cmp op_total op o b.0 i) || has op_cmp others op) ∙ none_on op others b.1

apart_first : (op : Op) (others ops : List Op) → IsBelow op others → apart_from others (op ∷ ops) ≡ op ∷ apart_from others ops
apart_first op others ops b = λ i. cond (not (none_on op others b i)) (op ∷ apart_from others ops) (apart_from others ops)

apart_same : (op o : Op) (others ops : List Op) → op_cmp o op ≡ Equal → IsBelow o ops → apart_from (o ∷ others) (op ∷ ops) ≡ apart_from others ops
apart_same op o others ops e b =
    (λ i. cond (not (is_eq (e i) || has op_cmp others op)) (op ∷ apart_from (o ∷ others) ops) (apart_from (o ∷ others) ops)) ∙ apart_more o others ops b

-- ---- operations in order

put_behind : (op : Op) (base ops : List Op) → IsBelow op ops → fold (with_one op_cmp) (op ∷ base) ops ≡ op ∷ fold (with_one op_cmp) base ops
put_behind op base [] b = refl
put_behind op base (o ∷ ops) b =
    (λ i. fold (with_one op_cmp) (placed (turned op_cmp op_total op o b.0 i) o op base (with_one op_cmp base o)) ops) ∙ put_behind op (with_one op_cmp base o) ops b.1

put_first : (op : Op) (base : List Op) → IsBelow op base → with_one op_cmp base op ≡ op ∷ base
put_first op [] b = refl
put_first op (o ∷ base) b = λ i. placed (b.0 i) op o base (with_one op_cmp base op)

-- ---- from the front

own_first : (op : Op) (own step : List Op) → IsBelow op own → IsBelow op step → composed (op ∷ own) step ≡ op ∷ composed own step
own_first op own step a b =
    (λ i. fold (with_one op_cmp) (apart_first op step own b i) (apart_more op own step b i))
    ∙ put_behind op (apart_from step own) (apart_from own step) (below_apart op own step b)

step_first : (op : Op) (own step : List Op) → IsBelow op own → IsBelow op step → composed own (op ∷ step) ≡ op ∷ composed own step
step_first op own step a b =
    (λ i. fold (with_one op_cmp) (apart_more op step own a i) (apart_first op own step a i))
    ∙ ((λ i. fold (with_one op_cmp) (put_first op (apart_from step own) (below_apart op step own a) i) (apart_from own step))
    ∙ put_behind op (apart_from step own) (apart_from own step) (below_apart op own step b))

undone_first : (op o : Op) (own step : List Op) → op_cmp op o ≡ Equal → IsBelow op own → IsBelow o step → composed (op ∷ own) (o ∷ step) ≡ composed own step
undone_first op o own step e a b =
    λ i. fold (with_one op_cmp) (apart_same op o step own back below_own i) (apart_same o op own step e below_step i)
  where
    back : op_cmp o op ≡ Equal
    back = op_total.antisymm o op ∙ ap ordering_reverse e

    below_own : IsBelow o own
    below_own = all_with (λ w. op_cmp op w ≡ Less) (λ w. op_cmp o w ≡ Less) own (λ w l. op_total.congr o op w back ∙ l) a

    below_step : IsBelow op step
    below_step = all_with (λ w. op_cmp o w ≡ Less) (λ w. op_cmp op w ≡ Less) step (λ w l. op_total.congr op o w e ∙ l) b

all_own : (own : List Op) → Ascends op_cmp own → composed own [] ≡ own
all_own [] a = refl
all_own (op ∷ own) a = own_first op own [] a.0 tt ∙ λ i. op ∷ all_own own a.1 i

all_step : (step : List Op) → Ascends op_cmp step → composed [] step ≡ step
all_step [] a = refl
all_step (op ∷ step) a = step_first op [] step tt a.0 ∙ λ i. op ∷ all_step step a.1 i

-- ---- one step of the pass

-- what is left of two runs, with the operations that stay so far
pub record IsPassing (own step ops : List Op) (before after : ℕ) : Type 0 where
  pub before_within : before ≤ length own
  pub after_within : after ≤ length step
  pub whole : ops ++ composed (drop before own) (drop after step) ≡ composed own step

module _ (own step ops : List Op) (before after : ℕ) (one other : Op) (a : Ascends op_cmp own) (b : Ascends op_cmp step) (lt : before < length own) (mt : after < length step) (is : one ≡ get_or own before one) (js : other ≡ get_or step after other) (t : IsPassing own step ops before after) where
  own_left : drop before own ≡ one ∷ drop (before + 1) own
  own_left = left_from own before one lt is

  step_left : drop after step ≡ other ∷ drop (after + 1) step
  step_left = left_from step after other mt js

  own_below : IsBelow one (drop (before + 1) own)
  own_below = (subst (Ascends op_cmp) own_left (ascends_left op_cmp before own a)).0

  step_below : IsBelow other (drop (after + 1) step)
  step_below = (subst (Ascends op_cmp) step_left (ascends_left op_cmp after step b)).0

  pub passing_own : op_cmp one other ≡ Less → IsPassing own step (ops ++ one ∷ []) (before + 1) after
  passing_own e =
      let low : IsBelow one (drop after step) = subst (IsBelow one) (sym step_left) (below_all one other (drop (after + 1) step) e step_below) in
      record {
        before_within = omega (arith, lt);
        after_within = t.after_within;
        whole =
            append_assoc ops (one ∷ []) (composed (drop (before + 1) own) (drop after step))
            ∙ (ap (λ (l : List Op). ops ++ l) (sym (ap (λ (l : List Op). composed l (drop after step)) own_left ∙ own_first one (drop (before + 1) own) (drop after step) own_below low))
            ∙ t.whole);
      }

  pub passing_step : op_cmp one other ≡ Greater → IsPassing own step (ops ++ other ∷ []) before (after + 1)
  passing_step e =
      let low : IsBelow other (drop before own) = subst (IsBelow other) (sym own_left) (below_all other one (drop (before + 1) own) (turned_back op_cmp op_total one other e) own_below) in
      record {
        before_within = t.before_within;
        after_within = omega (arith, mt);
        whole =
            append_assoc ops (other ∷ []) (composed (drop before own) (drop (after + 1) step))
            ∙ (ap (λ (l : List Op). ops ++ l) (sym (ap (composed (drop before own)) step_left ∙ step_first other (drop before own) (drop (after + 1) step) low step_below))
            ∙ t.whole);
      }

  pub passing_both : op_cmp one other ≡ Equal → IsPassing own step ops (before + 1) (after + 1)
  passing_both e =
      record {
        before_within = omega (arith, lt);
        after_within = omega (arith, mt);
        whole =
            ap (λ (l : List Op). ops ++ l) (sym ((λ i. composed (own_left i) (step_left i)) ∙ undone_first one other (drop (before + 1) own) (drop (after + 1) step) e own_below step_below))
            ∙ t.whole;
      }

-- where one of both is at its end, what is left of both follows
pub passing_ends : (own step ops : List Op) (before after : ℕ) → Ascends op_cmp own → Ascends op_cmp step → (length own ≤ before) ⊎ (length step ≤ after) → IsPassing own step ops before after → (ops ++ drop before own) ++ drop after step ≡ composed own step
passing_ends own step ops before after a b (inl le) t =
    let none : drop before own ≡ [] = drop_all before own le in
    (λ i. (ops ++ none i) ++ drop after step)
    ∙ (ap (λ (l : List Op). l ++ drop after step) (append-nil ops)
    ∙ (ap (λ (l : List Op). ops ++ l) (sym (ap (λ (l : List Op). composed l (drop after step)) none ∙ all_step (drop after step) (ascends_left op_cmp after step b)))
    ∙ t.whole))
passing_ends own step ops before after a b (inr le) t =
    let none : drop after step ≡ [] = drop_all after step le in
    (λ i. (ops ++ drop before own) ++ none i)
    ∙ (append-nil (ops ++ drop before own)
    ∙ (ap (λ (l : List Op). ops ++ l) (sym (ap (composed (drop before own)) none ∙ all_own (drop before own) (ascends_left op_cmp before own a)))
    ∙ t.whole))

-- ---- they ascend

apart_ascends : (others ops : List Op) → Ascends op_cmp ops → Ascends op_cmp (apart_from others ops)
apart_ascends others [] a = tt
apart_ascends others (op ∷ ops) a =
    elim (not (has op_cmp others op)) as (λ b. Ascends op_cmp (cond b (op ∷ apart_from others ops) (apart_from others ops))) [
      | true ↦ (below_apart op others ops a.0, apart_ascends others ops a.1)
      | false ↦ apart_ascends others ops a.1
    ]

more_ascends : (base ops : List Op) → Ascends op_cmp base → Ascends op_cmp (fold (with_one op_cmp) base ops)
more_ascends base [] a = a
more_ascends base (op ∷ ops) a = more_ascends (with_one op_cmp base op) ops (ascends_put op_cmp op_total op base a)

pub composed_ascends : (own step : List Op) → Ascends op_cmp own → Ascends op_cmp (composed own step)
composed_ascends own step a = more_ascends (apart_from step own) (apart_from own step) (apart_ascends step own a)

-- ---- their postings

postings_ascend : (ops : List Op) → Ascends op_cmp ops → Ascends posting_cmp (map posting_of ops)
postings_ascend [] a = tt
postings_ascend (op ∷ ops) a = (each_above ops a.0, postings_ascend ops a.1)
  where
    each_above : (os : List Op) → IsBelow op os → AllByRecursion (λ p. posting_cmp (posting_of op) p ≡ Less) (map posting_of os)
    each_above [] b = tt
    each_above (o ∷ os) b = (b.0, each_above os b.1)

has_on : (ops : List Op) (op : Op) → has op_cmp ops op ≡ has posting_cmp (map posting_of ops) (posting_of op)
has_on [] op = refl
has_on (o ∷ ops) op = ap (λ (b : Bool). is_eq (op_cmp o op) || b) (has_on ops op)

postings_apart : (others ops : List Op) → map posting_of (apart_from others ops) ≡ missing (map posting_of others) (map posting_of ops)
postings_apart others [] = refl
postings_apart others (op ∷ ops) = by (has op_cmp others op) (has posting_cmp (map posting_of others) (posting_of op)) (has_on others op) (postings_apart others ops)
  where
    by : (v w : Bool) → v ≡ w → map posting_of (apart_from others ops) ≡ missing (map posting_of others) (map posting_of ops) → map posting_of (cond (not v) (op ∷ apart_from others ops) (apart_from others ops)) ≡ cond (not w) (posting_of op ∷ missing (map posting_of others) (map posting_of ops)) (missing (map posting_of others) (map posting_of ops))
    by true true e rest = rest
    by false false e rest = ap (λ (ps : List Posting). posting_of op ∷ ps) rest
    by true false e rest = cc
    by false true e rest = cc

postings_with : (ops : List Op) (op : Op) → map posting_of (with_one op_cmp ops op) ≡ with_one posting_cmp (map posting_of ops) (posting_of op)
postings_with [] op = refl
postings_with (o ∷ ops) op = by (op_cmp op o) (postings_with ops op)
  where
    by : (v : Ordering) → map posting_of (with_one op_cmp ops op) ≡ with_one posting_cmp (map posting_of ops) (posting_of op) → map posting_of (placed v op o ops (with_one op_cmp ops op)) ≡ placed v (posting_of op) (posting_of o) (map posting_of ops) (with_one posting_cmp (map posting_of ops) (posting_of op))
    by Less e = refl
    by Equal e = refl
    by Greater e = ap (λ (ps : List Posting). posting_of o ∷ ps) e

postings_more : (base ops : List Op) → map posting_of (fold (with_one op_cmp) base ops) ≡ fold (with_one posting_cmp) (map posting_of base) (map posting_of ops)
postings_more base [] = refl
postings_more base (op ∷ ops) = postings_more (with_one op_cmp base op) ops ∙ ap (λ (ps : List Posting). fold (with_one posting_cmp) ps (map posting_of ops)) (postings_with base op)

-- they are the postings that one of both has alone
postings_composed : (own step : List Op) → map posting_of (composed own step) ≡ map posting_of (changes_between (map posting_of own) (map posting_of step))
postings_composed own step =
    postings_more (apart_from step own) (apart_from own step)
    ∙ ((λ i. fold (with_one posting_cmp) (postings_apart step own i) (postings_apart own step i))
    ∙ sym (postings_between (map posting_of own) (map posting_of step)))

-- ---- operations that make a list as another is

-- the operation leaves its posting as this list has it
abbrev Agrees : List Posting → Op → Type 0
Agrees new op = is_set op ≡ has posting_cmp new (posting_of op)

-- the operation that does
abbrev op_by : List Posting → Posting → Op
op_by new p = cond (has posting_cmp new p) (Set p) (Del p)

by_postings : (new : List Posting) (ops : List Op) → AllByRecursion (Agrees new) ops → ops ≡ map (op_by new) (map posting_of ops)
by_postings new [] a = refl
by_postings new (Set p ∷ ops) a = λ i. cond (a.0 i) (Set p) (Del p) ∷ by_postings new ops a.1 i
by_postings new (Del p ∷ ops) a = λ i. cond (a.0 i) (Set p) (Del p) ∷ by_postings new ops a.1 i

one_agrees : (new : List Posting) (ops : List Op) (op : Op) → Agrees new op → AllByRecursion (Agrees new) ops → AllByRecursion (Agrees new) (with_one op_cmp ops op)
one_agrees new [] op g a = (g, tt)
one_agrees new (o ∷ ops) op g a = by (op_cmp op o) (one_agrees new ops op g a.1)
  where
    by : (v : Ordering) → AllByRecursion (Agrees new) (with_one op_cmp ops op) → AllByRecursion (Agrees new) (placed v op o ops (with_one op_cmp ops op))
    by Less rest = (g, a)
    by Equal rest = a
    by Greater rest = (a.0, rest)

more_agree : (new : List Posting) (base ops : List Op) → AllByRecursion (Agrees new) base → AllByRecursion (Agrees new) ops → AllByRecursion (Agrees new) (fold (with_one op_cmp) base ops)
more_agree new base [] a b = a
more_agree new base (op ∷ ops) a b = more_agree new (with_one op_cmp base op) ops (one_agrees new base op b.0 a) b.1

between_agrees : (old new : List Posting) → AllByRecursion (Agrees new) (changes_between old new)
between_agrees old new =
    more_agree new (map Del (missing new old)) (map Set (missing old new)) (dels old) (sets (missing old new) (all_passed (λ p. true ≡ has posting_cmp new p) (λ p. not (has posting_cmp old p)) new (from_each posting_cmp posting_order (λ p. true ≡ has posting_cmp new p) new (λ p h. sym h))))
  where
    dels : (os : List Posting) → AllByRecursion (Agrees new) (map Del (missing new os))
    dels [] = tt
    dels (o ∷ os) = by (has posting_cmp new o) refl (dels os)
      where
        by : (v : Bool) → has posting_cmp new o ≡ v → AllByRecursion (Agrees new) (map Del (missing new os)) → AllByRecursion (Agrees new) (map Del (cond (not v) (o ∷ missing new os) (missing new os)))
        by true e rest = rest
        by false e rest = (sym e, rest)

    sets : (os : List Posting) → AllByRecursion (λ p. true ≡ has posting_cmp new p) os → AllByRecursion (Agrees new) (map Set os)
    sets [] a = tt
    sets (o ∷ os) a = (a.0, sets os a.1)

-- ---- they lead where both lead

module _ (s m a : List Posting) where
  -- what the step leaves is in both lists, or in none
  left_alone : (p : Posting) → has posting_cmp (map posting_of (changes_between m a)) p ≡ false → has posting_cmp m p ≡ has posting_cmp a p
  left_alone p e = by (has posting_cmp m p) (has posting_cmp a p) (sym (between_has m a p) ∙ e)
    where
      by : (x y : Bool) → ((not y && x) || (not x && y)) ≡ false → x ≡ y
      by true true f = refl
      by false false f = refl
      by true false f = cc
      by false true f = cc

  own_agree : (ops : List Op) → AllByRecursion (Agrees m) ops → AllByRecursion (Agrees a) (apart_from (changes_between m a) ops)
  own_agree [] g = tt
  own_agree (op ∷ ops) g = by (has op_cmp (changes_between m a) op) refl (own_agree ops g.1)
    where
      by : (v : Bool) → has op_cmp (changes_between m a) op ≡ v → AllByRecursion (Agrees a) (apart_from (changes_between m a) ops) → AllByRecursion (Agrees a) (cond (not v) (op ∷ apart_from (changes_between m a) ops) (apart_from (changes_between m a) ops))
      by true e rest = rest
      by false e rest = (g.0 ∙ left_alone (posting_of op) (sym (has_on (changes_between m a) op) ∙ e), rest)

  both_agree : AllByRecursion (Agrees a) (composed (changes_between s m) (changes_between m a))
  both_agree =
      more_agree a (apart_from (changes_between m a) (changes_between s m)) (apart_from (changes_between s m) (changes_between m a)) (own_agree (changes_between s m) (between_agrees s m))
      (all_passed (Agrees a) (λ op. not (has op_cmp (changes_between s m) op)) (changes_between m a) (between_agrees m a))

  both_has : (p : Posting) → has posting_cmp (map posting_of (composed (changes_between s m) (changes_between m a))) p ≡ has posting_cmp (map posting_of (changes_between s a)) p
  both_has p =
      ap (λ (ps : List Posting). has posting_cmp ps p) (postings_composed (changes_between s m) (changes_between m a))
      ∙ (between_has (map posting_of (changes_between s m)) (map posting_of (changes_between m a)) p
      ∙ ((λ i. (not (between_has m a p i) && between_has s m p i) || (not (between_has s m p i) && between_has m a p i))
      ∙ (by (has posting_cmp s p) (has posting_cmp m p) (has posting_cmp a p)
      ∙ sym (between_has s a p))))
    where
      by : (x y z : Bool) → ((not ((not z && y) || (not y && z)) && ((not y && x) || (not x && y))) || (not ((not y && x) || (not x && y)) && ((not z && y) || (not y && z)))) ≡ ((not z && x) || (not x && z))
      by true true true = refl
      by true true false = refl
      by true false true = refl
      by true false false = refl
      by false true true = refl
      by false true false = refl
      by false false true = refl
      by false false false = refl

  both_lead : Ascends posting_cmp s → composed (changes_between s m) (changes_between m a) ≡ changes_between s a
  both_lead b =
      let both = composed (changes_between s m) (changes_between m a) in
      let one : map posting_of both ≡ map posting_of (changes_between s a) = one_list posting_cmp posting_order (map posting_of both) (map posting_of (changes_between s a)) (postings_ascend both (composed_ascends (changes_between s m) (changes_between m a) (between_ascends s m b))) (postings_ascend (changes_between s a) (between_ascends s a b)) both_has in
      by_postings a both both_agree ∙ (ap (map (op_by a)) one ∙ sym (by_postings a (changes_between s a) (between_agrees s a)))

pub composed_leads : (s m a : List Posting) (own step : List Op) → Ascends posting_cmp s → own ≡ changes_between s m → step ≡ changes_between m a → composed own step ≡ changes_between s a
composed_leads s m a own step b o t = (λ i. composed (o i) (t i)) ∙ both_lead s m a b
