-- One step of a pass over operations and a list, both ascending, and of a pass over two runs of operations.
use Rattle.std.proofs.Common.{◌≡◌, ℕ, ◌+◌, ◌<◌, ◌≤◌, cond, List, [], ◌∷◌, ◌++◌, length, get_or, drop, map, refl, ap, subst, sym, ◌∙◌, append_assoc}
use Rattle.std.proofs.lemmas.List.{drop_all, append-nil, length-map, get_or-map, drop-map}
use Rattle.std.specs.Prelude.{not}
use Rattle.std.specs.List.{AllByRecursion}
use Rattle.std.specs.declared.cmp.Ordering.TheVariants.{Less, Equal, Greater}
use Rattle.std.specs.Ordering.{is_eq}
use Rattle.dg_values.specs.Order.{posting_cmp}
use Rattle.dg_values.specs.Ascending.{Ascends, placed, with_one, without_one}
use Rattle.dg_values.specs.declared.value.Posting.{Posting}
use Rattle.dg_values.proofs.OrderLaws.{posting_total, posting_order}
use Rattle.dg_sets.proofs.Sets.{not_above, all_with}
use Rattle.dg_sets.proofs.Places.{none_taken}
use Rattle.dg_sets.proofs.Merges.{left_from, ascends_left, turned, turned_back, above_both}
use Rattle.dg_delta.specs.declared.op.Op.{Op}
use Rattle.dg_delta.specs.declared.op.Op.TheVariants.{Set, Del}
use Rattle.dg_delta.specs.Ops.{posting_of, op_cmp, after_op, after_ops}
use Rattle.dg_delta.specs.Effects.{put_by, put_by_all}

-- ---- operations on a list

after_op_above : (op : Op) (x : Posting) (xs : List Posting) → posting_cmp x (posting_of op) ≡ Less → after_op (x ∷ xs) op ≡ x ∷ after_op xs op
after_op_above (Set p) x xs l = ap (λ v. placed v p x xs (with_one posting_cmp xs p)) (turned posting_cmp posting_total x p l)
after_op_above (Del p) x xs l = ap (λ v. cond (not (is_eq v)) (x ∷ without_one posting_cmp xs p) (without_one posting_cmp xs p)) l

-- what is below all operations stays in front
after_above : (ops : List Op) (x : Posting) (xs : List Posting) → AllByRecursion (λ op. posting_cmp x (posting_of op) ≡ Less) ops → after_ops (x ∷ xs) ops ≡ x ∷ after_ops xs ops
after_above [] x xs a = refl
after_above (op ∷ ops) x xs a = ap (λ l. after_ops l ops) (after_op_above op x xs a.0) ∙ after_above ops x (after_op xs op) a.1

-- below all of a list there is nothing to take out
none_out : (p x : Posting) (xs : List Posting) → Ascends posting_cmp (x ∷ xs) → posting_cmp p x ≡ Less → without_one posting_cmp (x ∷ xs) p ≡ x ∷ xs
none_out p x xs a l = none_taken posting_cmp posting_order p (x ∷ xs) (not_above posting_cmp posting_order p (x ∷ xs) (l, above_both posting_cmp posting_total p x xs l a.0))

pub after_less : (op : Op) (ops : List Op) (x : Posting) (xs : List Posting) → Ascends op_cmp (op ∷ ops) → Ascends posting_cmp (x ∷ xs) → posting_cmp (posting_of op) x ≡ Less → after_ops (x ∷ xs) (op ∷ ops) ≡ put_by op ++ after_ops (x ∷ xs) ops
after_less (Set p) ops x xs s a l = ap (λ v. after_ops (placed v p x xs (with_one posting_cmp xs p)) ops) l ∙ after_above ops p (x ∷ xs) s.0
after_less (Del p) ops x xs s a l = ap (λ ys. after_ops ys ops) (none_out p x xs a l)

pub after_equal : (op : Op) (ops : List Op) (x : Posting) (xs : List Posting) → Ascends op_cmp (op ∷ ops) → Ascends posting_cmp (x ∷ xs) → posting_cmp (posting_of op) x ≡ Equal → after_ops (x ∷ xs) (op ∷ ops) ≡ put_by op ++ after_ops xs ops
after_equal (Set p) ops x xs s a e =
    ap (λ v. after_ops (placed v p x xs (with_one posting_cmp xs p)) ops) e
    ∙ ap (λ y. after_ops (y ∷ xs) ops) (sym (posting_order.same p x e))
    ∙ after_above ops p xs s.0
after_equal (Del p) ops x xs s a e =
    let same : p ≡ x = posting_order.same p x e in
    let there = ap (λ v. cond (not (is_eq v)) (x ∷ without_one posting_cmp xs p) (without_one posting_cmp xs p)) (ap (λ y. posting_cmp x y) same ∙ posting_order.itself x) in
    let gone = ap (λ y. without_one posting_cmp xs y) same ∙ none_taken posting_cmp posting_order x xs (not_above posting_cmp posting_order x xs a.0) in
    ap (λ ys. after_ops ys ops) (there ∙ gone)

pub after_greater : (op : Op) (ops : List Op) (x : Posting) (xs : List Posting) → Ascends op_cmp (op ∷ ops) → posting_cmp (posting_of op) x ≡ Greater → after_ops (x ∷ xs) (op ∷ ops) ≡ x ∷ after_ops xs (op ∷ ops)
after_greater op ops x xs s g =
    let l : posting_cmp x (posting_of op) ≡ Less = turned_back posting_cmp posting_total (posting_of op) x g in
    after_above (op ∷ ops) x xs (l, all_with (λ other. op_cmp op other ≡ Less) (λ other. posting_cmp x (posting_of other) ≡ Less) ops (λ other m. posting_total.trans x (posting_of op) (posting_of other) l m) s.0)

-- on no list they only put in
pub after_none : (ops : List Op) → Ascends op_cmp ops → after_ops [] ops ≡ put_by_all ops
after_none [] s = refl
after_none (Set p ∷ ops) s = after_above ops p [] s.0 ∙ ap (λ ys. p ∷ ys) (after_none ops s.1)
after_none (Del p ∷ ops) s = after_none ops s.1

module _ (postings : List Posting) (ops : List Op) (a : Ascends posting_cmp postings) (s : Ascends op_cmp ops) (list all : List Posting) (i k : ℕ) (x : Posting) (op : Op) (hi : i < length postings) (hk : k < length ops) (ex : x ≡ get_or postings i x) (eo : op ≡ get_or ops k op) (so_far : list ++ after_ops (drop i postings) (drop k ops) ≡ all) where
  here : list ++ after_ops (x ∷ drop (i + 1) postings) (op ∷ drop (k + 1) ops) ≡ all
  here = (λ j. list ++ after_ops (sym (left_from postings i x hi ex) j) (sym (left_from ops k op hk eo) j)) ∙ so_far

  rest_ascends : Ascends posting_cmp (x ∷ drop (i + 1) postings)
  rest_ascends = subst (Ascends posting_cmp) (left_from postings i x hi ex) (ascends_left posting_cmp i postings a)

  ops_ascend : Ascends op_cmp (op ∷ drop (k + 1) ops)
  ops_ascend = subst (Ascends op_cmp) (left_from ops k op hk eo) (ascends_left op_cmp k ops s)

  pub pass_less : posting_cmp (posting_of op) x ≡ Less → (list ++ put_by op) ++ after_ops (drop i postings) (drop (k + 1) ops) ≡ all
  pass_less l =
      ap (λ ys. (list ++ put_by op) ++ after_ops ys (drop (k + 1) ops)) (left_from postings i x hi ex)
      ∙ append_assoc list (put_by op) (after_ops (x ∷ drop (i + 1) postings) (drop (k + 1) ops))
      ∙ ap (λ ys. list ++ ys) (sym (after_less op (drop (k + 1) ops) x (drop (i + 1) postings) ops_ascend rest_ascends l)) ∙ here

  pub pass_equal : posting_cmp (posting_of op) x ≡ Equal → (list ++ put_by op) ++ after_ops (drop (i + 1) postings) (drop (k + 1) ops) ≡ all
  pass_equal e =
      append_assoc list (put_by op) (after_ops (drop (i + 1) postings) (drop (k + 1) ops))
      ∙ ap (λ ys. list ++ ys) (sym (after_equal op (drop (k + 1) ops) x (drop (i + 1) postings) ops_ascend rest_ascends e)) ∙ here

  pub pass_greater : posting_cmp (posting_of op) x ≡ Greater → (list ++ x ∷ []) ++ after_ops (drop (i + 1) postings) (drop k ops) ≡ all
  pass_greater g =
      ap (λ os. (list ++ x ∷ []) ++ after_ops (drop (i + 1) postings) os) (left_from ops k op hk eo)
      ∙ append_assoc list (x ∷ []) (after_ops (drop (i + 1) postings) (op ∷ drop (k + 1) ops))
      ∙ ap (λ ys. list ++ ys) (sym (after_greater op (drop (k + 1) ops) x (drop (i + 1) postings) ops_ascend g)) ∙ here

-- where the list or the operations are at their end, what is left of both follows
pub pass_end_list : (postings : List Posting) (ops : List Op) (list all : List Posting) (i k : ℕ) → Ascends op_cmp ops → length postings ≤ i → list ++ after_ops (drop i postings) (drop k ops) ≡ all → (list ++ drop i postings) ++ put_by_all (drop k ops) ≡ all
pass_end_list postings ops list all i k s le so_far =
    let none : drop i postings ≡ [] = drop_all i postings le in
    (λ j. (list ++ none j) ++ put_by_all (drop k ops)) ∙ ap (λ l. l ++ put_by_all (drop k ops)) (append-nil list)
    ∙ ap (λ l. list ++ l) (sym (after_none (drop k ops) (ascends_left op_cmp k ops s)))
    ∙ sym (λ j. list ++ after_ops (none j) (drop k ops)) ∙ so_far

pub pass_end_ops : (postings : List Posting) (ops : List Op) (list all : List Posting) (i k : ℕ) → length ops ≤ k → list ++ after_ops (drop i postings) (drop k ops) ≡ all → (list ++ drop i postings) ++ put_by_all (drop k ops) ≡ all
pass_end_ops postings ops list all i k le so_far =
    let none : drop k ops ≡ [] = drop_all k ops le in
    (λ j. (list ++ drop i postings) ++ put_by_all (none j)) ∙ append-nil (list ++ drop i postings) ∙ sym (λ j. list ++ after_ops (drop i postings) (none j)) ∙ so_far

-- ---- one more posting, which is handed over, and operations behind references

module _ {R : Type 0} (f : R → Op) (refs : List R) (s : Ascends op_cmp (map f refs)) (k : ℕ) (r : R) (hk : k < length refs) (er : r ≡ get_or refs k r) (list : List Posting) (x : Posting) (xs : List Posting) (a : Ascends posting_cmp (x ∷ xs)) where
  at_op : drop k (map f refs) ≡ f r ∷ drop (k + 1) (map f refs)
  at_op = left_from (map f refs) k (f r) (subst (λ n. k < n) (sym (length-map refs f)) hk) (ap f er ∙ sym (get_or-map f refs k r (f r) hk))

  from_op : Ascends op_cmp (f r ∷ drop (k + 1) (map f refs))
  from_op = subst (Ascends op_cmp) at_op (ascends_left op_cmp k (map f refs) s)

  pub next_less : posting_cmp (posting_of (f r)) x ≡ Less → (list ++ put_by (f r)) ++ after_ops (x ∷ xs) (drop (k + 1) (map f refs)) ≡ list ++ after_ops (x ∷ xs) (drop k (map f refs))
  next_less l =
      append_assoc list (put_by (f r)) (after_ops (x ∷ xs) (drop (k + 1) (map f refs)))
      ∙ ap (λ ys. list ++ ys) (sym (ap (after_ops (x ∷ xs)) at_op ∙ after_less (f r) (drop (k + 1) (map f refs)) x xs from_op a l))

  pub next_equal : posting_cmp (posting_of (f r)) x ≡ Equal → ((list ++ put_by (f r)) ++ []) ++ after_ops xs (drop (k + 1) (map f refs)) ≡ list ++ after_ops (x ∷ xs) (drop k (map f refs))
  next_equal e =
      ap (λ ys. ys ++ after_ops xs (drop (k + 1) (map f refs))) (append-nil (list ++ put_by (f r)))
      ∙ append_assoc list (put_by (f r)) (after_ops xs (drop (k + 1) (map f refs)))
      ∙ ap (λ ys. list ++ ys) (sym (ap (after_ops (x ∷ xs)) at_op ∙ after_equal (f r) (drop (k + 1) (map f refs)) x xs from_op a e))

  pub next_greater : posting_cmp (posting_of (f r)) x ≡ Greater → (list ++ x ∷ []) ++ after_ops xs (drop k (map f refs)) ≡ list ++ after_ops (x ∷ xs) (drop k (map f refs))
  next_greater g =
      append_assoc list (x ∷ []) (after_ops xs (drop k (map f refs)))
      ∙ ap (λ ys. list ++ x ∷ ys) (ap (after_ops xs) at_op)
      ∙ ap (λ ys. list ++ ys) (sym (ap (after_ops (x ∷ xs)) at_op ∙ after_greater (f r) (drop (k + 1) (map f refs)) x xs from_op g))

-- with no operation left it stays
pub next_kept : {R : Type 0} (f : R → Op) (refs : List R) (k : ℕ) (list : List Posting) (x : Posting) (xs : List Posting) → length refs ≤ k → (list ++ x ∷ []) ++ after_ops xs (drop k (map f refs)) ≡ list ++ after_ops (x ∷ xs) (drop k (map f refs))
next_kept f refs k list x xs le =
    let none : drop k (map f refs) ≡ [] = drop_all k (map f refs) (subst (λ n. n ≤ k) (sym (length-map refs f)) le) in
    ap (λ os. (list ++ x ∷ []) ++ after_ops xs os) none ∙ append_assoc list (x ∷ []) xs ∙ sym (ap (λ os. list ++ after_ops (x ∷ xs) os) none)

-- what is behind others ascends
pub ascends_behind : (before after : List Posting) → Ascends posting_cmp (before ++ after) → Ascends posting_cmp after
ascends_behind [] after a = a
ascends_behind (x ∷ xs) after a = ascends_behind xs after a.1

-- at the end what is left of the operations is put in
pub all_passed : {R : Type 0} (f : R → Op) (refs : List R) (list all : List Posting) (k : ℕ) → Ascends op_cmp (map f refs) → list ++ after_ops [] (drop k (map f refs)) ≡ all → list ++ put_by_all (map f (drop k refs)) ≡ all
all_passed f refs list all k s so_far =
    ap (λ os. list ++ put_by_all os) (sym (drop-map f k refs))
    ∙ ap (λ ys. list ++ ys) (sym (after_none (drop k (map f refs)) (ascends_left op_cmp k (map f refs) s)))
    ∙ so_far
