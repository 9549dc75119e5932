-- Operations sorted by posting, where equal ones keep their order, of which the first on each posting is kept.
use Rattle.std.proofs.Common.{◌≡◌, ◌∙◌, sym, ap, refl, Bool, true, false, cond, List, [], ◌∷◌}
use Rattle.std.specs.Prelude.{◌&&◌, not, filter}
use Rattle.std.specs.List.{dedup, dedup_from}
use Rattle.std.specs.List.Sorted.{IsStable, IsSorted, IsStrictlySortedBy, ties}
use Rattle.std.specs.declared.cmp.Ordering.{Ordering}
use Rattle.std.specs.declared.cmp.Ordering.TheVariants.{Less, Equal, Greater}
use Rattle.std.specs.Ordering.{is_eq, is_lt, eq_by_cmp, ordering_reverse}
use Rattle.std.proofs.lemmas.List.Kept.{IsStrictlySortedBy-dedup}
use Rattle.dg_values.specs.Ascending.{Ascends}
use Rattle.dg_values.specs.Order.{posting_cmp}
use Rattle.dg_values.specs.declared.value.Posting.{Posting}
use Rattle.dg_values.proofs.OrderLaws.{posting_order}
use Rattle.dg_sets.proofs.Sets.{is_one}
use Rattle.dg_delta.specs.declared.op.Op.{Op}
use Rattle.dg_delta.specs.declared.op.Op.TheVariants.{Set}
use Rattle.dg_delta.specs.Ops.{posting_of, op_cmp}
use Rattle.dg_delta.specs.Effects.{is_set}
use Rattle.dg_delta.proofs.OpLaws.{op_total}
use Rattle.dg_list.specs.Gathered.{is_on, there_by, SayAlike}

-- ---- only what is on a posting counts for it

said_by_those : (q : Posting) (was : Bool) (test : Op → Bool) → ((op : Op) → test op ≡ is_on q op) → (ops : List Op) → there_by (filter test ops) q was ≡ there_by ops q was
said_by_those q was test f [] = refl
said_by_those q was test f (op ∷ ops) = by (test op) (is_on q op) refl (f op) (said_by_those q was test f ops)
  where
    by : (v w : Bool) → is_on q op ≡ w → v ≡ w → there_by (filter test ops) q was ≡ there_by ops q was → there_by (cond v (op ∷ filter test ops) (filter test ops)) q was ≡ cond w (is_set op) (there_by ops q was)
    by true w p e rest = ap (λ b. cond b (is_set op) (there_by (filter test ops) q was)) (p ∙ sym e) ∙ ap (λ b. cond b (is_set op) (there_by ops q was)) e
    by false w p e rest = rest ∙ ap (λ b. cond b (is_set op) (there_by ops q was)) e

tied : (a b : Ordering) → a ≡ ordering_reverse b → (not (is_lt a) && not (is_lt b)) ≡ is_eq b
tied a Less e = ap (λ v. not (is_lt v) && false) e
tied a Equal e = ap (λ v. not (is_lt v) && true) e
tied a Greater e = ap (λ v. not (is_lt v) && true) e

ties_on : (q : Posting) (op : Op) → ties (λ x y. is_lt (op_cmp x y)) (Set q) op ≡ is_on q op
ties_on q op = tied (posting_cmp q (posting_of op)) (posting_cmp (posting_of op) q) (posting_order.antisymm q (posting_of op))

pub sorted_alike : (old sorted : List Op) → IsStable op_cmp old sorted → SayAlike old sorted
sorted_alike old sorted s q was =
    sym (said_by_those q was (ties (λ x y. is_lt (op_cmp x y)) (Set q)) (ties_on q) sorted)
    ∙ ap (λ ops. there_by ops q was) (s (Set q))
    ∙ said_by_those q was (ties (λ x y. is_lt (op_cmp x y)) (Set q)) (ties_on q) old

-- ---- the first on each posting

said_from : (k : Op) (ops : List Op) (q : Posting) (was : Bool) → there_by (dedup_from (eq_by_cmp op_cmp) k ops) q was ≡ there_by (k ∷ ops) q was
said_from k [] q was = refl
said_from k (op ∷ ops) q was = by (is_eq (op_cmp op k)) refl (said_from k ops q was) (said_from op ops q was)
  where
    twice : posting_of op ≡ posting_of k → (v : Bool) → is_on q k ≡ v → cond v (is_set k) (there_by ops q was) ≡ cond v (is_set k) (there_by (op ∷ ops) q was)
    twice same true e = refl
    twice same false e = ap (λ b. cond b (is_set op) (there_by ops q was)) (sym (ap (λ p. is_eq (posting_cmp p q)) same ∙ e))

    by : (v : Bool) → is_eq (op_cmp op k) ≡ v → there_by (dedup_from (eq_by_cmp op_cmp) k ops) q was ≡ there_by (k ∷ ops) q was → there_by (dedup_from (eq_by_cmp op_cmp) op ops) q was ≡ there_by (op ∷ ops) q was → there_by (cond v (dedup_from (eq_by_cmp op_cmp) k ops) (k ∷ dedup_from (eq_by_cmp op_cmp) op ops)) q was ≡ there_by (k ∷ op ∷ ops) q was
    by true e same more = same ∙ twice (is_one posting_cmp posting_order (posting_of op) (posting_of k) e) (is_on q k) refl
    by false e same more = ap (cond (is_on q k) (is_set k)) more

pub firsts_alike : (ops : List Op) → SayAlike ops (dedup (eq_by_cmp op_cmp) ops)
firsts_alike [] q was = refl
firsts_alike (op ∷ ops) q was = said_from op ops q was

strictly : (ops : List Op) → IsStrictlySortedBy op_cmp ops → Ascends op_cmp ops
unfolding IsStrictlySortedBy
strictly [] h = tt
strictly (op ∷ ops) h = (h.0, strictly ops h.1)

pub firsts_ascend : (ops : List Op) → IsSorted op_cmp ops → Ascends op_cmp (dedup (eq_by_cmp op_cmp) ops)
firsts_ascend ops s = strictly (dedup (eq_by_cmp op_cmp) ops) (IsStrictlySortedBy-dedup op_total (λ x y. refl) ops s)
