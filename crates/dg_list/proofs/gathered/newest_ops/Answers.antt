use Rattle.std.proofs.Common.{◌≡◌, ap, subst, sym, ◌∙◌, rules}
use Rattle.std.specs.Ordering.{is_eq, is_lt, eq_by_cmp}
use Rattle.std.specs.List.{dedup}
use Rattle.std.proofs.lemmas.List.Sorted.{answers_always, ranks_by}
use Rattle.std.proofs.RetainMut.{IsDeduped-is_dedup}
use Rattle.dg_values.specs.Ascending.{Ascends}
use Rattle.dg_delta.specs.Ops.{op_cmp}
use Rattle.dg_delta.proofs.OpLaws.{op_total}
use Rattle.dg_list.specs.Gathered.{there_by}
use Rattle.dg_list.proofs.NewestOnes.{sorted_alike, firsts_alike, firsts_ascend}
use Rattle.dg_list.proofs.gathered.newest_ops.Goals as goal

are_kept : (c : goal.After-dedup_by) → c.dedup_by.new.self.items ≡ dedup (eq_by_cmp op_cmp) c.sort_by.new.self.items
are_kept c =
    IsDeduped-is_dedup _ _ _ _ c.dedup_by.ensures.filtered (eq_by_cmp op_cmp) (λ s x k b t x' k' h.
    let is : b ≡ is_eq (op_cmp h.first.now h.second.now) = search rules in
    let first : h.left.0.now ≡ h.first.now = search rules in
    let second : h.left.1.0.now ≡ h.second.now = search rules in
    (is ∙ (λ i. is_eq (op_cmp (h.shows.0 i) (h.shows.1 i))), (sym h.leaves.0 ∙ first ∙ h.shows.0, sym h.leaves.1 ∙ second ∙ h.shows.1)))

pub returns-clause-alike : goal.returns-clause-alike
returns-clause-alike c q was =
    let stable = c.in_ok-sort_by.ensures.stable (λ x y. is_lt (op_cmp x y)) (ranks_by op_total (λ x. x)) (answers_always _ (λ a r. is_lt r ≡ is_lt (op_cmp a.0.now a.1.0.now)) _ (λ f a r q k. let is : r ≡ op_cmp a.0.now a.1.0.now = search rules in ap is_lt is)) in
    ap (λ ops. there_by ops q was) (are_kept c)
    ∙ firsts_alike c.sort_by.new.self.items q was
    ∙ sorted_alike c.args.ops.items c.sort_by.new.self.items stable q was

pub returns-clause-ascend : goal.returns-clause-ascend
returns-clause-ascend c =
    let sorted = c.in_ok-sort_by.ensures.sorted (λ x y. is_lt (op_cmp x y)) (ranks_by op_total (λ x. x)) (answers_always _ (λ a r. is_lt r ≡ is_lt (op_cmp a.0.now a.1.0.now)) _ (λ f a r q k. let is : r ≡ op_cmp a.0.now a.1.0.now = search rules in ap is_lt is)) in
    subst (Ascends op_cmp) (sym (are_kept c)) (firsts_ascend c.sort_by.new.self.items sorted)
