use Rattle.std.proofs.Common.{◌≡◌, ap, subst, sym, ◌∙◌, rules}
use Rattle.std.specs.Ordering.{is_eq, is_lt, eq_by_cmp}
use Rattle.std.proofs.lemmas.List.Sorted.{answers_always, ranks_by}
use Rattle.std.proofs.RetainMut.{IsDeduped-is_dedup}
use Rattle.dg_values.specs.Ascending.{Ascends, ascending}
use Rattle.dg_sets.proofs.MadeOrders.{total_from}
use Rattle.dg_sets.proofs.OnceEach.{kept_once, ascending_ascends}
use Rattle.dg_sets.proofs.sorting.in_order.Goals as goal
use Rattle.dg_sets.proofs.sorting.in_order.Given as given

are_kept : (g : given.Over) (c : goal.After-dedup_by g) → c.dedup_by.new.self.items ≡ ascending g.T.InOrder.order c.args.items.items
are_kept g c =
    let order = g.T.InOrder.order in
    let sorted = c.sort_unstable_by.ensures.sorted (λ x y. is_lt (order x y)) (ranks_by (total_from order g.met.T.InOrder.total) (λ x. x)) (answers_always _ (λ a r. is_lt r ≡ is_lt (order a.0.now a.1.0.now)) _ (λ f a r q k. ap is_lt (search rules))) in
    IsDeduped-is_dedup _ _ _ _ c.dedup_by.ensures.filtered (eq_by_cmp order) (λ s x k b t x' k' h.
    let is : b ≡ is_eq (order h.first.now h.second.now) = search rules in
    let first : h.left.0.now ≡ h.first.now = search rules in
    let second : h.left.1.0.now ≡ h.second.now = search rules in
    (is ∙ (λ i. is_eq (order (h.shows.0 i) (h.shows.1 i))), (sym h.leaves.0 ∙ first ∙ h.shows.0, sym h.leaves.1 ∙ second ∙ h.shows.1)))
    ∙ kept_once order g.met.T.InOrder.total c.args.items.items c.sort_unstable_by.new.self.items c.sort_unstable_by.ensures.permutation sorted

pub returns-clause-items : goal.returns-clause-items
returns-clause-items g c = are_kept g c

pub returns-clause-ascends : goal.returns-clause-ascends
returns-clause-ascends g c = subst (Ascends g.T.InOrder.order) (sym (are_kept g c)) (ascending_ascends g.T.InOrder.order g.met.T.InOrder.total c.args.items.items)
