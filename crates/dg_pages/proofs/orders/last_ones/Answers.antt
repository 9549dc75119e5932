use Rattle.std.proofs.Common.{rules, ◌≡◌, ◌∙◌, ap, sym, subst}
use Rattle.std.specs.Ordering.{is_eq, is_lt, eq_by_cmp, on}
use Rattle.std.specs.List.Sorted.{IsStableBy}
use Rattle.std.proofs.lemmas.List.Sorted.{answers_always, ranks_by}
use Rattle.std.proofs.RetainMut.{IsDeduped-is_dedup}
use Rattle.dg_values.specs.Ascending.{Ascends}
use Rattle.dg_pages.specs.Entries.{change_of}
use Rattle.dg_pages.proofs.RunLemmas.{key_of, run_made}
use Rattle.dg_pages.proofs.SortLemmas.{firsts_ascend, lasts_alike}
use Rattle.dg_pages.proofs.orders.last_ones.Goals as goal

pub returns-clause-run : goal.returns-clause-run
returns-clause-run g c =
    let kept = IsDeduped-is_dedup _ _ _ _ c.dedup_by.ensures.filtered (eq_by_cmp (on key_of g.K.Ord.cmp)) (λ s x k b t x' k' h.
    let is : b ≡ is_eq (g.K.Ord.cmp (key_of h.first.now) (key_of h.second.now)) = search rules in
    let first : h.left.0.now ≡ h.first.now = search rules in
    let second : h.left.1.0.now ≡ h.second.now = search rules in
    (is ∙ (λ i. is_eq (g.K.Ord.cmp (key_of (h.shows.0 i)) (key_of (h.shows.1 i)))), (sym h.leaves.0 ∙ first ∙ h.shows.0, sym h.leaves.1 ∙ second ∙ h.shows.1))) in
    let sorted = c.in_ok-sort_by.ensures.sorted (λ x y. is_lt (g.K.Ord.cmp (key_of x) (key_of y))) (ranks_by g.met.K.Ord.total key_of) (answers_always _ (λ a r. is_lt r ≡ is_lt (g.K.Ord.cmp (key_of a.0.now) (key_of a.1.0.now))) _ (λ f a r q k. let is : r ≡ g.K.Ord.cmp (key_of a.0.now) (key_of a.1.0.now) = search rules in ap is_lt is)) in
    run_made g.K.Ord.cmp c.dedup_by.new.self.items (subst (Ascends (on key_of g.K.Ord.cmp)) (sym kept) (firsts_ascend g.met.K.Ord.total change_of c.sort_by.new.self.items sorted))

pub returns-clause-alike : goal.returns-clause-alike
returns-clause-alike g c =
    let kept = IsDeduped-is_dedup _ _ _ _ c.dedup_by.ensures.filtered (eq_by_cmp (on key_of g.K.Ord.cmp)) (λ s x k b t x' k' h.
    let is : b ≡ is_eq (g.K.Ord.cmp (key_of h.first.now) (key_of h.second.now)) = search rules in
    let first : h.left.0.now ≡ h.first.now = search rules in
    let second : h.left.1.0.now ≡ h.second.now = search rules in
    (is ∙ (λ i. is_eq (g.K.Ord.cmp (key_of (h.shows.0 i)) (key_of (h.shows.1 i)))), (sym h.leaves.0 ∙ first ∙ h.shows.0, sym h.leaves.1 ∙ second ∙ h.shows.1))) in
    let stable = c.in_ok-sort_by.ensures.stable (λ x y. is_lt (g.K.Ord.cmp (key_of x) (key_of y))) (ranks_by g.met.K.Ord.total key_of) (answers_always _ (λ a r. is_lt r ≡ is_lt (g.K.Ord.cmp (key_of a.0.now) (key_of a.1.0.now))) _ (λ f a r q k. let is : r ≡ g.K.Ord.cmp (key_of a.0.now) (key_of a.1.0.now) = search rules in ap is_lt is)) in
    let turned = subst (λ xs. IsStableBy (λ x y. is_lt (g.K.Ord.cmp (key_of x) (key_of y))) xs c.sort_by.new.self.items) c.reverse.ensures.items stable in
    lasts_alike g.met.K.Ord.total change_of c.args.changes.items c.sort_by.new.self.items c.dedup_by.new.self.items turned kept (returns-clause-run g c)
