use Rattle.std.proofs.Common.{◌≡◌, ◌≤◌, List, length, flat_map, ap, subst, sym, rules}
use Rattle.std.specs.Ordering.{is_lt}
use Rattle.std.proofs.lemmas.List.Sorted.{answers_always, ranks_by}
use Rattle.dg_keys.specs.declared.record.Part.{Part}
use Rattle.dg_keys.specs.Keys.{part_cmp}
use Rattle.dg_edges.proofs.JoinLaws.{part_total, same_at, sorted_ascend}
use Rattle.dg_edges.proofs.joining.sorted.Goals as goal

pub returns-clause-same : goal.returns-clause-same
returns-clause-same c key =
    let stable = c.in_ok-sort_by.ensures.stable (λ x y. is_lt (part_cmp x y)) (ranks_by part_total (λ x. x)) (answers_always _ (λ a r. is_lt r ≡ is_lt (part_cmp a.0.now a.1.0.now)) _ (λ f a r q k. let is : r ≡ part_cmp a.0.now a.1.0.now = search rules in ap is_lt is)) in
    ap (λ (ps : List Part). flat_map (λ part. part.ops) ps) (same_at c.args.parts.items c.sort_by.new.self.items key stable)

pub returns-clause-ascend : goal.returns-clause-ascend
returns-clause-ascend c apart =
    let stable = c.in_ok-sort_by.ensures.stable (λ x y. is_lt (part_cmp x y)) (ranks_by part_total (λ x. x)) (answers_always _ (λ a r. is_lt r ≡ is_lt (part_cmp a.0.now a.1.0.now)) _ (λ f a r q k. let is : r ≡ part_cmp a.0.now a.1.0.now = search rules in ap is_lt is)) in
    let sorted = c.in_ok-sort_by.ensures.sorted (λ x y. is_lt (part_cmp x y)) (ranks_by part_total (λ x. x)) (answers_always _ (λ a r. is_lt r ≡ is_lt (part_cmp a.0.now a.1.0.now)) _ (λ f a r q k. let is : r ≡ part_cmp a.0.now a.1.0.now = search rules in ap is_lt is)) in
    sorted_ascend c.sort_by.new.self.items sorted (λ key. subst (λ (ps : List Part). length ps ≤ 1) (sym (same_at c.args.parts.items c.sort_by.new.self.items key stable)) (apart key))
