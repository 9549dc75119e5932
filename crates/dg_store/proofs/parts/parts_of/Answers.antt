use Rattle.std.proofs.Common.{rules, ◌≡◌, ◌≤◌, ◌∙◌, sym, ap, subst, true, false, length, List, take, drop}
use Rattle.std.specs.List.Sorted.{IsPartitionPoint}
use Rattle.std.proofs.lemmas.List.Sorted.{IsPartitionPoint-from_clause}
use Rattle.dg_sets.proofs.Merges.{ascends_left}
use Rattle.dg_values.specs.Ascending.{Ascends}
use Rattle.dg_keys.specs.Keys.{part_cmp}
use Rattle.dg_keys.specs.declared.record.Part.{Part}
use Rattle.dg_pages.proofs.RunLemmas.{taken_all, left_all}
use Rattle.dg_store.proofs.PartLemmas.{is_below, is_upto, below_parted, upto_parted, parts_are}
use Rattle.dg_store.proofs.parts.parts_of.Goals as goal

pub returns : goal.returns
returns c =
    let p = c.args.pred.now in
    let parts = c.args.parts.now in
    let i = c.partition_point-from.result in
    let j = c.partition_point-upto.result in
    let rest = c.split_at.result.1.now in
    let same : rest ≡ drop i parts = c.split_at.ensures.back in
    let first = IsPartitionPoint-from_clause (is_below p) _ _ c.partition_point-from.ensures.partitioned (below_parted p parts c.requires) (λ a r q k. search rules) in
    let ascend = subst (Ascends part_cmp) (sym same) (ascends_left part_cmp i parts c.requires) in
    let second = IsPartitionPoint-from_clause (is_upto p) _ _ c.partition_point-upto.ensures.partitioned (upto_parted p rest ascend) (λ a r q k. search rules) in
    let within = subst (λ (xs : List Part). j ≤ length xs) same c.partition_point-upto.ensures.bound in
    let second_is = subst (λ (xs : List Part). IsPartitionPoint (λ x. is_upto p x ≡ true) (λ x. is_upto p x ≡ false) xs j) same second in
    c.split_at-2.ensures.front ∙ ap (take j) same
    ∙ parts_are p parts i j
    (taken_all (is_below p) parts i c.partition_point-from.ensures.bound first)
    (left_all (is_below p) parts i c.partition_point-from.ensures.bound first)
    (taken_all (is_upto p) (drop i parts) j within second_is)
    (left_all (is_upto p) (drop i parts) j within second_is)
