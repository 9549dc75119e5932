use Rattle.std.proofs.Common.{◌∙◌, length, rules, arith}
use Rattle.std.proofs.lemmas.Slice.{between_to_end}
use Rattle.std.proofs.lemmas.List.Sorted.{IsPartitionPoint-from_clause}
use Rattle.std.specs.Prelude.{nat_le}
use Rattle.dg_uids.proofs.Paging.{parted, filter_is_tail}
use Rattle.dg_uids.proofs.pages.above.Goals as goal

pub returns : goal.returns
returns c =
    let uids = c.args.uids.now in
    let place = c.partition_point.result in
    let point = IsPartitionPoint-from_clause (λ x. nat_le x c.args.after) _ _ c.partition_point.ensures.partitioned (parted c.args.after uids c.requires) (λ a r q k. search rules) in
    between_to_end uids place (length uids) (omega arith) ∙ filter_is_tail c.args.after uids place c.partition_point.ensures.bound point.0 point.1
