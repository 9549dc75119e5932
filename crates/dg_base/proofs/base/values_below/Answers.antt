use Rattle.std.proofs.Common.{rules}
use Rattle.std.specs.Ordering.{is_lt}
use Rattle.std.proofs.lemmas.List.Sorted.{IsPartitionPoint-from_clause}
use Rattle.dg_values.specs.Order.{posting_cmp}
use Rattle.dg_values.proofs.OrderLaws.{posting_order}
use Rattle.dg_sets.proofs.Places.{parted}
use Rattle.dg_base.proofs.Counts.{count_from_point}
use Rattle.dg_base.proofs.base.values_below.Goals as goal

pub returns-clause-below : goal.returns-clause-below
returns-clause-below c =
    let item = c.args.item.now in
    let point = IsPartitionPoint-from_clause (λ y. is_lt (posting_cmp y item)) _ _ c.partition_point.ensures.partitioned (parted posting_cmp posting_order item c.args.values.now c.requires) (λ a r q k. search rules) in
    count_from_point (λ y. is_lt (posting_cmp y item)) c.args.values.now c.partition_point.result c.partition_point.ensures.bound point
