use Rattle.std.proofs.Common.{rules}
use Rattle.std.proofs.lemmas.List.Sorted.{IsPartitionPoint-from_clause}
use Rattle.dg_delta.proofs.Decisions.{falls_below, parted}
use Rattle.dg_delta.proofs.deciding.below.Goals as goal

pub returns-clause-point : goal.returns-clause-point
returns-clause-point c =
    IsPartitionPoint-from_clause (falls_below c.args.posting.now) _ _ c.partition_point.ensures.partitioned (parted c.args.posting.now c.args.ops.now c.requires) (λ a r q k. search rules)
