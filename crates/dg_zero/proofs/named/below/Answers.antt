use Rattle.std.proofs.Common.{rules}
use Rattle.std.proofs.lemmas.List.Sorted.{IsPartitionPoint-from_clause}
use Rattle.dg_zero.proofs.TabletPlaces.{below, parted}
use Rattle.dg_zero.proofs.named.below.Goals as goal

pub returns-clause-point : goal.returns-clause-point
returns-clause-point c =
    IsPartitionPoint-from_clause (below c.args.pred.now) _ _ c.partition_point.ensures.partitioned (parted c.args.pred.now c.args.tablets.now c.requires) (λ a r q k. search rules)
