use Rattle.std.proofs.Common.{rules}
use Rattle.std.specs.Ordering.{is_lt}
use Rattle.std.proofs.lemmas.List.Sorted.{IsPartitionPoint-from_clause}
use Rattle.dg_sets.proofs.Places.{parted}
use Rattle.dg_sets.proofs.ordered.below.Goals as goal

pub returns-clause-point : goal.returns-clause-point
returns-clause-point g c =
    IsPartitionPoint-from_clause (λ y. is_lt (g.T.InOrder.order y c.args.item.now)) _ _ c.partition_point.ensures.partitioned (parted g.T.InOrder.order g.met.T.InOrder.total c.args.item.now c.args.items.now c.requires.ascend) (λ a r q k. search rules)
