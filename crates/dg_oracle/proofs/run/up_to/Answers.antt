use Rattle.std.proofs.Common.{rules}
use Rattle.std.specs.Ordering.{is_le}
use Rattle.std.proofs.lemmas.List.Sorted.{IsPartitionPoint-from_clause}
use Rattle.dg_oracle.proofs.Searches.{parted}
use Rattle.dg_oracle.proofs.run.up_to.Goals as goal

pub returns-clause-point : goal.returns-clause-point
returns-clause-point g c =
    IsPartitionPoint-from_clause (λ m. is_le (g.K.Ord.cmp m.key c.args.key.now)) _ _ c.partition_point.ensures.partitioned (parted g.K.Ord.cmp g.met.K.Ord.total c.args.key.now c.args.marks.now c.requires) (λ a r q k. search rules)
