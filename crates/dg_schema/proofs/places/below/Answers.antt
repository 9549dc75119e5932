use Rattle.std.proofs.Common.{rules}
use Rattle.std.specs.Ordering.{is_lt}
use Rattle.std.proofs.lemmas.List.Sorted.{IsPartitionPoint-from_clause}
use Rattle.dg_values.specs.Order.{text_cmp}
use Rattle.dg_schema.specs.Places.{name_at}
use Rattle.dg_schema.proofs.ByName.{parted_at}
use Rattle.dg_schema.proofs.places.below.Goals as goal

pub returns-clause-point : goal.returns-clause-point
returns-clause-point c =
    IsPartitionPoint-from_clause (λ p. is_lt (text_cmp (name_at c.args.definitions.now p) c.args.name.now)) _ _ c.partition_point.ensures.partitioned (parted_at c.args.definitions.now c.args.places.now c.args.name.now c.requires.indexed) (λ a r q k. search rules)
