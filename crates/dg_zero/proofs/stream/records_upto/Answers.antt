use Rattle.std.proofs.Common.{rules}
use Rattle.std.specs.Prelude.{nat_le}
use Rattle.std.proofs.lemmas.List.Sorted.{IsPartitionPoint-from_clause}
use Rattle.dg_keys.specs.declared.record.Record.{Record}
use Rattle.dg_zero.proofs.Streams.{parted_upto}
use Rattle.dg_zero.proofs.stream.records_upto.Goals as goal

pub returns-clause-point : goal.returns-clause-point
returns-clause-point c =
    IsPartitionPoint-from_clause (λ (r : Record). nat_le r.ts c.args.after) _ _ c.partition_point.ensures.partitioned (parted_upto c.args.after 0 c.args.records.now c.requires) (λ a r q k. search rules)
