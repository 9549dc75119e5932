use Rattle.std.proofs.Common.{rules}
use Rattle.std.specs.Prelude.{nat_le}
use Rattle.std.proofs.lemmas.List.Sorted.{IsPartitionPoint-from_clause}
use Rattle.dg_base.specs.declared.packing.Start.{Start}
use Rattle.dg_base.proofs.nodes.blocks_up_to.Goals as goal

pub returns-clause-point : goal.returns-clause-point
returns-clause-point c =
    IsPartitionPoint-from_clause (λ (s : Start). nat_le s.first c.args.number) _ _ c.partition_point.ensures.partitioned c.requires (λ a r q k. search rules)
