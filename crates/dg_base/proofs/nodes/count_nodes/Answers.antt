use Rattle.std.proofs.Common.{rules, ◌∙◌}
use Rattle.std.proofs.lemmas.List.Sorted.{IsPartitionPoint-from_clause}
use Rattle.dg_base.specs.Packed.{is_uid}
use Rattle.dg_base.proofs.Counts.{count_from_point}
use Rattle.dg_base.proofs.Postings.{nodes_first, count_by-is_uid}
use Rattle.dg_base.proofs.nodes.count_nodes.Goals as goal

pub returns : goal.returns
returns c =
    let items = c.args.items.now in
    let point = IsPartitionPoint-from_clause is_uid _ _ c.partition_point.ensures.partitioned (nodes_first items c.requires) (λ a r q k. search rules) in
    count_from_point is_uid items c.partition_point.result c.partition_point.ensures.bound point ∙ count_by-is_uid items
