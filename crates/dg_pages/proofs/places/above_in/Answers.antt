use Rattle.std.proofs.Common.{rules, sym, arith}
use Rattle.std.specs.Arc.{arc_value}
use Rattle.std.specs.Ordering.{is_le}
use Rattle.std.proofs.lemmas.List.Sorted.{IsPartitionPoint-from_clause}
use Rattle.dg_pages.proofs.AboveLemmas.{upto_parted, above_at, above_none}
use Rattle.dg_pages.proofs.places.above_in.Goals as goal

pub returns-then-at-pairs : goal.returns-then-at-pairs
returns-then-at-pairs g c =
    let point = IsPartitionPoint-from_clause (λ p. is_le (g.K.Ord.cmp (arc_value p.0) c.args.key.now)) _ _ c.partition_point-at.ensures.partitioned (upto_parted g.met.K.Ord.total c.args.pairs.now c.args.key.now c.requires) (λ a r q k. search rules) in
    sym (above_none g.met.K.Ord.total c.args.pairs.now c.args.key.now c.partition_point-at.result point (omega arith))

pub returns : goal.returns
returns g c =
    let point = IsPartitionPoint-from_clause (λ p. is_le (g.K.Ord.cmp (arc_value p.0) c.args.key.now)) _ _ c.partition_point-at.ensures.partitioned (upto_parted g.met.K.Ord.total c.args.pairs.now c.args.key.now c.requires) (λ a r q k. search rules) in
    sym (above_at g.met.K.Ord.total c.args.pairs.now c.args.key.now c.partition_point-at.result c.index-pairs-at.result point (omega (arith, c.partition_point-at.ensures.bound)) c.index-pairs-at.is)
