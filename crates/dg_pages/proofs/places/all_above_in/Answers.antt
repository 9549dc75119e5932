use Rattle.std.proofs.Common.{◌∙◌, rules, ap}
use Rattle.std.specs.Arc.{arc_value}
use Rattle.std.specs.Ordering.{is_le}
use Rattle.std.proofs.lemmas.List.Sorted.{IsPartitionPoint-from_clause}
use Rattle.dg_pages.specs.Entries.{entries_of}
use Rattle.dg_pages.proofs.AboveLemmas.{upto_parted}
use Rattle.dg_pages.proofs.RunsAbove.{above_from}
use Rattle.dg_pages.proofs.places.all_above_in.Goals as goal

pub returns : goal.returns
returns g c =
    let point = IsPartitionPoint-from_clause (λ p. is_le (g.K.Ord.cmp (arc_value p.0) c.args.key.now)) _ _ c.partition_point-at.ensures.partitioned (upto_parted g.met.K.Ord.total c.args.pairs.now c.args.key.now c.requires) (λ a r q k. search rules) in
    ap (λ ps. entries_of ps) c.split_at.ensures.back
    ∙ above_from g.met.K.Ord.total c.args.pairs.now c.args.key.now c.partition_point-at.result point c.partition_point-at.ensures.bound
