use Rattle.std.proofs.Common.{◌≤◌, length, rules, arith}
use Rattle.std.proofs.lemmas.List.Sorted.{IsPartitionPoint-from_clause}
use Rattle.std.specs.Prelude.{nat_lt}
use Rattle.dg_uids.proofs.Galloping.{parted_step, point_of_all}
use Rattle.dg_uids.proofs.sides.below.Goals as goal

pub returns-clause-point : goal.returns-clause-point
returns-clause-point c =
    let uids = c.args.uids.now in
    let start = c.passed-from.result in
    let stop = c.min.result in
    let most : stop ≤ length uids = omega (arith, c.min.ensures) in
    let point = IsPartitionPoint-from_clause (λ y. nat_lt y c.args.uid) _ _ c.partition_point.ensures.partitioned (parted_step c.args.uid uids start stop c.requires most) (λ a r q k. search rules) in
    point_of_all c.args.uid uids start stop c.requires most c.partition_point.result (omega (arith, c.min.ensures, c.passed-from.ensures.within)) c.partition_point.ensures.bound c.passed-from.ensures.below (λ k d l h. c.passed-from.ensures.ahead k d (omega (arith, c.min.ensures)) h) point
