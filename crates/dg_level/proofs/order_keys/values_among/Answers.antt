use Rattle.std.proofs.Common.{rules}
use Rattle.std.specs.Prelude.{filter, is_some}
use Rattle.std.specs.Ordering.{nat_cmp}
use Rattle.dg_sets.proofs.MadeOrders.{nat_order}
use Rattle.dg_sets.proofs.Sets.{ascends_passed}
use Rattle.dg_level.specs.Planned.{value_by}
use Rattle.dg_level.proofs.ListLaws.{ascending_same}
use Rattle.dg_level.proofs.order_keys.values_among.Goals as goal

pub returns : goal.returns
returns g c =
    let f = value_by (g.S.Snapshot.graph c.args.snap.now) c.args.vars.now.variables c.args.key.now in
    let nodes = c.args.nodes.now in
    let same = ascending_same (filter (λ n. is_some (f n)) nodes) (ascends_passed nat_cmp nat_order (λ n. is_some (f n)) nodes (search rules)) in
    search (rules, same)
