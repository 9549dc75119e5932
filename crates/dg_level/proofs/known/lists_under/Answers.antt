use Rattle.std.proofs.Common.{◌≡◌, map}
use Rattle.dg_level.specs.Levels.{list_of}
use Rattle.dg_level.proofs.LeftLaws.{if_some}
use Rattle.dg_level.proofs.known.lists_under.Goals as goal

pub returns-in-Some : goal.returns-in-Some
returns-in-Some g c = λ knows.
    let own = list_of (g.S.Snapshot.graph c.args.snap.now) c.args.vars.now.variables c.args.edge.now c.args.args.now c.args.orders.now c.args.filters.now c.args.single in
    if_some c.in_ok-lists.field-0 c.in-Some.lists (λ made. made.items ≡ map own c.args.nodes.now) c.in-Some.is (c.in_ok-lists.ensures own knows)
