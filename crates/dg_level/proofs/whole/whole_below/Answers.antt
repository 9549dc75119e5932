use Rattle.std.proofs.Common.{◌≡◌, filter}
use Rattle.dg_level.specs.Planned.{planned_there}
use Rattle.dg_level.specs.Left.{TellsIn}
use Rattle.dg_level.proofs.LeftLaws.{if_ok, passed_tell}
use Rattle.dg_level.proofs.whole.whole_below.Goals as goal

pub returns-clause-whole : goal.returns-clause-whole
returns-clause-whole g c = λ known.
    let p = planned_there (g.S.Snapshot.declared c.args.snap.now) (g.S.Snapshot.graph c.args.snap.now) c.args.vars.now.variables c.args.braces.now c.args.inner.now in
    let level = c.in_ok-level-in-Unknown.level in
    if_ok c.whole_nodes.result (λ whole. whole.nodes ≡ filter p level) (λ whole. TellsIn p c.args.lists.now whole.nodes) (λ whole made. passed_tell p level c.args.lists.now whole.nodes c.in_ok-level-in-Unknown.ensures made) c.whole_nodes.ensures.nodes
