use Rattle.std.proofs.Common.{◌≡◌}
use Rattle.dg_level.specs.Known.{values_by}
use Rattle.dg_level.proofs.LeftLaws.{if_some}
use Rattle.dg_level.proofs.known.values_under.Goals as goal

pub returns-in-Some : goal.returns-in-Some
returns-in-Some g c = λ knows.
    let own = values_by (g.S.Snapshot.graph c.args.snap.now) c.args.pred.now in
    if_some c.in_ok-values.field-0 c.in-Some.values (λ v. v.items ≡ own c.args.node) c.in-Some.is (c.in_ok-values.ensures own knows)
