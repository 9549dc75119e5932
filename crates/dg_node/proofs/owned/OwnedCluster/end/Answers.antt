use Rattle.std.proofs.Common.{true, subst}
use Rattle.dg_zero.specs.States.{Zero}
use Rattle.dg_node.specs.Clusters.{Meets, EndsAt}
use Rattle.dg_node.proofs.Keeping.{ended_owned}
use Rattle.dg_node.proofs.Alone.{meets_here}
use Rattle.dg_node.proofs.owned.OwnedCluster.end.Goals as goal

pub invariant_of-self : goal.invariant_of-self
invariant_of-self c = ended_owned c.self.inside.zero c.end.new.self c.self.inside.groups.items c.args.slip c.args.start c.end.result c.self.invariant c.end.ensures.history c.end.ensures.legal

pub returns-clause-ends : goal.returns-clause-ends
returns-clause-ends c = subst (λ (z : Zero). Meets (λ n. true) z c.end.new.self (EndsAt c.args.slip c.args.start c.end.result)) c.self.view_is
    (meets_here (λ n. true) c.self.inside.zero c.end.new.self (EndsAt c.args.slip c.args.start c.end.result) c.self.invariant.legal
    (record { was_active = c.end.ensures.was_active; appends = c.end.ensures.history }))
