use Rattle.std.proofs.Common.{true, subst}
use Rattle.dg_zero.specs.States.{Zero}
use Rattle.dg_node.specs.Clusters.{Meets, CommitsAt}
use Rattle.dg_node.proofs.Keeping.{committed_owned}
use Rattle.dg_node.proofs.Alone.{meets_here}
use Rattle.dg_node.proofs.owned.OwnedCluster.commit.Goals as goal

pub invariant_of-self : goal.invariant_of-self
invariant_of-self c = committed_owned c.self.inside.zero c.commit.new.self c.self.inside.groups.items c.args.slip c.args.offer c.commit.result c.self.invariant c.commit.ensures.ok c.commit.ensures.fault c.commit.ensures.legal

pub returns-clause-commits : goal.returns-clause-commits
returns-clause-commits c = subst (λ (z : Zero). Meets (λ n. true) z c.commit.new.self (CommitsAt c.args.slip c.args.offer c.commit.result)) c.self.view_is
    (meets_here (λ n. true) c.self.inside.zero c.commit.new.self (CommitsAt c.args.slip c.args.offer c.commit.result) c.self.invariant.legal
    (record { ts = c.commit.ensures.ts; ok = c.commit.ensures.ok; clear = c.commit.ensures.clear; not_spent = c.commit.ensures.not_spent; fault = c.commit.ensures.fault }))
