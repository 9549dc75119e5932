use Rattle.std.proofs.Common.{◌≡◌, true, [], refl, ap, subst, sym, ◌∙◌}
use Rattle.dg_zero.specs.Counters.{next_uid}
use Rattle.dg_zero.specs.States.{Zero}
use Rattle.dg_node.specs.declared.cluster.ClusterFault.{ClusterFault}
use Rattle.dg_node.specs.declared.cluster.ClusterFault.TheVariants as faults
use Rattle.dg_node.specs.Clusters.{Meets, LeasesAt, IsLeaseFault, cluster_fault}
use Rattle.dg_node.proofs.Alone.{meets_here}
use Rattle.dg_node.proofs.Keeping.{leased_owned}
use Rattle.dg_node.proofs.owned.OwnedCluster.lease.Goals.{in-Ok, in-Err}
use Rattle.dg_node.proofs.owned.OwnedCluster.lease.Goals as goal

pub invariant_of-self : goal.invariant_of-self
invariant_of-self c = leased_owned c.self.inside.zero c.lease.new.self c.self.inside.groups.items c.args.slip c.args.top c.args.count c.lease.result c.self.invariant c.lease.ensures.ok c.lease.ensures.err c.lease.ensures.legal

pub returns-clause-leases : goal.returns-clause-leases
returns-clause-leases c =
    let z = c.self.inside.zero in
    subst (λ (y : Zero). Meets (λ n. true) y c.lease.new.self (LeasesAt c.args.slip c.args.top c.args.count c.match-lease.result)) c.self.view_is
    (meets_here (λ n. true) z c.lease.new.self (LeasesAt c.args.slip c.args.top c.args.count c.match-lease.result) c.self.invariant.legal (elim c.match-lease.branch [
      | in-Ok w ↦ rw w.result-is (record { first = w.in-Ok.ensures.first; ok = w.in-Ok.ensures.ok; fault = tt; err = tt })
      | in-Err w ↦
          let is : w.whole.result ≡ faults.UidsSpent (next_uid z.history) = w.whole.ensures [] ∙ ap (cluster_fault []) w.in-Err.ensures.spent.1 in
          rw w.result-is (record {
            first = tt;
            ok = tt;
            fault = subst (λ (f : ClusterFault). IsLeaseFault z.history c.args.top c.args.count f) (sym is) (w.in-Err.ensures.spent.0, refl);
            err = w.in-Err.ensures.err;
          })
    ]))
