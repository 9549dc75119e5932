use Rattle.std.proofs.Common.{true, [], subst, sym}
use Rattle.dg_zero.specs.Counters.{next}
use Rattle.dg_zero.specs.States.{Zero}
use Rattle.dg_node.specs.declared.cluster.ClusterFault.{ClusterFault}
use Rattle.dg_node.specs.Clusters.{Meets, BeginsAt, IsBeginFault}
use Rattle.dg_node.proofs.ClusterFaults.{begin_fault}
use Rattle.dg_node.proofs.Keeping.{looked_owned, begun_owned, pins_of_begun}
use Rattle.dg_node.proofs.Alone.{meets_here}
use Rattle.dg_node.proofs.owned.OwnedCluster.begin.Goals.{in-Ok-begin, in-Err}
use Rattle.dg_node.proofs.owned.OwnedCluster.begin.Goals as goal

pub invariant_of-self : goal.invariant_of-self
invariant_of-self c = looked_owned c.self.inside.zero c.look.new.self c.pinned.new.groups.items c.args.slip c.pinned.ensures.owned c.look.ensures.history c.look.ensures.legal

pub invariant_of-self-2 : goal.invariant_of-self-2
invariant_of-self-2 c = begun_owned c.self.inside.zero c.begin.new.self c.pinned.new.groups.items c.args.slip (next c.self.inside.zero.history) c.begin.result c.pinned.ensures.owned c.begin.ensures.ok c.begin.ensures.err c.begin.ensures.legal

pub returns-clause-begins : goal.returns-clause-begins
returns-clause-begins c = subst (λ (z : Zero). Meets (λ n. true) z c.begin.new.self (BeginsAt c.args.slip c.match-begin.result)) c.self.view_is
    (meets_here (λ n. true) c.self.inside.zero c.begin.new.self (BeginsAt c.args.slip c.match-begin.result) c.self.invariant.legal (elim c.match-begin.branch [
      | in-Ok-begin w ↦ rw w.result-is (record {
        start = w.in-Ok-begin.ensures.start;
        schema_is = w.in-Ok-begin.ensures.schema;
        owners_are = w.in-Ok-begin.ensures.owners;
        pins = pins_of_begun c.self.inside.zero c.begin.new.self c.in-Ok.pins.items c.args.slip c.self.invariant.least c.in-Ok.ensures.pins w.in-Ok-begin.ensures.ok w.in-Ok-begin.ensures.legal;
        ok = w.in-Ok-begin.ensures.ok;
        not_spent = w.in-Ok-begin.ensures.not_spent;
        fault = tt;
        err = tt;
      })
      | in-Err w ↦ rw w.result-is (record {
        start = tt;
        schema_is = tt;
        owners_are = tt;
        pins = tt;
        ok = tt;
        not_spent = tt;
        fault = subst (λ (f : ClusterFault). IsBeginFault c.self.inside.zero.history f) (sym (w.whole.ensures [])) (begin_fault [] c.self.inside.zero.history w.in-Err.fault w.in-Err.ensures.fault);
        err = w.in-Err.ensures.err;
      })
    ]))
