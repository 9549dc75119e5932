use Rattle.std.proofs.Common.{◌≡◌, true, [], None, subst, sym, ◌∙◌}
use Rattle.dg_zero.specs.States.{Zero, AreAlterParts}
use Rattle.dg_zero.specs.Worlds.{schema, world}
use Rattle.dg_node.specs.declared.cluster.ClusterFault.{ClusterFault}
use Rattle.dg_node.specs.Alters.{first_with_data}
use Rattle.dg_node.specs.Clusters.{Meets, AltersAt, IsAlterFault}
use Rattle.dg_node.proofs.AlterLemmas.{kinds_kept}
use Rattle.dg_node.proofs.ClusterFaults.{alter_fault}
use Rattle.dg_node.proofs.Keeping.{looked_owned, altered_owned}
use Rattle.dg_node.proofs.Alone.{meets_here}
use Rattle.dg_node.proofs.owned.OwnedCluster.alter.Goals.{in-Ok-alter, in-Err-alter}
use Rattle.dg_node.proofs.owned.OwnedCluster.alter.Goals as goal

pub invariant_of-self : goal.invariant_of-self
invariant_of-self c = looked_owned c.self.inside.zero c.look.new.self c.self.inside.groups.items c.args.slip c.self.invariant c.look.ensures.history c.look.ensures.legal

pub alter-requires-clause-kinds : goal.alter-requires-clause-kinds
alter-requires-clause-kinds c =
    let z = c.self.inside.zero in
    let now : z ≡ c.args.self.now = c.self.view_is ∙ c.prepare.ensures.same in
    let free : first_with_data (schema z.history) (world z.history).graph c.args.newer.now ≡ None = subst (λ (y : Zero). first_with_data (schema y.history) (world y.history).graph c.args.newer.now ≡ None) (sym now) c.in-Ok.ensures.no_data in
    kinds_kept (schema z.history) (world z.history).graph c.args.newer.now free

pub invariant_of-self-2 : goal.invariant_of-self-2
invariant_of-self-2 c = altered_owned c.entries_of_histories.ensures.keep_alters c.self.inside.zero c.alter.new.self c.self.inside.groups.items c.args.slip c.args.newer.now c.in-Ok.parts c.alter.result c.self.invariant c.alter.ensures.ok c.alter.ensures.err c.alter.ensures.legal

pub returns-clause-alters : goal.returns-clause-alters
returns-clause-alters c =
    let z = c.self.inside.zero in
    let newer = c.args.newer.now in
    let now : z ≡ c.args.self.now = c.self.view_is ∙ c.prepare.ensures.same in
    let free : first_with_data (schema z.history) (world z.history).graph newer ≡ None = subst (λ (y : Zero). first_with_data (schema y.history) (world y.history).graph newer ≡ None) (sym now) c.in-Ok.ensures.no_data in
    let parts : AreAlterParts z.history newer c.in-Ok.parts = subst (λ (y : Zero). AreAlterParts y.history newer c.in-Ok.parts) (sym now) c.in-Ok.ensures.parts in
    subst (λ (y : Zero). Meets (λ n. true) y c.alter.new.self (AltersAt c.args.slip newer c.match-alter.result)) now
    (meets_here (λ n. true) z c.alter.new.self (AltersAt c.args.slip newer c.match-alter.result) c.self.invariant.legal (elim c.match-alter.branch [
      | in-Ok-alter w ↦ rw w.result-is (record {
        drawn = w.in-Ok-alter.ensures.drawn;
        ok = (c.in-Ok.parts, parts, w.in-Ok-alter.ensures.ok);
        none_active = w.in-Ok-alter.ensures.none_active;
        none_held = w.in-Ok-alter.ensures.none_held;
        no_data = free;
        not_spent = w.in-Ok-alter.ensures.not_spent;
        fault = tt;
        err = tt;
      })
      | in-Err-alter w ↦ rw w.result-is (record {
        drawn = tt;
        ok = tt;
        none_active = tt;
        none_held = tt;
        no_data = tt;
        not_spent = tt;
        fault = subst (λ (f : ClusterFault). IsAlterFault z.history newer f) (sym (w.whole.ensures [])) (alter_fault [] z.history newer w.in-Err-alter.fault free w.in-Err-alter.ensures.fault);
        err = w.in-Err-alter.ensures.err;
      })
    ]))
