use Rattle.std.proofs.Common.{◌≡◌, ℕ, List, sym, subst, ◌∙◌}
use Rattle.std.specs.Prelude.{IfOk}
use Rattle.std.specs.Ordering.{nat_cmp}
use Rattle.dg_values.specs.Ascending.{ascending}
use Rattle.dg_check.specs.Vars.{named_nodes}
use Rattle.dg_funcs.specs.Roots.{nodes_with, root_nodes}
use Rattle.dg_funcs.proofs.RootLaws.{root_of_uid, root_of_has}
use Rattle.dg_funcs.proofs.roots.root.Goals as goal

pub returns-in-Uid-clause-nodes : goal.returns-in-Uid-clause-nodes
returns-in-Uid-clause-nodes g c lawful =
    let graph = g.S.Snapshot.graph c.args.snap.now in
    let vars = c.args.vars.now.variables in
    let back = sym c.in-Uid.is in
    let e : ascending nat_cmp (named_nodes vars c.as_slice.result.now) ≡ root_nodes graph vars c.args.func.now =
    (λ i. ascending nat_cmp (named_nodes vars (c.as_slice.ensures i))) ∙ (sym (root_of_uid graph vars c.in-Uid.names) ∙ λ i. root_nodes graph vars (back i)) in
    subst (λ (ys : List ℕ). IfOk c.named.result (λ uids. uids ≡ ys)) e c.named.ensures

pub returns-in-Has-clause-nodes : goal.returns-in-Has-clause-nodes
returns-in-Has-clause-nodes g c lawful =
    let graph = g.S.Snapshot.graph c.args.snap.now in
    let vars = c.args.vars.now.variables in
    let back = sym c.in-Has.is in
    let e : nodes_with graph c.in-Has.edge ≡ root_nodes graph vars c.args.func.now =
    sym (root_of_has graph vars c.in-Has.edge) ∙ λ i. root_nodes graph vars (back i) in
    subst (λ (ys : List ℕ). IfOk c.nodes_with.result (λ uids. uids ≡ ys)) e c.nodes_with.ensures
