use Rattle.std.proofs.Common.{◌≡◌, ℕ, List, sym, subst}
use Rattle.std.specs.Prelude.{IfOk}
use Rattle.dg_funcs.specs.Roots.{root_nodes}
use Rattle.dg_funcs.specs.Equal.{equal_nodes}
use Rattle.dg_funcs.proofs.roots.root_of_equal.Goals as goal

pub returns-in-Some-clause-nodes : goal.returns-in-Some-clause-nodes
returns-in-Some-clause-nodes g c =
    let graph = g.S.Snapshot.graph c.args.snap.now in
    let vars = c.args.vars.now.variables in
    let back = sym c.requires.equal.1 in
    let e : equal_nodes graph c.args.p.now c.args.values.now ≡ root_nodes graph vars c.args.func.now = λ i. root_nodes graph vars (back i) in
    subst (λ (ys : List ℕ). IfOk c.equal_by_index.result (λ uids. uids ≡ ys)) e c.equal_by_index.ensures.nodes
