use Rattle.std.proofs.Common.{◌≡◌, ℕ, List, sym, ap, subst, ◌∙◌}
use Rattle.std.specs.Prelude.{IfOk, filter}
use Rattle.dg_check.specs.declared.parts.Func.{Func}
use Rattle.dg_values.specs.Order.{value_cmp}
use Rattle.dg_values.specs.Ascending.{ascending}
use Rattle.dg_funcs.specs.Truth.{holds_at}
use Rattle.dg_funcs.specs.Roots.{root_nodes}
use Rattle.dg_funcs.specs.Equal.{filed_nodes}
use Rattle.dg_funcs.proofs.NearLaws.{equal_filed_root}
use Rattle.dg_funcs.proofs.dates.held_filed.Goals as goal

pub returns : goal.returns
returns g c =
    let graph = g.S.Snapshot.graph c.args.snap.now in
    let vars = c.args.vars.now.variables in
    let p = c.args.p.now in
    let tokenizer = c.args.tokenizer in
    let values = c.args.values.now in
    let under = c.args.under.now in
    let e : filter (λ n. holds_at graph vars n c.args.func.now) c.in_ok-nodes.nodes ≡ root_nodes graph vars c.args.func.now =
    ap (filter (λ n. holds_at graph vars n c.args.func.now)) c.in_ok-nodes.ensures.nodes
    ∙ subst (λ (f : Func). filter (λ n. holds_at graph vars n f) (filed_nodes graph p tokenizer (ascending value_cmp under)) ≡ root_nodes graph vars f) (sym c.requires.equal.1)
    (equal_filed_root graph p vars c.requires.equal.0 tokenizer values under c.requires.filed) in
    subst (λ (ys : List ℕ). IfOk c.held.result (λ uids. uids ≡ ys)) e c.held.ensures
