use Rattle.std.proofs.Common.{◌≡◌, ℕ, List, sym, subst, ◌∙◌}
use Rattle.std.specs.Prelude.{IfOk}
use Rattle.dg_values.specs.declared.value.Value.TheVariants.{Int}
use Rattle.dg_parse.specs.declared.query.CmpOp.TheVariants as ops
use Rattle.dg_check.specs.declared.parts.Func.TheVariants as funcs
use Rattle.dg_check.specs.declared.parts.Of.TheVariants as part
use Rattle.dg_funcs.specs.Truth.{stands_to_any}
use Rattle.dg_funcs.specs.Roots.{root_nodes}
use Rattle.dg_funcs.specs.Numbers.{numbered}
use Rattle.dg_funcs.proofs.NumberLaws.{any_number_root}
use Rattle.dg_funcs.proofs.numbers.root_by_any_number.Goals as goal

pub returns-in-Eq : goal.returns-in-Eq
returns-in-Eq g c =
    let graph = g.S.Snapshot.graph c.args.snap.now in
    let vars = c.args.vars.now.variables in
    let edge = c.args.edge.now in
    let values = c.args.values.now in
    let kind = c.requires.count.0 in
    let same : c.args.func.now ≡ funcs.Cmp ops.Eq (part.Count edge) kind values = c.requires.count.1 ∙ λ i. funcs.Cmp (c.in-Eq.is i) (part.Count edge) kind values in
    let back = sym same in
    let e : numbered graph edge (λ k. stands_to_any ops.Eq values (Int k)) ≡ root_nodes graph vars c.args.func.now = any_number_root graph edge vars kind values ∙ λ i. root_nodes graph vars (back i) in
    subst (λ (ys : List ℕ). IfOk c.equal_to_any.result (λ uids. uids ≡ ys)) e c.equal_to_any.ensures
