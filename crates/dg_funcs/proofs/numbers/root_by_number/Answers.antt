use Rattle.std.proofs.Common.{◌≡◌, ℕ, List, [], ◌∷◌, sym, subst, ◌∙◌}
use Rattle.std.specs.Prelude.{IfOk}
use Rattle.dg_values.specs.declared.value.Value.TheVariants.{Int}
use Rattle.dg_check.specs.declared.parts.Func.TheVariants as funcs
use Rattle.dg_check.specs.declared.parts.Of.TheVariants as part
use Rattle.dg_funcs.specs.Roots.{root_nodes}
use Rattle.dg_funcs.specs.Numbers.{standing}
use Rattle.dg_funcs.proofs.NumberLaws.{number_root}
use Rattle.dg_funcs.proofs.numbers.root_by_number.Goals as goal

pub returns-in-Int : goal.returns-in-Int
returns-in-Int g c =
    let graph = g.S.Snapshot.graph c.args.snap.now in
    let vars = c.args.vars.now.variables in
    let edge = c.args.edge.now in
    let op = c.args.op in
    let kind = c.requires.count.0 in
    let n = c.in-Int.n in
    let same : c.args.func.now ≡ funcs.Cmp op (part.Count edge) kind (Int n ∷ []) = c.requires.count.1 ∙ λ i. funcs.Cmp op (part.Count edge) kind (c.in-Int.is i ∷ []) in
    let back = sym same in
    let e : standing graph edge op n ≡ root_nodes graph vars c.args.func.now = number_root graph edge vars op kind n ∙ λ i. root_nodes graph vars (back i) in
    subst (λ (ys : List ℕ). IfOk c.standing.result (λ uids. uids ≡ ys)) e c.standing.ensures
