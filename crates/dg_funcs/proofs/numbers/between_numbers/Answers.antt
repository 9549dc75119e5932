use Rattle.std.proofs.Common.{◌≡◌, ℕ, List, [], ◌∷◌, sym, subst, ◌∙◌}
use Rattle.std.specs.Prelude.{◌&&◌, IfOk}
use Rattle.std.specs.Ordering.{int_cmp, is_le, is_ge}
use Rattle.dg_values.specs.declared.value.Value.TheVariants.{Int}
use Rattle.dg_check.specs.declared.parts.Func.TheVariants as funcs
use Rattle.dg_check.specs.declared.parts.Of.TheVariants as part
use Rattle.dg_funcs.specs.Roots.{root_nodes}
use Rattle.dg_funcs.specs.Numbers.{numbered}
use Rattle.dg_funcs.proofs.NumberLaws.{between_numbers_root}
use Rattle.dg_funcs.proofs.numbers.between_numbers.Goals as goal

pub returns-in-Int-high : goal.returns-in-Int-high
returns-in-Int-high g c =
    let graph = g.S.Snapshot.graph c.args.snap.now in
    let vars = c.args.vars.now.variables in
    let edge = c.args.edge.now in
    let kind = c.requires.count.0 in
    let a = c.in-Int.from in
    let b = c.in-Int-high.to in
    let same : c.args.func.now ≡ funcs.Between (part.Count edge) kind (Int a ∷ Int b ∷ []) = c.requires.count.1 ∙ λ i. funcs.Between (part.Count edge) kind (c.in-Int.is i ∷ c.in-Int-high.is i ∷ []) in
    let back = sym same in
    let e : numbered graph edge (λ k. is_ge (int_cmp k a) && is_le (int_cmp k b)) ≡ root_nodes graph vars c.args.func.now =
    between_numbers_root graph edge vars kind a b ∙ λ i. root_nodes graph vars (back i) in
    subst (λ (ys : List ℕ). IfOk c.between.result (λ uids. uids ≡ ys)) e c.between.ensures
