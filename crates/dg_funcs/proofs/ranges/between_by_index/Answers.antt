use Rattle.std.proofs.Common.{◌≡◌, ℕ, List, sym, subst, ◌∙◌}
use Rattle.std.specs.Prelude.{IfOk, IfSome, filter, Option, Some}
use Rattle.dg_values.specs.declared.value.Value.{Value}
use Rattle.dg_graph.specs.Lookups.{by_token_range}
use Rattle.dg_check.specs.declared.parts.Func.{Func}
use Rattle.dg_funcs.specs.Truth.{holds_at}
use Rattle.dg_funcs.specs.Roots.{root_nodes}
use Rattle.dg_funcs.specs.Filed.{filed_as, IsInYears}
use Rattle.dg_funcs.proofs.RangeLaws.{between_root}
use Rattle.dg_funcs.proofs.ranges.between_by_index.Goals as goal

pub returns-in-Some-to : goal.returns-in-Some-to
returns-in-Some-to g c =
    let graph = g.S.Snapshot.graph c.args.snap.now in
    let vars = c.args.vars.now.variables in
    let p = c.args.p.now in
    let tokenizer = c.args.tokenizer in
    let a = c.args.low.now in
    let b = c.args.high.now in
    let x = c.in-Some.from in
    let y = c.in-Some-to.to in
    let first : filed_as tokenizer a ≡ Some x = sym c.in_ok-from.ensures.value ∙ c.in-Some.is in
    let last : filed_as tokenizer b ≡ Some y = sym c.in_ok-to.ensures.value ∙ c.in-Some-to.is in
    let i : IsInYears a = subst (λ (o : Option Value). IfSome o (λ w. IsInYears a)) c.in-Some.is c.in_ok-from.ensures.years in
    let j : IsInYears b = subst (λ (o : Option Value). IfSome o (λ w. IsInYears b)) c.in-Some-to.is c.in_ok-to.ensures.years in
    let e : filter (λ n. holds_at graph vars n c.args.func.now) (by_token_range graph p tokenizer (Some x) (Some y)) ≡ root_nodes graph vars c.args.func.now =
    subst (λ (f : Func). filter (λ n. holds_at graph vars n f) (by_token_range graph p tokenizer (Some x) (Some y)) ≡ root_nodes graph vars f) (sym c.requires.between.1)
    (between_root graph p vars c.requires.between.0 tokenizer a b x y first last i j) in
    subst (λ (ys : List ℕ). IfOk c.held_in_range.result (λ uids. uids ≡ ys)) e c.held_in_range.ensures
