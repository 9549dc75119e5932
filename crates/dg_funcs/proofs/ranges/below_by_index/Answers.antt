use Rattle.std.proofs.Common.{◌≡◌, ℕ, List, [], ◌∷◌, sym, ap, subst, ◌∙◌}
use Rattle.std.specs.Prelude.{IfOk, IfSome, filter, Option, Some, None}
use Rattle.dg_values.specs.declared.value.Value.{Value}
use Rattle.dg_values.specs.declared.value.Value.TheVariants.{Time}
use Rattle.dg_values.specs.Instant.{IsInstant}
use Rattle.dg_graph.specs.Lookups.{by_token_range}
use Rattle.dg_check.specs.declared.parts.Func.{Func}
use Rattle.dg_check.specs.declared.parts.Func.TheVariants as funcs
use Rattle.dg_check.specs.declared.parts.Of.TheVariants as part
use Rattle.dg_funcs.specs.Truth.{holds_at}
use Rattle.dg_funcs.specs.Roots.{root_nodes}
use Rattle.dg_funcs.specs.Filed.{filed_as, IsInYears}
use Rattle.dg_funcs.proofs.RangeLaws.{before_root}
use Rattle.dg_funcs.proofs.ranges.below_by_index.Goals as goal

pub returns-in-Some : goal.returns-in-Some
returns-in-Some g c lawful =
    let schema = g.S.Snapshot.declared c.args.snap.now in
    let graph = g.S.Snapshot.graph c.args.snap.now in
    let vars = c.args.vars.now.variables in
    let p = c.args.p.now in
    let tokenizer = c.args.tokenizer in
    let op = c.args.op in
    let kind = c.requires.given.0 in
    let m = c.requires.moment.0 in
    let x = c.in-Some.to in
    let filed : filed_as tokenizer (Time m) ≡ Some x = ap (filed_as tokenizer) (sym c.requires.moment.1) ∙ (sym c.in_ok-to.ensures.value ∙ c.in-Some.is) in
    let years : IsInYears c.args.given.now = subst (λ (o : Option Value). IfSome o (λ w. IsInYears c.args.given.now)) c.in-Some.is c.in_ok-to.ensures.years in
    let i : IsInstant m = subst IsInYears c.requires.moment.1 years in
    let same : c.args.func.now ≡ funcs.Cmp op (part.Pred p) kind (Time m ∷ []) = c.requires.given.1 ∙ ap (λ v. funcs.Cmp op (part.Pred p) kind (v ∷ [])) c.requires.moment.1 in
    let e : filter (λ n. holds_at graph vars n c.args.func.now) (by_token_range graph p tokenizer None (Some x)) ≡ root_nodes graph vars c.args.func.now =
    subst (λ (f : Func). filter (λ n. holds_at graph vars n f) (by_token_range graph p tokenizer None (Some x)) ≡ root_nodes graph vars f) (sym same)
    (before_root graph p vars kind schema lawful c.requires.moments op c.requires.below tokenizer m x filed i) in
    subst (λ (ys : List ℕ). IfOk c.held_in_range.result (λ uids. uids ≡ ys)) e c.held_in_range.ensures
