use Rattle.std.proofs.Common.{◌≡◌, ℕ, true, List, sym, subst}
use Rattle.std.specs.Prelude.{IfOk, IfSome, filter, Option, Some, None}
use Rattle.dg_values.specs.declared.kind.Tokenizer.{Tokenizer}
use Rattle.dg_graph.specs.Lookups.{by_token_range}
use Rattle.dg_check.specs.declared.parts.Func.{Func}
use Rattle.dg_funcs.specs.Truth.{holds_at}
use Rattle.dg_funcs.specs.Roots.{root_nodes}
use Rattle.dg_funcs.specs.Kinds.{declared_kind, keeps}
use Rattle.dg_funcs.proofs.RangeLaws.{above_root}
use Rattle.dg_funcs.proofs.ranges.root_above.Goals as goal

pub returns-in-Some : goal.returns-in-Some
returns-in-Some g c lawful =
    let graph = g.S.Snapshot.graph c.args.snap.now in
    let schema = g.S.Snapshot.declared c.args.snap.now in
    let vars = c.args.vars.now.variables in
    let p = c.args.p.now in
    let low = c.args.low.now in
    let tokenizer = c.in-Some.tokenizer in
    let own : keeps tokenizer (declared_kind schema p) ≡ true = subst (λ (o : Option Tokenizer). IfSome o (λ t. keeps t (declared_kind schema p) ≡ true)) c.in-Some.is c.own_index.ensures.own in
    let e : filter (λ n. holds_at graph vars n c.args.func.now) (by_token_range graph p tokenizer (Some low) None) ≡ root_nodes graph vars c.args.func.now =
    subst (λ (f : Func). filter (λ n. holds_at graph vars n f) (by_token_range graph p tokenizer (Some low) None) ≡ root_nodes graph vars f) (sym c.requires.given.1)
    (above_root graph p vars c.requires.given.0 schema lawful tokenizer own c.args.op low c.requires.above) in
    subst (λ (ys : List ℕ). IfOk c.held_in_range.result (λ uids. uids ≡ ys)) e c.held_in_range.ensures
