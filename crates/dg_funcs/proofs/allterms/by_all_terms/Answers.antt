use Rattle.std.proofs.Common.{◌≡◌, ℕ, List, map, sym, ap, subst, ◌∙◌}
use Rattle.std.specs.Prelude.{IfOk, filter}
use Rattle.dg_check.specs.declared.parts.Func.{Func}
use Rattle.dg_values.specs.Order.{text_cmp}
use Rattle.dg_values.specs.Ascending.{ascending}
use Rattle.dg_values.specs.declared.kind.Tokenizer.TheVariants as tokenizers
use Rattle.dg_values.specs.declared.value.Value.TheVariants.{Text}
use Rattle.dg_tokens.specs.Terms.{terms_of}
use Rattle.dg_funcs.specs.Truth.{holds_at}
use Rattle.dg_funcs.specs.Roots.{root_nodes}
use Rattle.dg_funcs.specs.Listed.{under_all}
use Rattle.dg_funcs.proofs.AllTermLaws.{all_terms_root}
use Rattle.dg_funcs.proofs.allterms.by_all_terms.Goals as goal

pub returns : goal.returns
returns g c =
    let graph = g.S.Snapshot.graph c.args.snap.now in
    let vars = c.args.vars.now.variables in
    let p = c.args.p.now in
    let text = c.args.text.now in
    let e : filter (λ n. holds_at graph vars n c.args.func.now) c.in_ok-nodes.nodes ≡ root_nodes graph vars c.args.func.now =
    ap (filter (λ n. holds_at graph vars n c.args.func.now)) c.in_ok-nodes.ensures.nodes
    ∙ subst (λ (f : Func). filter (λ n. holds_at graph vars n f) (under_all graph p tokenizers.Term (map (λ t. Text t) (ascending text_cmp (terms_of text)))) ≡ root_nodes graph vars f) (sym c.requires.all)
    (all_terms_root graph p vars text) in
    subst (λ (ys : List ℕ). IfOk c.held.result (λ uids. uids ≡ ys)) e c.held.ensures
