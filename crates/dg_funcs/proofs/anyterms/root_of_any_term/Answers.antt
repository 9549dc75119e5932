use Rattle.std.proofs.Common.{◌≡◌, ℕ, List, map, sym, subst, ◌∙◌}
use Rattle.std.specs.Prelude.{IfOk}
use Rattle.dg_values.specs.Order.{text_cmp}
use Rattle.dg_values.specs.Ascending.{ascending}
use Rattle.dg_values.specs.declared.kind.Tokenizer.TheVariants as tokenizers
use Rattle.dg_values.specs.declared.value.Value.TheVariants.{Text}
use Rattle.dg_tokens.specs.Terms.{terms_of}
use Rattle.dg_funcs.specs.Equal.{filed_nodes}
use Rattle.dg_funcs.specs.Roots.{root_nodes}
use Rattle.dg_funcs.proofs.TermLaws.{any_term_root}
use Rattle.dg_funcs.proofs.anyterms.root_of_any_term.Goals as goal

pub returns-then-is_indexed-clause-nodes : goal.returns-then-is_indexed-clause-nodes
returns-then-is_indexed-clause-nodes g c =
    let graph = g.S.Snapshot.graph c.args.snap.now in
    let vars = c.args.vars.now.variables in
    let p = c.args.p.now in
    let back = sym c.requires.any in
    let e : filed_nodes graph p tokenizers.Term (map (λ t. Text t) (ascending text_cmp (terms_of c.args.text.now))) ≡ root_nodes graph vars c.args.func.now =
    any_term_root graph p vars c.args.text.now ∙ λ i. root_nodes graph vars (back i) in
    subst (λ (ys : List ℕ). IfOk c.by_terms.result (λ uids. uids ≡ ys)) e c.by_terms.ensures.nodes
