use Rattle.std.proofs.Common.{◌≡◌, ℕ, ◌-◌, List, drop, take, length, subst, ◌∙◌}
use Rattle.std.specs.Prelude.{IfOk, filter}
use Rattle.std.specs.List.{list_all}
use Rattle.dg_funcs.specs.Listed.{is_under, under_all}
use Rattle.dg_funcs.proofs.AllTermLaws.{under_split}
use Rattle.dg_funcs.proofs.allterms.under_all.Goals as goal

pub returns-in_ok-nodes-in-len1-up-clause-nodes : goal.returns-in_ok-nodes-in-len1-up-clause-nodes
returns-in_ok-nodes-in-len1-up-clause-nodes g c =
    let graph = g.S.Snapshot.graph c.args.snap.now in
    let p = c.args.p.now in
    let tokenizer = c.args.tokenizer in
    let values = c.args.values.now in
    let e : filter (λ n. list_all (is_under graph p tokenizer n) (take (length values - 1) (drop 1 values))) c.in_ok-nodes-in-len1-up.nodes ≡ under_all graph p tokenizer values =
    (λ i. filter (λ n. list_all (is_under graph p tokenizer n) (take (length values - 1) (drop 1 values))) (c.in_ok-nodes-in-len1-up.ensures.nodes i))
    ∙ under_split graph p tokenizer values c.first-item.result c.in-len1-up.len_at_least c.first-item.is in
    subst (λ (ys : List ℕ). IfOk c.also_under.result (λ uids. uids ≡ ys)) e c.also_under.ensures.nodes
