use Rattle.std.proofs.Common.{◌≡◌, ℕ, List, sym, ap, subst, ◌∙◌}
use Rattle.std.specs.Prelude.{IfOk, filter}
use Rattle.std.specs.List.{list_any}
use Rattle.std.specs.Ordering.{nat_cmp}
use Rattle.dg_values.specs.Ascending.{ascending, has}
use Rattle.dg_sets.proofs.MadeOrders.{nat_order}
use Rattle.dg_uids.specs.Sets.{common}
use Rattle.dg_tokens.specs.Terms.{terms_of}
use Rattle.dg_graph.proofs.Passing.{ascending_has}
use Rattle.regex.specs.Strings.{regex_pattern}
use Rattle.dg_check.specs.Vars.{named_nodes}
use Rattle.dg_funcs.specs.Truth.{nodes_along, texts_at, found_in, holds_at}
use Rattle.dg_funcs.specs.Tests.{has_asked}
use Rattle.dg_funcs.proofs.TestLaws.{has_terms_ascending}
use Rattle.dg_funcs.proofs.held.held.Goals as goal

pub returns-in-Uid : goal.returns-in-Uid
returns-in-Uid g c =
    let graph = g.S.Snapshot.graph c.args.snap.now in
    let vars = c.args.vars.now.variables in
    let nodes = c.args.nodes.now in
    let names = c.in-Uid.names in
    let back = sym c.in-Uid.is in
    let e : common nodes (ascending nat_cmp (named_nodes vars c.as_slice.result.now)) ≡ filter (λ n. holds_at graph vars n c.args.func.now) nodes =
    (λ i. common nodes (ascending nat_cmp (named_nodes vars (c.as_slice.ensures i))))
    ∙ ((λ i. filter (λ n. ascending_has nat_cmp nat_order (named_nodes vars names) n i) nodes) ∙ λ i. filter (λ n. holds_at graph vars n (back i)) nodes) in
    subst (λ (ys : List ℕ). IfOk c.held_named.result (λ uids. uids ≡ ys)) e c.held_named.ensures

pub returns-in_ok-asked-in-Terms : goal.returns-in_ok-asked-in-Terms
returns-in_ok-asked-in-Terms g c =
    let graph = g.S.Snapshot.graph c.args.snap.now in
    let vars = c.args.vars.now.variables in
    let nodes = c.args.nodes.now in
    let all = c.in-Terms.all in
    let asked = terms_of c.in-Terms.text in
    let back = sym c.in-Terms.is in
    let e : filter (λ n. list_any (has_asked all c.in_ok-asked-in-Terms.asked) (texts_at graph c.as_str.result.now n)) nodes ≡ filter (λ n. holds_at graph vars n c.args.func.now) nodes =
    (λ i. filter (λ n. list_any (has_asked all (c.in_ok-asked-in-Terms.ensures i)) (texts_at graph (c.as_str.ensures i) n)) nodes)
    ∙ ((λ i. filter (λ n. list_any (λ t. has_terms_ascending all asked (terms_of t) i) (texts_at graph c.in-Terms.pred n)) nodes)
    ∙ λ i. filter (λ n. holds_at graph vars n (back i)) nodes) in
    subst (λ (ys : List ℕ). IfOk c.held_terms.result (λ uids. uids ≡ ys)) e c.held_terms.ensures

pub returns-in-Regexp : goal.returns-in-Regexp
returns-in-Regexp g c =
    let graph = g.S.Snapshot.graph c.args.snap.now in
    let vars = c.args.vars.now.variables in
    let nodes = c.args.nodes.now in
    let back = sym c.in-Regexp.is in
    let e : filter (λ n. list_any (found_in (regex_pattern c.deref.result.now)) (texts_at graph c.as_str-in-Regexp.result.now n)) nodes ≡ filter (λ n. holds_at graph vars n c.args.func.now) nodes =
    (λ i. filter (λ n. list_any (found_in (regex_pattern (c.deref.ensures i))) (texts_at graph (c.as_str-in-Regexp.ensures i) n)) nodes)
    ∙ λ i. filter (λ n. holds_at graph vars n (back i)) nodes in
    subst (λ (ys : List ℕ). IfOk c.held_matching.result (λ uids. uids ≡ ys)) e c.held_matching.ensures

pub returns-in-UidIn : goal.returns-in-UidIn
returns-in-UidIn g c =
    let graph = g.S.Snapshot.graph c.args.snap.now in
    let vars = c.args.vars.now.variables in
    let nodes = c.args.nodes.now in
    let names = c.in-UidIn.uids in
    let edge = c.in-UidIn.edge in
    let back = sym c.in-UidIn.is in
    let e : filter (λ n. list_any (has nat_cmp (ascending nat_cmp (named_nodes vars c.as_slice-in-UidIn.result.now))) (nodes_along graph edge n)) nodes ≡ filter (λ n. holds_at graph vars n c.args.func.now) nodes =
    (λ i. filter (λ n. list_any (has nat_cmp (ascending nat_cmp (named_nodes vars (c.as_slice-in-UidIn.ensures i)))) (nodes_along graph edge n)) nodes)
    ∙ ((λ i. filter (λ n. list_any (λ m. ascending_has nat_cmp nat_order (named_nodes vars names) m i) (nodes_along graph edge n)) nodes)
    ∙ λ i. filter (λ n. holds_at graph vars n (back i)) nodes) in
    subst (λ (ys : List ℕ). IfOk c.held_leading_to.result (λ uids. uids ≡ ys)) e c.held_leading_to.ensures
