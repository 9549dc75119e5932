use Rattle.std.proofs.Common.{◌≡◌, ℕ, ◌<◌, ◌≤◌, [], ◌∷◌, ◌++◌, length, get_or, ap, sym, ◌∙◌, arith}
use Rattle.std.specs.List.{list_any}
use Rattle.regex.specs.Strings.{regex_pattern}
use Rattle.dg_funcs.specs.Truth.{texts_at, found_in}
use Rattle.dg_graph.proofs.Passing.{filter_some, filter_none}
use Rattle.dg_funcs.proofs.IndexLaws.{gathered_is}
use Rattle.dg_funcs.proofs.held.held_matching.Goals as goal
use Rattle.dg_funcs.proofs.held.held_matching.Goals.{then-branch+in_ok-push, else-branch}

pub returns : goal.returns
returns g c =
    let graph = g.S.Snapshot.graph c.args.snap.now in
    let xs = c.as_slice-node-items.result.now in
    let i = c.loop-node.node-index in
    let past : length xs ≤ i = omega (arith, c.loop-node-test.false) in
    c.gathered.ensures.nodes ∙ gathered_is (λ n. list_any (found_in (regex_pattern c.args.pattern.now)) (texts_at graph c.args.p.now n)) c.loop-node.found.items xs c.args.nodes.now i
    c.loop-node.invariant.0 past c.as_slice-node-items.ensures.items c.as_slice-node-items.ensures.ascend

pub loop-node-preserved : goal.loop-node-preserved
loop-node-preserved g c =
    let graph = g.S.Snapshot.graph c.args.snap.now in
    let xs = c.as_slice-node-items.result.now in
    let i = c.loop-node.node-index in
    let test = λ (n : ℕ). list_any (found_in (regex_pattern c.args.pattern.now)) (texts_at graph c.args.p.now n) in
    let lt : i < length xs = omega (arith, c.loop-node-test.true) in
    let it : c.in_ok-node_matches.field-0 ≡ test (get_or xs i 0) = c.in_ok-node_matches.ensures.found ∙ ap (λ m. list_any (found_in m) (texts_at graph c.args.p.now (get_or xs i 0))) c.loop-node.invariant.1 in (
      (elim c.if-branch.branch [
        | then-branch+in_ok-push w ↦ rw w.found-is (w.in_ok-push.ensures.items ∙ (ap (λ ys. ys ++ get_or xs i 0 ∷ []) c.loop-node.invariant.0 ∙ sym (filter_some test xs i 0 lt (sym it ∙ w.if-branch.true))))
        | else-branch w ↦ rw w.found-is (c.loop-node.invariant.0 ∙ sym (filter_none test xs i 0 lt (sym it ∙ w.if-branch.false)))
      ]),
      c.in_ok-node_matches.ensures.same ∙ c.loop-node.invariant.1,
    )
