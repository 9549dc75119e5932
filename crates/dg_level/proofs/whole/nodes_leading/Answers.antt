use Rattle.std.proofs.Common.{◌≡◌, ℕ, ◌<◌, ◌≤◌, [], ◌∷◌, ◌++◌, map, length, get_or, ap, sym, ◌∙◌, arith}
use Rattle.std.specs.List.{list_any}
use Rattle.std.specs.Ordering.{nat_cmp}
use Rattle.dg_values.specs.Ascending.{has}
use Rattle.dg_graph.proofs.Passing.{filter_some, filter_none}
use Rattle.dg_funcs.proofs.IndexLaws.{gathered_is}
use Rattle.dg_level.proofs.WritingLaws.{node_at}
use Rattle.dg_level.proofs.whole.nodes_leading.Goals as goal
use Rattle.dg_level.proofs.whole.nodes_leading.Goals.{then-has_one+in_ok-push, else-has_one}

pub returns : goal.returns
returns c = λ list are.
    let xs = c.as_slice-uids.result.now in
    let i = c.loop-place.place in
    let past : length xs ≤ i = omega (arith, c.loop-place-test.false) in
    let lists : c.args.lists.now ≡ map list xs = are ∙ ap (map list) (sym c.as_slice-uids.ensures.items) in
    c.gathered.ensures.nodes
    ∙ gathered_is (λ n. list_any (has nat_cmp c.args.whole.now) (list n)) c.loop-place.found.items xs c.args.nodes.now i (c.loop-place.invariant list lists) past c.as_slice-uids.ensures.items c.as_slice-uids.ensures.ascend

pub loop-place-preserved : goal.loop-place-preserved
loop-place-preserved c = λ list are.
    let xs = c.as_slice-uids.result.now in
    let i = c.loop-place.place in
    let test = λ (n : ℕ). list_any (has nat_cmp c.args.whole.now) (list n) in
    let lt : i < length xs = omega (arith, c.loop-place-test.true) in
    let it : c.has_one.result ≡ test (get_or xs i 0) = c.has_one.ensures ∙ ap (list_any (has nat_cmp c.args.whole.now)) (c.list_at.ensures list xs (get_or xs i 0) are (node_at xs i 0 lt)) in
    elim c.if-has_one.branch [
      | then-has_one+in_ok-push w ↦ rw w.found-is (w.in_ok-push.ensures.items ∙ (ap (λ ys. ys ++ get_or xs i 0 ∷ []) (c.loop-place.invariant list are) ∙ sym (filter_some test xs i 0 lt (sym it ∙ w.if-has_one.true))))
      | else-has_one w ↦ rw w.found-is (c.loop-place.invariant list are ∙ sym (filter_none test xs i 0 lt (sym it ∙ w.if-has_one.false)))
    ]
