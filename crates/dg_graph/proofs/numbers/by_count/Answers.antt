use Rattle.std.proofs.Common.{◌≡◌, ◌<◌, ◌≤◌, [], ◌∷◌, ◌++◌, length, get_or, sym, ap, ◌∙◌, arith}
use Rattle.std.specs.Prelude.{filter}
use Rattle.std.specs.Ordering.{nat_cmp}
use Rattle.std.proofs.lemmas.List.{take_all}
use Rattle.dg_values.specs.Ascending.{ascending}
use Rattle.dg_sets.proofs.MadeOrders.{nat_order}
use Rattle.dg_graph.specs.Lookups.{has_number, by_count}
use Rattle.dg_graph.proofs.Passing.{ascending_same, filter_some, filter_none}
use Rattle.dg_graph.proofs.LookUpLaws.{by_count_ascend}
use Rattle.dg_graph.proofs.numbers.by_count.Goals as goal
use Rattle.dg_graph.proofs.numbers.by_count.Goals.{then-branch+in_ok-push, else-branch}

pub returns : goal.returns
returns c =
    let xs = c.as_slice-n-items.result.now in
    let i = c.loop-n.n-index in
    let test = has_number c.args.graph.now c.args.p.now c.args.reverse c.args.low c.args.high in
    let past : length xs ≤ i = omega (arith, c.loop-n-test.false) in
    let all : c.loop-n.found.items ≡ by_count c.args.graph.now c.args.p.now c.args.reverse c.args.low c.args.high =
    c.loop-n.invariant ∙ (ap (filter test) (take_all i xs past) ∙ ap (filter test) (c.as_slice-n-items.ensures.items ∙ c.in_ok-nodes.ensures)) in
    c.gathered.ensures.nodes ∙ (ap (ascending nat_cmp) all
    ∙ ascending_same nat_cmp nat_order (by_count c.args.graph.now c.args.p.now c.args.reverse c.args.low c.args.high) (by_count_ascend c.args.graph.now c.args.p.now c.args.reverse c.args.low c.args.high))

pub loop-n-preserved : goal.loop-n-preserved
loop-n-preserved c =
    let xs = c.as_slice-n-items.result.now in
    let i = c.loop-n.n-index in
    let test = has_number c.args.graph.now c.args.p.now c.args.reverse c.args.low c.args.high in
    let lt : i < length xs = omega (arith, c.loop-n-test.true) in
    let it : c.in_ok-has_number.field-0 ≡ test (get_or xs i 0) = c.in_ok-has_number.ensures in
    elim c.if-branch.branch [
      | then-branch+in_ok-push w ↦ rw w.found-is (w.in_ok-push.ensures.items ∙ (ap (λ ys. ys ++ get_or xs i 0 ∷ []) c.loop-n.invariant ∙ sym (filter_some test xs i 0 lt (sym it ∙ w.if-branch.true))))
      | else-branch w ↦ rw w.found-is (c.loop-n.invariant ∙ sym (filter_none test xs i 0 lt (sym it ∙ w.if-branch.false)))
    ]
