use Rattle.std.proofs.Common.{◌≡◌, ℕ, ◌<◌, ◌≤◌, Bool, true, List, map, length, get_or, sym, ap, ◌∙◌, arith}
use Rattle.std.specs.Prelude.{filter}
use Rattle.std.proofs.lemmas.List.{take_all}
use Rattle.dg_values.specs.declared.value.Value.{Value}
use Rattle.dg_funcs.proofs.IndexLaws.{gathered_is}
use Rattle.dg_level.specs.Answers.{values_shown}
use Rattle.dg_level.specs.Known.{values_by}
use Rattle.dg_level.specs.Shown.{some_trees}
use Rattle.dg_level.proofs.LeftLaws.{learned_values}
use Rattle.dg_level.proofs.WholeLaws.{one_noted}
use Rattle.dg_level.proofs.whole.nodes_read.Goals as goal

pub loop-node-preserved : goal.loop-node-preserved
loop-node-preserved g c =
    let l = c.loop-node in
    let xs = c.as_slice-node-items.result.now in
    let f : ℕ → List Value = values_by (g.S.Snapshot.graph c.args.snap.now) c.args.pred.now in
    let lt : l.node-index < length xs = omega (arith, c.loop-node-test.true) in
    let same : c.in_ok-here.here.items ≡ f (get_or xs l.node-index 0) = c.in_ok-here.ensures in (
      λ list. one_noted (λ n. some_trees (values_shown list (f n))) xs l.node-index l.found.items c.note.new.found.items lt (l.invariant.0 list) (c.in_ok-note.ensures.found list f same),
      c.in_ok-note.ensures.all f same l.invariant.1,
    )

pub returns-clause-nodes : goal.returns-clause-nodes
returns-clause-nodes g c = λ list.
    let l = c.loop-node in
    let xs = c.as_slice-node-items.result.now in
    let f : ℕ → List Value = values_by (g.S.Snapshot.graph c.args.snap.now) c.args.pred.now in
    let past : length xs ≤ l.node-index = omega (arith, c.loop-node-test.false) in
    c.in_ok-copy.ensures
    ∙ (c.gathered-of.ensures.nodes
    ∙ gathered_is (λ n. some_trees (values_shown list (f n))) l.found.items xs c.args.nodes.now l.node-index (l.invariant.0 list) past c.as_slice-node-items.ensures.items c.as_slice-node-items.ensures.ascend)

pub returns-clause-left : goal.returns-clause-left
returns-clause-left g c = λ schema vars e args dirs fields k is.
    let l = c.loop-node in
    let xs = c.as_slice-node-items.result.now in
    let graph = g.S.Snapshot.graph c.args.snap.now in
    let f : ℕ → List Value = values_by graph c.args.pred.now in
    let p : ℕ → Bool = λ n. some_trees (values_shown true (f n)) in
    let past : length xs ≤ l.node-index = omega (arith, c.loop-node-test.false) in
    let of : c.gathered-of.result ≡ filter p c.args.nodes.now =
    c.gathered-of.ensures.nodes ∙ gathered_is p l.found.items xs c.args.nodes.now l.node-index (l.invariant.0 true) past c.as_slice-node-items.ensures.items c.as_slice-node-items.ensures.ascend in
    let found : l.found.items ≡ filter p c.args.nodes.now = l.invariant.0 true ∙ (ap (filter p) (take_all l.node-index xs past) ∙ ap (filter p) c.as_slice-node-items.ensures.items) in
    learned_values schema graph vars e args dirs fields k c.args.nodes.now c.gathered-of.result l.values c.args.pred.now is (l.invariant.1 ∙ ap (map f) (found ∙ sym of))
