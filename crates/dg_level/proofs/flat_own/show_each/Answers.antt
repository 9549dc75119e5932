use Rattle.std.proofs.Common.{◌≡◌, ◌-◌, ◌<◌, ◌≤◌, length, get_or, rules, ap, ◌∙◌, arith}
use Rattle.std.specs.Prelude.{option_to_list}
use Rattle.dg_parse.specs.declared.query.QItem.TheViews.{out-QItem}
use Rattle.dg_check.specs.declared.parts.Item.TheViews.{out-Item}
use Rattle.dg_level.specs.Flats.{weight_in}
use Rattle.dg_level.specs.Columns.{TreesOf}
use Rattle.dg_level.specs.FlatLevels.{FlatsOf, changed, own_trees, with_trees}
use Rattle.dg_level.proofs.FlatTurns.{changed_length, all_changed, next_is, one_changed, none_for_all, used_next}
use Rattle.dg_level.proofs.flat_own.show_each.Goals as goal

pub returns-in_err-show-clause-too_large : goal.returns-in_err-show-clause-too_large
returns-in_err-show-clause-too_large g c = λ knows f before err.
    let own : TreesOf = own_trees (g.S.Snapshot.declared c.args.snap.now) (g.S.Snapshot.graph c.args.snap.now) c.args.vars.now.variables (out-QItem c.args.item.now) (out-Item c.args.kept.now) in
    let l = c.loop-place in
    let nodes = c.args.nodes.now in
    let after : FlatsOf = λ n. with_trees c.args.key.now (own n) (f n) in
    let made : l.made ≡ changed after f l.place nodes = l.invariant.0 knows f before in
    let lt : l.place < length nodes = omega (arith, c.loop-place-test.true, ap length made, changed_length after f l.place nodes) in
    let node = get_or nodes l.place 0 in
    let at : c.node_at-node.result ≡ node = c.node_at-node.ensures in
    let shown : option_to_list c.in_ok-tree.tree ≡ own node = c.in_ok-tree.ensures knows ∙ ap own at in
    let old : get_or l.made l.place c.index-made-place.result ≡ f node = (λ j. get_or (made j) l.place c.index-made-place.result) ∙ next_is after f l.place nodes c.index-made-place.result lt in
    let above = c.show.ensures.too_large (search rules) in
    let same : weight_in (with_trees c.args.key.now (option_to_list c.in_ok-tree.tree) (get_or l.made l.place c.index-made-place.result)) ≡ weight_in (after node) = λ j. weight_in (with_trees c.args.key.now (shown j) (old j)) in
    none_for_all after f weight_in l.made l.place nodes l.used 16777216 made lt l.invariant.1 (omega (arith, above, same, l.invariant.2))

pub loop-place-preserved : goal.loop-place-preserved
loop-place-preserved g c =
    let l = c.loop-place in
    let new = c.show.new.flats in
    let within : weight_in new ≤ 16777216 - l.used = c.in_ok-show.ensures.within in
    let size : c.weight-used.result ≡ weight_in new = search rules in
    let there_are : l.place < length l.made = omega (arith, c.loop-place-test.true) in (
      λ knows f before.
          let own : TreesOf = own_trees (g.S.Snapshot.declared c.args.snap.now) (g.S.Snapshot.graph c.args.snap.now) c.args.vars.now.variables (out-QItem c.args.item.now) (out-Item c.args.kept.now) in
          let nodes = c.args.nodes.now in
          let after : FlatsOf = λ n. with_trees c.args.key.now (own n) (f n) in
          let made : l.made ≡ changed after f l.place nodes = l.invariant.0 knows f before in
          let lt : l.place < length nodes = omega (arith, c.loop-place-test.true, ap length made, changed_length after f l.place nodes) in
          let node = get_or nodes l.place 0 in
          let at : c.node_at-node.result ≡ node = c.node_at-node.ensures in
          let shown : option_to_list c.in_ok-tree.tree ≡ own node = c.in_ok-tree.ensures knows ∙ ap own at in
          let old : get_or l.made l.place c.index-made-place.result ≡ f node = (λ j. get_or (made j) l.place c.index-made-place.result) ∙ next_is after f l.place nodes c.index-made-place.result lt in
          let is : new ≡ after node = c.in_ok-show.ensures.ok ∙ (λ j. with_trees c.args.key.now (shown j) (old j)) in
          one_changed after f l.made l.place nodes new made lt is,
      omega (arith, l.invariant.1, size, used_next weight_in l.made l.place new there_are),
      omega (arith, l.invariant.2, size, within),
    )

pub returns-clause-ok : goal.returns-clause-ok
returns-clause-ok g c = λ knows f before.
    let own : TreesOf = own_trees (g.S.Snapshot.declared c.args.snap.now) (g.S.Snapshot.graph c.args.snap.now) c.args.vars.now.variables (out-QItem c.args.item.now) (out-Item c.args.kept.now) in
    let l = c.loop-place in
    let after : FlatsOf = λ n. with_trees c.args.key.now (own n) (f n) in
    let made : l.made ≡ changed after f l.place c.args.nodes.now = l.invariant.0 knows f before in
    made ∙ all_changed after f l.place c.args.nodes.now (omega (arith, c.loop-place-test.false, ap length made, changed_length after f l.place c.args.nodes.now))
