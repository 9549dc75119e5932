use Rattle.std.proofs.Common.{◌≡◌, List, map, take, sym, ◌∙◌}
use Rattle.dg_edges.specs.Lists.{Lists, changed_at, lists_after}
use Rattle.dg_edges.proofs.ListLaws.{one_change_more}
use Rattle.dg_edges.proofs.lists.lists_of.Goals as goal

pub loop-change-preserved : goal.loop-change-preserved
loop-change-preserved g c =
    let graph = g.S.Snapshot.graph c.args.snap.now in
    let schema = g.S.Snapshot.declared c.args.snap.now in
    let before = lists_after schema graph (take c.loop-change.change-index c.args.changes.now) in
    let made : c.change_at.new.lists.items ≡ map (λ k. changed_at schema c.change-item.result k (before k)) c.args.keys.now = ◌∙◌ {A = List Lists} (c.in_ok-change_at.ensures before c.loop-change.invariant) (λ i. map (λ k. changed_at (c.schema.ensures i) c.change-item.result k (before k)) c.args.keys.now) in
    ◌∙◌ {A = List Lists} made (one_change_more schema graph c.args.changes.now c.loop-change.change-index c.change-item.result c.args.keys.now c.loop-change-test.true (sym c.change-item.is))
