use Rattle.std.proofs.Common.{sym, subst}
use Rattle.std.specs.Prelude.{IfOk}
use Rattle.dg_level.specs.Columns.{TreesOf, ShowsBy}
use Rattle.dg_level.specs.Known.{values_by}
use Rattle.dg_level.proofs.LeftLaws.{unknown_values}
use Rattle.dg_level.proofs.LoopLaws.{own_val, own_edge}
use Rattle.dg_level.proofs.looped.own_content.Goals as goal

pub returns-in-Val : goal.returns-in-Val
returns-in-Val g c = λ vars nodes.
    let schema = g.S.Snapshot.declared c.args.snap.now in
    let graph = g.S.Snapshot.graph c.args.snap.now in
    subst (λ (shown : TreesOf). ShowsBy graph vars nodes c.value_content.result shown) (sym (own_val schema graph vars c.args.item.now c.args.kept.now c.in-Val.field-0 c.in-Val.is)) (c.value_content.ensures.shows graph vars nodes)

pub returns-in-Edge : goal.returns-in-Edge
returns-in-Edge g c = λ vars nodes.
    let schema = g.S.Snapshot.declared c.args.snap.now in
    let graph = g.S.Snapshot.graph c.args.snap.now in
    let b = c.in-Edge in
    subst (λ (shown : TreesOf). IfOk c.bare_content.result (λ content. ShowsBy graph vars nodes content shown)) (sym (own_edge schema graph vars c.args.item.now c.args.kept.now b.edge b.args b.dirs b.fields b.is)) (c.bare_content.ensures.shows vars nodes (unknown_values (values_by graph b.edge.pred)))
