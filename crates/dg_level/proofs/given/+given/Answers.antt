use Rattle.std.proofs.Common.{◌≡◌, ◌++◌, List, ap, subst, ◌∙◌}
use Rattle.std.specs.Prelude.{Some, OnOk}
use Rattle.dg_parse.specs.declared.query.QItem.TheVariants as items
use Rattle.dg_check.specs.declared.parts.Item.TheViews.{out-Item}
use Rattle.dg_level.specs.Given.{Known}
use Rattle.dg_level.specs.Defining.{item_gives, edge_gives}
use Rattle.dg_level.proofs.GivenLaws.{gives_edge}
use Rattle.dg_level.proofs.given.+given.Goals as goal

pub push_item-returns-in-Some : goal.push_item-returns-in-Some
push_item-returns-in-Some g t c =
    let schema = g.S.Snapshot.declared c.args.snap.now in
    let graph = g.S.Snapshot.graph c.args.snap.now in
    let vars = c.args.vars.now.variables in
    let item = c.args.item.now in
    let kept = c.args.kept.now in
    let b = c.in-Edge in
    let braces = c.in-Some.braces in
    let is : item ≡ items.Edge b.edge b.args b.dirs (Some braces) = b.is ∙ ap (items.Edge b.edge b.args b.dirs) c.in-Some.is in
    let e : edge_gives schema graph vars b.edge c.as_slice-in-Some.result.now c.as_slice-in-Some-2.result.now c.args.var (out-Item kept) c.args.nodes.now ≡ item_gives schema graph vars item c.args.var kept c.args.nodes.now =
    (λ j. edge_gives schema graph vars b.edge (c.as_slice-in-Some.ensures j) (c.as_slice-in-Some-2.ensures j) c.args.var (out-Item kept) c.args.nodes.now)
    ∙ gives_edge schema graph vars item c.args.var kept c.args.nodes.now b.edge b.args b.dirs braces is in
    subst (λ (known : List Known). OnOk c.push_edge-in-Some.result (c.push_edge-in-Some.new.out.items ≡ c.args.out.now.items ++ known)) e c.push_edge-in-Some.ensures
