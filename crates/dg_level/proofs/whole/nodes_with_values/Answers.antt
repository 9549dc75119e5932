use Rattle.std.proofs.Common.{sym, ap, ◌∙◌, subst, ◌≡◌}
use Rattle.std.specs.Prelude.{Option, IfOk, filter, option_copied}
use Rattle.dg_schema.specs.declared.definition.PredDef.{PredDef}
use Rattle.dg_graph.specs.Graphs.{objects}
use Rattle.dg_parse.specs.declared.query.QItem.TheVariants as items
use Rattle.dg_level.specs.declared.left.Left.{Left}
use Rattle.dg_level.specs.Answers.{shown}
use Rattle.dg_level.specs.Left.{IsLeft, unknown}
use Rattle.dg_level.specs.Shown.{some_trees}
use Rattle.dg_level.proofs.WholeLaws.{none_pass}
use Rattle.dg_level.proofs.whole.nodes_with_values.Goals as goal

pub returns-in-None-clause-nodes : goal.returns-in-None-clause-nodes
returns-in-None-clause-nodes g c =
    let graph = g.S.Snapshot.graph c.args.snap.now in
    let pred = c.args.pred.now in
    c.with_nodes.ensures.0
    ∙ (c.no_nodes.ensures ∙ none_pass (λ n. some_trees (shown (option_copied c.args.definition) (objects graph pred n))) (λ n i. some_trees (shown (option_copied (c.in-None.is i)) (objects graph pred n))) c.args.nodes.now)

pub returns-in-None-clause-left : goal.returns-in-None-clause-left
returns-in-None-clause-left g c = λ schema vars e args dirs fields k is.
    let q = items.Edge e args dirs fields in
    subst (λ (l : Left). IsLeft schema (g.S.Snapshot.graph c.args.snap.now) vars q k c.args.nodes.now l) (sym c.with_nodes.ensures.1) (unknown q k c.args.nodes.now)

pub returns-in-Some-clause-nodes : goal.returns-in-Some-clause-nodes
returns-in-Some-clause-nodes g c =
    let graph = g.S.Snapshot.graph c.args.snap.now in
    subst (λ (o : Option PredDef). IfOk c.nodes_read.result (λ with. with.nodes ≡ filter (λ n. some_trees (shown o (objects graph c.args.pred.now n))) c.args.nodes.now)) (sym (ap option_copied c.in-Some.is))
    (c.nodes_read.ensures.nodes _)
