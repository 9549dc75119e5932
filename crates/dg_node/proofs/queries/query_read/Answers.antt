use Rattle.std.proofs.Common.{◌≡◌, List, None, refl, sym, subst, ◌∙◌}
use Rattle.std.specs.Prelude.{IfOk}
use Rattle.dg_schema.specs.declared.definition.PredDef.{PredDef}
use Rattle.dg_parse.specs.declared.query.Query.{Query}
use Rattle.dg_check.specs.Faults.{fault_of}
use Rattle.dg_check.specs.Outcomes.{IsFaultOf}
use Rattle.dg_wire.specs.declared.reply.Reply.{Reply}
use Rattle.dg_txn.specs.Own.{graph}
use Rattle.dg_node.specs.Machine.{Machine}
use Rattle.dg_node.specs.Queries.{answer_or_fault}
use Rattle.dg_node.proofs.Seeing.{clean_answered, fault_answered, found_fault}
use Rattle.dg_node.proofs.queries.query_read.Goals as goal

pub returns-in-Ok-clause-answered : goal.returns-in-Ok-clause-answered
returns-in-Ok-clause-answered g c = λ lawful m.
    let sid = c.args.sid in
    let query = c.args.query in
    let schema = c.args.txn.now.schema in
    let clean : fault_of schema query ≡ None = (λ i. fault_of (sym c.schema.ensures i) query) ∙ c.in-Ok.ensures.none refl in
    clean_answered (g.P.Patterns.refused c.check.new.patterns) m sid schema (graph c.args.txn.now) c.answer.result query clean
    (subst (λ (q : Query). IfOk c.answer.result (λ p. ◌≡◌ {A = Reply × Machine} (answer_or_fault m sid schema (graph c.args.txn.now) q None) (p, m))) c.in-Ok.ensures.plan.same (c.answer.ensures lawful m))

pub returns-in-Err-clause-answered : goal.returns-in-Err-clause-answered
returns-in-Err-clause-answered g c = λ lawful m.
    let query = c.args.query in
    let schema = c.args.txn.now.schema in
    let list = g.P.Patterns.refused c.check.new.patterns in
    let fault = c.in-Err.fault in
    let there : IsFaultOf schema query list fault = subst (λ (ds : List PredDef). IsFaultOf ds query list fault) c.schema.ensures c.in-Err.ensures.fault in
    fault_answered list m c.args.sid schema (graph c.args.txn.now) c.refused_check.result query fault
    (found_fault c.refused_check.result schema query list fault there c.refused_check.ensures.found) c.refused_check.ensures.refused
