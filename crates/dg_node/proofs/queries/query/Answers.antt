use Rattle.std.proofs.Common.{Option, Ok, ap, sym, subst, ◌∙◌}
use Rattle.dg_wire.specs.declared.refusal.Refusal.TheVariants as refusals
use Rattle.dg_wire.specs.declared.reply.Reply.TheVariants as replies
use Rattle.dg_txn.specs.Own.{Transaction, graph}
use Rattle.dg_node.specs.Sessions.{IsOpen, IsSession}
use Rattle.dg_node.proofs.MutationLemmas.{is_whole, not_whole}
use Rattle.dg_node.proofs.Opens.{seen_lawful}
use Rattle.dg_node.proofs.Seeing.{none_sees, text_sees, text_whole, text_not_whole}
use Rattle.dg_node.proofs.queries.query.Goals as goal

pub returns-in_default-clause-answered : goal.returns-in_default-clause-answered
returns-in_default-clause-answered g c =
    none_sees _ c.args.sid c.args.body.now c.args.session.now c.no_session.result (g.C.Cluster.zero c.args.cluster.now) c.in_default.is c.no_session.ensures

pub returns-in-Ok-clause-answered : goal.returns-in-Ok-clause-answered
returns-in-Ok-clause-answered g c =
    let sid = c.args.sid in
    let body = c.args.body.now in
    let author = c.args.author in
    let zero = g.C.Cluster.zero c.args.cluster.now in
    let txn = c.in-Some.txn in
    let list = g.P.Patterns.refused c.query_text.new.patterns in
    let legal = c.history_is_legal.ensures in
    let opens : IsOpen zero.history author txn = subst (λ (s : Option Transaction). IsSession zero author s) c.in-Some.is c.requires.session in
    let lawful = seen_lawful zero.groups zero.history author txn legal opens in
    text_sees list sid body c.query_text.result c.args.session.now txn c.in-Some.is
    (λ m. text_whole list sid body c.query_text.result m txn.schema (graph txn) c.in-Ok.text.now (is_whole body c.in-Ok.ensures.cases.1) c.in-Ok.ensures.cases.0 (c.query_text.ensures.answered lawful m))
    author zero legal opens

pub returns-in-Err-clause-answered : goal.returns-in-Err-clause-answered
returns-in-Err-clause-answered g c =
    let sid = c.args.sid in
    let body = c.args.body.now in
    let author = c.args.author in
    let zero = g.C.Cluster.zero c.args.cluster.now in
    let txn = c.in-Some.txn in
    let list = g.P.Patterns.refused c.args.patterns.now in
    let legal = c.history_is_legal.ensures in
    let opens : IsOpen zero.history author txn = subst (λ (s : Option Transaction). IsSession zero author s) c.in-Some.is c.requires.session in
    text_sees list sid body {E = Unit {0}} (Ok (replies.Refused (refusals.BadToken c.valid_up_to.result))) c.args.session.now txn c.in-Some.is
    (λ m. text_not_whole list sid body m txn.schema (graph txn) (replies.Refused (refusals.BadToken c.valid_up_to.result)) (not_whole body _ c.in-Err.ensures.cases.1)
    (ap (λ n. replies.Refused (refusals.BadToken n)) (c.valid_up_to.ensures ∙ c.in-Err.ensures.valid_len)))
    author zero legal opens
