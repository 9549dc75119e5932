use Rattle.std.proofs.Common.{◌≡◌, ℕ, List, [], Option, Some, sym, subst, ◌∙◌}
use Rattle.std.specs.Prelude.{IfOk, OnErr}
use Rattle.std.specs.Str.Lossy.{utf8_valid_len}
use Rattle.dg_parse.specs.Whole.{upsert_of}
use Rattle.dg_wire.specs.declared.refusal.Refusal.TheVariants as refusals
use Rattle.dg_wire.specs.declared.reply.Reply.{Reply}
use Rattle.dg_wire.specs.declared.reply.Reply.TheVariants as replies
use Rattle.dg_txn.specs.Own.{Transaction, graph}
use Rattle.dg_node.specs.Clusters.{Meets}
use Rattle.dg_node.specs.Sessions.{IsOpen, IsSession, Serves, session_by}
use Rattle.dg_node.specs.State.{machine_beside}
use Rattle.dg_node.specs.Steps.{MayRaise}
use Rattle.dg_node.specs.Upserts.{Upserts, UpsertsAs}
use Rattle.dg_node.proofs.Between.{none_found}
use Rattle.dg_node.proofs.Handling.{none_serves}
use Rattle.dg_node.proofs.MutationLemmas.{is_whole, not_whole}
use Rattle.dg_node.proofs.Upserting.{none_upserts, no_block_here, ok_upserted, err_upserted}
use Rattle.dg_node.proofs.upserts.upsert.Goals as goal

pub returns-in-None-clause-ok : goal.returns-in-None-clause-ok
returns-in-None-clause-ok g c =
    let sid = c.args.sid in
    let body = c.args.body.now in
    let z = g.C.Cluster.zero c.args.cluster.now in
    let list = g.P.Patterns.refused c.args.patterns.now in
    none_serves (g.C.Cluster.takes c.args.cluster.now) c.args.author sid c.args.session.now c.args.session.now z (λ m n. Upserts list m sid body c.no_session.result n) c.in-None.is c.in-None.is c.history_is_legal.ensures
    (λ ss a. subst (λ (p : Reply). Upserts list (machine_beside z ss) sid body p (machine_beside z ss)) (sym c.no_session.ensures) (none_upserts list sid body (machine_beside z ss) (none_found sid ss a)))

pub returns-in-Ok-clause-ok : goal.returns-in-Ok-clause-ok
returns-in-Ok-clause-ok g c =
    let takes = g.C.Cluster.takes c.args.cluster.now in
    let z = g.C.Cluster.zero c.args.cluster.now in
    let w = g.C.Cluster.zero c.upsert_text.new.cluster in
    let list = g.P.Patterns.refused c.upsert_text.new.patterns in
    let author = c.args.author in
    let sid = c.args.sid in
    let body = c.args.body.now in
    let txn = c.in-Some.txn in
    let new = c.upsert_text.new.txn in
    let result = c.upsert_text.result in
    let opens : IsOpen z.history author txn = subst (λ (s : Option Transaction). IsSession z author s) c.in-Some.is c.requires.session in
    subst (λ (old : Option Transaction). IfOk result (λ reply. Meets takes z w (Serves author sid old (Some new) (λ m n. Upserts list m sid body reply n)))) (sym c.in-Some.is)
    (ok_upserted takes author sid txn z w (Some new) c.requires.own opens body (is_whole body c.in-Ok.ensures.cases.1) list result
    (subst (λ (text : List ℕ). IfOk result (λ reply. Meets takes z w (Serves author sid (Some txn) (Some new) (λ m n. UpsertsAs list m (session_by sid txn) txn.schema (graph txn) (upsert_of text) reply n)))) c.in-Ok.ensures.cases.0 c.upsert_text.ensures.ok))

pub returns-in-Ok-clause-err : goal.returns-in-Ok-clause-err
returns-in-Ok-clause-err g c =
    let takes = g.C.Cluster.takes c.args.cluster.now in
    let z = g.C.Cluster.zero c.args.cluster.now in
    let w = g.C.Cluster.zero c.upsert_text.new.cluster in
    let author = c.args.author in
    let sid = c.args.sid in
    let body = c.args.body.now in
    let txn = c.in-Some.txn in
    let new = c.upsert_text.new.txn in
    let result = c.upsert_text.result in
    let opens : IsOpen z.history author txn = subst (λ (s : Option Transaction). IsSession z author s) c.in-Some.is c.requires.session in
    subst (λ (old : Option Transaction). OnErr result (Meets takes z w (Serves author sid old (Some new) (MayRaise (λ m. Upserts [] m sid body))))) (sym c.in-Some.is)
    (err_upserted takes author sid txn z w (Some new) c.requires.own opens body (is_whole body c.in-Ok.ensures.cases.1) result
    (subst (λ (text : List ℕ). OnErr result (Meets takes z w (Serves author sid (Some txn) (Some new) (MayRaise (λ m. UpsertsAs [] m (session_by sid txn) txn.schema (graph txn) (upsert_of text)))))) c.in-Ok.ensures.cases.0 c.upsert_text.ensures.err))

pub returns-in-Err-clause-ok : goal.returns-in-Err-clause-ok
returns-in-Err-clause-ok g c =
    let takes = g.C.Cluster.takes c.args.cluster.now in
    let z = g.C.Cluster.zero c.args.cluster.now in
    let list = g.P.Patterns.refused c.args.patterns.now in
    let author = c.args.author in
    let sid = c.args.sid in
    let body = c.args.body.now in
    let txn = c.in-Some.txn in
    let at : utf8_valid_len body ≡ c.valid_up_to.result = sym (c.valid_up_to.ensures ∙ c.in-Err.ensures.valid_len) in
    subst (λ (old : Option Transaction). Meets takes z z (Serves author sid old (Some txn) (λ m n. Upserts list m sid body (replies.Refused (refusals.BadToken c.valid_up_to.result)) n))) (sym c.in-Some.is)
    (subst (λ (offset : ℕ). Meets takes z z (Serves author sid (Some txn) (Some txn) (λ m n. Upserts list m sid body (replies.Refused (refusals.BadToken offset)) n))) at
    (no_block_here takes author sid txn z c.history_is_legal.ensures list body (not_whole body _ c.in-Err.ensures.cases.1)))
