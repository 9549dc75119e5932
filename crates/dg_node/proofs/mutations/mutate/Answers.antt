use Rattle.std.proofs.Common.{◌≡◌, ℕ, List, Option, Some, sym, subst, ◌∙◌}
use Rattle.std.specs.Prelude.{IfOk, OnErr}
use Rattle.std.specs.Str.Lossy.{utf8_valid_len}
use Rattle.dg_nquad.specs.Whole.{mutation}
use Rattle.dg_wire.specs.declared.refusal.Refusal.TheVariants as refusals
use Rattle.dg_wire.specs.declared.reply.Reply.{Reply}
use Rattle.dg_wire.specs.declared.reply.Reply.TheVariants as replies
use Rattle.dg_txn.specs.Own.{Transaction}
use Rattle.dg_node.specs.Clusters.{Meets}
use Rattle.dg_node.specs.Mutations.{Mutates, MutatesAs}
use Rattle.dg_node.specs.Sessions.{Serves, session_by}
use Rattle.dg_node.specs.State.{machine_beside}
use Rattle.dg_node.specs.Steps.{MayRaise}
use Rattle.dg_node.proofs.Between.{none_found}
use Rattle.dg_node.proofs.Handling.{none_serves}
use Rattle.dg_node.proofs.MutationLemmas.{is_whole, not_whole}
use Rattle.dg_node.proofs.Leasing.{none_mutates, no_text_here, ok_found, err_found}
use Rattle.dg_node.proofs.mutations.mutate.Goals as goal

pub returns-in-None-clause-ok : goal.returns-in-None-clause-ok
returns-in-None-clause-ok g c =
    let sid = c.args.sid in
    let body = c.args.body.now in
    let z = g.C.Cluster.zero c.args.cluster.now in
    none_serves (g.C.Cluster.takes c.args.cluster.now) c.args.author sid c.args.session.now c.args.session.now z (λ m n. Mutates m sid body c.no_session.result n) c.in-None.is c.in-None.is c.history_is_legal.ensures
    (λ ss a. subst (λ (p : Reply). Mutates (machine_beside z ss) sid body p (machine_beside z ss)) (sym c.no_session.ensures) (none_mutates sid body (machine_beside z ss) (none_found sid ss a)))

pub returns-in-Ok-clause-ok : goal.returns-in-Ok-clause-ok
returns-in-Ok-clause-ok g c =
    let takes = g.C.Cluster.takes c.args.cluster.now in
    let z = g.C.Cluster.zero c.args.cluster.now in
    let w = g.C.Cluster.zero c.mutate_by.new.cluster in
    let author = c.args.author in
    let sid = c.args.sid in
    let body = c.args.body.now in
    let txn = c.in-Some.txn in
    let new = c.mutate_by.new.txn in
    let result = c.mutate_by.result in
    subst (λ (old : Option Transaction). IfOk result (λ reply. Meets takes z w (Serves author sid old (Some new) (λ m n. Mutates m sid body reply n)))) (sym c.in-Some.is)
    (ok_found takes author sid txn z c.history_is_legal.ensures body w new (is_whole body c.in-Ok.ensures.cases.1) result
    (subst (λ (text : List ℕ). IfOk result (λ reply. Meets takes z w (Serves author sid (Some txn) (Some new) (λ m n. MutatesAs m (session_by sid txn) (mutation text) reply n)))) c.in-Ok.ensures.cases.0 c.mutate_by.ensures.ok))

pub returns-in-Ok-clause-err : goal.returns-in-Ok-clause-err
returns-in-Ok-clause-err g c =
    let takes = g.C.Cluster.takes c.args.cluster.now in
    let z = g.C.Cluster.zero c.args.cluster.now in
    let w = g.C.Cluster.zero c.mutate_by.new.cluster in
    let author = c.args.author in
    let sid = c.args.sid in
    let body = c.args.body.now in
    let txn = c.in-Some.txn in
    let new = c.mutate_by.new.txn in
    let result = c.mutate_by.result in
    subst (λ (old : Option Transaction). OnErr result (Meets takes z w (Serves author sid old (Some new) (MayRaise (λ m. Mutates m sid body))))) (sym c.in-Some.is)
    (err_found takes author sid txn z c.history_is_legal.ensures body w new (is_whole body c.in-Ok.ensures.cases.1) result
    (subst (λ (text : List ℕ). OnErr result (Meets takes z w (Serves author sid (Some txn) (Some new) (MayRaise (λ m. MutatesAs m (session_by sid txn) (mutation text)))))) c.in-Ok.ensures.cases.0 c.mutate_by.ensures.err))

pub returns-in-Err-clause-ok : goal.returns-in-Err-clause-ok
returns-in-Err-clause-ok g c =
    let takes = g.C.Cluster.takes c.args.cluster.now in
    let z = g.C.Cluster.zero c.args.cluster.now in
    let author = c.args.author in
    let sid = c.args.sid in
    let body = c.args.body.now in
    let txn = c.in-Some.txn in
    let at : utf8_valid_len body ≡ c.valid_up_to.result = sym (c.valid_up_to.ensures ∙ c.in-Err.ensures.valid_len) in
    subst (λ (old : Option Transaction). Meets takes z z (Serves author sid old (Some txn) (λ m n. Mutates m sid body (replies.Refused (refusals.BadToken c.valid_up_to.result)) n))) (sym c.in-Some.is)
    (subst (λ (offset : ℕ). Meets takes z z (Serves author sid (Some txn) (Some txn) (λ m n. Mutates m sid body (replies.Refused (refusals.BadToken offset)) n))) at
    (no_text_here takes author sid txn z c.history_is_legal.ensures body (not_whole body _ c.in-Err.ensures.cases.1)))
