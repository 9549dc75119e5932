use Rattle.std.proofs.Common.{◌≡◌, ◌≢◌, ℕ, cond, [], Option, Some, None, Ok, Err, ap, subst, sym, ◌∙◌, true≢false}
use Rattle.dg_wire.specs.declared.reply.Reply.{Reply}
use Rattle.dg_wire.specs.declared.reply.Reply.TheVariants as replies
use Rattle.dg_txn.specs.Own.{Transaction}
use Rattle.dg_node.specs.Clusters.{Meets, CommitsAt}
use Rattle.dg_node.specs.Committing.{is_ended}
use Rattle.dg_node.specs.Machine.{Machine}
use Rattle.dg_node.specs.Sessions.{IsOpen, IsSession}
use Rattle.dg_node.specs.State.{machine_beside}
use Rattle.dg_node.specs.Transactions.{committed}
use Rattle.dg_node.proofs.Between.{none_found}
use Rattle.dg_node.proofs.Handling.{none_serves, serves_as}
use Rattle.dg_node.proofs.Offered.{done_meets, refused_by, wanting_by, refused_session}
use Rattle.dg_node.proofs.ReplyLemmas.{no_commit}
use Rattle.dg_node.proofs.transactions.commit.Goals as goal

pub returns-in_default-clause-ok : goal.returns-in_default-clause-ok
returns-in_default-clause-ok g c =
    let z = g.C.Cluster.zero c.args.cluster.now in
    none_serves (g.C.Cluster.takes c.args.cluster.now) c.args.author c.args.sid c.args.session.now c.args.session.now z
    (λ (m n : Machine). ◌≡◌ {A = Reply × Machine} (committed m c.args.sid) (c.no_session.result, n))
    c.in_default.is c.in_default.is c.history_is_legal.ensures
    (λ ss a. no_commit (machine_beside z ss) c.args.sid (none_found c.args.sid ss a) ∙ ap (λ (r : Reply). (r, machine_beside z ss)) (sym c.no_session.ensures))

pub returns-in-Ok-clause-ok : goal.returns-in-Ok-clause-ok
returns-in-Ok-clause-ok g c =
    let takes = g.C.Cluster.takes c.args.cluster.now in
    let z = g.C.Cluster.zero c.args.cluster.now in
    let w = g.C.Cluster.zero c.commit.new.self in
    let author = c.args.author in
    let sid = c.args.sid in
    let txn = c.in-Some.txn in
    let offer = c.in_ok-offer.offer in
    let own = c.requires.own in
    let o : IsOpen z.history author txn = subst (IsSession z author) c.in-Some.is c.requires.session in
    let some : txn.own ≢ [] = λ e. true≢false (sym (c.is_empty.ensures.1 e) ∙ c.if-is_empty.false) in
    let told = c.in_ok-offer.ensures in
    let m : Meets takes z w (CommitsAt author offer (Ok c.in-Ok.ts)) = subst (λ (s : ℕ). Meets takes z w (CommitsAt s offer (Ok c.in-Ok.ts))) c.in_ok-slip.ensures c.in-Ok.ensures.commits in
    serves_as takes author sid z w (λ (m n : Machine). ◌≡◌ {A = Reply × Machine} (committed m sid) (replies.Commit sid c.in-Ok.ts, n)) c.args.session.now (Some txn) c.clear.new.session None c.in-Some.is c.clear.ensures
    (done_meets takes author sid own z txn o offer told.start told.changes told.made_of (told.sound some) w c.in-Ok.ts some m)

pub returns-in-Err-clause-ok : goal.returns-in-Err-clause-ok
returns-in-Err-clause-ok g c =
    let takes = g.C.Cluster.takes c.args.cluster.now in
    let z = g.C.Cluster.zero c.args.cluster.now in
    let w = g.C.Cluster.zero c.commit.new.self in
    let author = c.args.author in
    let sid = c.args.sid in
    let txn = c.in-Some.txn in
    let offer = c.in_ok-offer.offer in
    let own = c.requires.own in
    let o : IsOpen z.history author txn = subst (IsSession z author) c.in-Some.is c.requires.session in
    let some : txn.own ≢ [] = λ e. true≢false (sym (c.is_empty.ensures.1 e) ∙ c.if-is_empty.false) in
    let told = c.in_ok-offer.ensures in
    let m : Meets takes z w (CommitsAt author offer (Err c.in-Err.fault)) = subst (λ (s : ℕ). Meets takes z w (CommitsAt s offer (Err c.in-Err.fault))) c.in_ok-slip.ensures c.in-Err.ensures.commits in
    let new_is = c.uncommitted.ensures.session ∙ ap (λ (x : Option Transaction). cond (is_ended c.in-Err.fault) None x) c.in-Some.is in
    refused_by takes author sid own z txn o offer told.start told.changes told.made_of (told.sound some) w c.in-Err.fault c.uncommitted.new.session new_is m c.uncommitted.result c.args.session.now c.in-Some.is some c.uncommitted.ensures.ok

pub returns-in-Err-clause-err : goal.returns-in-Err-clause-err
returns-in-Err-clause-err g c =
    let takes = g.C.Cluster.takes c.args.cluster.now in
    let z = g.C.Cluster.zero c.args.cluster.now in
    let w = g.C.Cluster.zero c.commit.new.self in
    let author = c.args.author in
    let sid = c.args.sid in
    let txn = c.in-Some.txn in
    let offer = c.in_ok-offer.offer in
    let own = c.requires.own in
    let o : IsOpen z.history author txn = subst (IsSession z author) c.in-Some.is c.requires.session in
    let some : txn.own ≢ [] = λ e. true≢false (sym (c.is_empty.ensures.1 e) ∙ c.if-is_empty.false) in
    let told = c.in_ok-offer.ensures in
    let m : Meets takes z w (CommitsAt author offer (Err c.in-Err.fault)) = subst (λ (s : ℕ). Meets takes z w (CommitsAt s offer (Err c.in-Err.fault))) c.in_ok-slip.ensures c.in-Err.ensures.commits in
    let new_is = c.uncommitted.ensures.session ∙ ap (λ (x : Option Transaction). cond (is_ended c.in-Err.fault) None x) c.in-Some.is in
    wanting_by takes author sid own z txn o offer told.start told.changes told.made_of (told.sound some) w c.in-Err.fault c.uncommitted.new.session new_is m c.uncommitted.result c.args.session.now c.in-Some.is c.uncommitted.ensures.err

pub returns-in-Err-clause-session : goal.returns-in-Err-clause-session
returns-in-Err-clause-session g c =
    let takes = g.C.Cluster.takes c.args.cluster.now in
    let z = g.C.Cluster.zero c.args.cluster.now in
    let w = g.C.Cluster.zero c.commit.new.self in
    let author = c.args.author in
    let sid = c.args.sid in
    let txn = c.in-Some.txn in
    let offer = c.in_ok-offer.offer in
    let own = c.requires.own in
    let o : IsOpen z.history author txn = subst (IsSession z author) c.in-Some.is c.requires.session in
    let some : txn.own ≢ [] = λ e. true≢false (sym (c.is_empty.ensures.1 e) ∙ c.if-is_empty.false) in
    let told = c.in_ok-offer.ensures in
    let m : Meets takes z w (CommitsAt author offer (Err c.in-Err.fault)) = subst (λ (s : ℕ). Meets takes z w (CommitsAt s offer (Err c.in-Err.fault))) c.in_ok-slip.ensures c.in-Err.ensures.commits in
    let new_is = c.uncommitted.ensures.session ∙ ap (λ (x : Option Transaction). cond (is_ended c.in-Err.fault) None x) c.in-Some.is in
    refused_session takes author sid own z txn o offer told.start told.changes told.made_of (told.sound some) w c.in-Err.fault c.uncommitted.new.session new_is m c.in-Err.ensures.legal
