use Rattle.std.proofs.Common.{◌≡◌, sym, ap, ◌∙◌}
use Rattle.dg_wire.specs.declared.reply.Reply.{Reply}
use Rattle.dg_wire.specs.declared.reply.Reply.TheVariants as replies
use Rattle.dg_node.specs.Machine.{Machine}
use Rattle.dg_node.specs.State.{machine_beside}
use Rattle.dg_node.specs.Transactions.{discarded}
use Rattle.dg_node.proofs.Between.{none_found}
use Rattle.dg_node.proofs.ReplyLemmas.{no_discard}
use Rattle.dg_node.proofs.Handling.{none_serves, closed_serves, discard_found}
use Rattle.dg_node.proofs.transactions.discard.Goals as goal

pub returns-in-Some-clause-ok : goal.returns-in-Some-clause-ok
returns-in-Some-clause-ok g c =
    closed_serves (g.C.Cluster.takes c.args.cluster.now) c.args.author c.args.sid c.args.session.now c.take.new.self c.in-Some.txn (g.C.Cluster.zero c.args.cluster.now) (g.C.Cluster.zero c.close.new.cluster) c.close.ensures.ends.0
    (λ m n. ◌≡◌ {A = Reply × Machine} (discarded m c.args.sid) (replies.Discard c.args.sid, n))
    c.requires.own (sym c.take.ensures.value ∙ c.in-Some.is) c.take.ensures.after c.requires.session c.close.ensures.ends.1 (λ m found. discard_found m c.args.sid c.in-Some.txn found)

pub returns-in-None-clause-ok : goal.returns-in-None-clause-ok
returns-in-None-clause-ok g c =
    let z = g.C.Cluster.zero c.args.cluster.now in
    none_serves (g.C.Cluster.takes c.args.cluster.now) c.args.author c.args.sid c.args.session.now c.take.new.self z
    (λ m n. ◌≡◌ {A = Reply × Machine} (discarded m c.args.sid) (c.no_session.result, n))
    (sym c.take.ensures.value ∙ c.in-None.is) c.take.ensures.after c.history_is_legal.ensures
    (λ ss a. no_discard (machine_beside z ss) c.args.sid (none_found c.args.sid ss a) ∙ ap (λ (r : Reply). (r, machine_beside z ss)) (sym c.no_session.ensures))
