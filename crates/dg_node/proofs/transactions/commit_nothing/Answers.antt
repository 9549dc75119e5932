use Rattle.std.proofs.Common.{◌≡◌, [], Option, subst, sym, ◌∙◌}
use Rattle.std.specs.Prelude.{IsSomeAnd}
use Rattle.dg_wire.specs.declared.reply.Reply.{Reply}
use Rattle.dg_wire.specs.declared.reply.Reply.TheVariants as replies
use Rattle.dg_txn.specs.Own.{Transaction}
use Rattle.dg_node.specs.Machine.{Machine}
use Rattle.dg_node.specs.Transactions.{committed}
use Rattle.dg_node.proofs.Handling.{closed_serves, nothing_found}
use Rattle.dg_node.proofs.transactions.commit_nothing.Goals as goal

pub returns-clause-ok : goal.returns-clause-ok
returns-clause-ok g c =
    let there = sym c.take.ensures.value ∙ c.in-Some.is in
    let none : c.in-Some.txn.own ≡ [] = subst (λ (o : Option Transaction). IsSomeAnd o (λ (t : Transaction). t.own ≡ [])) there c.requires.none in
    closed_serves (g.C.Cluster.takes c.args.cluster.now) c.args.author c.args.sid c.args.session.now c.take.new.self c.in-Some.txn (g.C.Cluster.zero c.args.cluster.now) (g.C.Cluster.zero c.close.new.cluster) c.close.ensures.ends.0
    (λ m n. ◌≡◌ {A = Reply × Machine} (committed m c.args.sid) (replies.Commit c.args.sid 0, n))
    c.requires.own there c.take.ensures.after c.requires.session c.close.ensures.ends.1 (λ m found. nothing_found m c.args.sid c.in-Some.txn none found)
