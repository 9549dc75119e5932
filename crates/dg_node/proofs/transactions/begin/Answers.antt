use Rattle.std.proofs.Common.{◌≡◌, ℕ, Bool, true, [], Option, Ok, Err, subst, sym, ◌∙◌}
use Rattle.std.specs.Arc.{arc_value}
use Rattle.dg_wire.specs.declared.reply.Reply.{Reply}
use Rattle.dg_wire.specs.declared.reply.Reply.TheVariants as replies
use Rattle.dg_zero.specs.Counters.{next, active, is_active_of}
use Rattle.dg_zero.specs.Worlds.{graph_at}
use Rattle.dg_node.specs.declared.cluster.ClusterFault.TheVariants as faults
use Rattle.dg_txn.specs.Own.{Transaction}
use Rattle.dg_node.specs.Clusters.{Meets, BeginsAt, EndsAt}
use Rattle.dg_node.specs.Machine.{Machine}
use Rattle.dg_node.specs.Sessions.{IsSession, Serves}
use Rattle.dg_node.specs.Transactions.{begun}
use Rattle.dg_node.proofs.Beginning.{already_serves, spares_none, spares_look, spent_meets, pins_met, start_drawn, start_active, spares_drawn, begun_open, begun_meets}
use Rattle.dg_node.proofs.LeadLemmas.{on_any}
use Rattle.dg_node.proofs.transactions.begin.Goals as goal

pub returns-then-is_some-clause-ok : goal.returns-then-is_some-clause-ok
returns-then-is_some-clause-ok g c = already_serves (g.C.Cluster.takes c.args.cluster.now) c.args.author c.args.sid c.args.session.now (g.C.Cluster.zero c.args.cluster.now) (sym c.is_some.ensures ∙ c.if-is_some.true) c.history_is_legal.ensures

pub returns-in_err-slip-clause-err : goal.returns-in_err-slip-clause-err
returns-in_err-slip-clause-err g c = on_any _ _ (spares_none (g.C.Cluster.takes c.args.cluster.now) c.args.author c.args.sid (g.C.Cluster.zero c.args.cluster.now) c.history_is_legal.ensures)

pub returns-in_err-end-clause-err : goal.returns-in_err-end-clause-err
returns-in_err-end-clause-err g c = on_any _ _ (spares_none (g.C.Cluster.takes c.args.cluster.now) c.args.author c.args.sid (g.C.Cluster.zero c.args.cluster.now) c.history_is_legal.ensures)

pub make-requires-clause-pins : goal.make-requires-clause-pins
make-requires-clause-pins g c =
    let takes = g.C.Cluster.takes c.args.cluster.now in
    let z = g.C.Cluster.zero c.args.cluster.now in
    let w = g.C.Cluster.zero c.begin.new.self in
    let m : Meets takes z w (BeginsAt c.args.author (Ok (c.in-Ok.begun, c.in-Ok.pins))) = subst (λ (s : ℕ). Meets takes z w (BeginsAt s (Ok (c.in-Ok.begun, c.in-Ok.pins)))) c.in_ok-slip.ensures c.in-Ok.ensures.begins in
    (graph_at m.met.history (next m.met.history) [], pins_met takes c.args.author c.args.sid z w c.in-Ok.ensures.legal c.requires.own c.in-Ok.begun c.in-Ok.pins m)

pub make-requires-clause-drawn : goal.make-requires-clause-drawn
make-requires-clause-drawn g c =
    let takes = g.C.Cluster.takes c.args.cluster.now in
    let z = g.C.Cluster.zero c.args.cluster.now in
    let w = g.C.Cluster.zero c.begin.new.self in
    let m : Meets takes z w (BeginsAt c.args.author (Ok (c.in-Ok.begun, c.in-Ok.pins))) = subst (λ (s : ℕ). Meets takes z w (BeginsAt s (Ok (c.in-Ok.begun, c.in-Ok.pins)))) c.in_ok-slip.ensures c.in-Ok.ensures.begins in
    start_drawn takes c.args.author c.args.sid z w c.in-Ok.ensures.legal c.requires.own c.in-Ok.begun c.in-Ok.pins m

pub make-requires-clause-active : goal.make-requires-clause-active
make-requires-clause-active g c =
    let takes = g.C.Cluster.takes c.args.cluster.now in
    let z = g.C.Cluster.zero c.args.cluster.now in
    let w = g.C.Cluster.zero c.begin.new.self in
    let m : Meets takes z w (BeginsAt c.args.author (Ok (c.in-Ok.begun, c.in-Ok.pins))) = subst (λ (s : ℕ). Meets takes z w (BeginsAt s (Ok (c.in-Ok.begun, c.in-Ok.pins)))) c.in_ok-slip.ensures c.in-Ok.ensures.begins in
    subst (λ (a : ℕ). is_active_of (active w.history) c.in-Ok.begun.start a ≡ true) (sym c.in_ok-end.ensures)
    (start_active takes c.args.author c.args.sid z w c.in-Ok.ensures.legal c.requires.own c.in-Ok.begun c.in-Ok.pins m)

pub returns-in_err-txn-in-Ok-clause-err : goal.returns-in_err-txn-in-Ok-clause-err
returns-in_err-txn-in-Ok-clause-err g c =
    let takes = g.C.Cluster.takes c.args.cluster.now in
    let z = g.C.Cluster.zero c.args.cluster.now in
    let w = g.C.Cluster.zero c.begin.new.self in
    let m : Meets takes z w (BeginsAt c.args.author (Ok (c.in-Ok.begun, c.in-Ok.pins))) = subst (λ (s : ℕ). Meets takes z w (BeginsAt s (Ok (c.in-Ok.begun, c.in-Ok.pins)))) c.in_ok-slip.ensures c.in-Ok.ensures.begins in
    let v = g.C.Cluster.zero c.make.new.cluster in
    let e = c.in_err-txn-in-Ok.ensures.err in
    let ends : Meets takes w v (EndsAt c.args.author c.in-Ok.begun.start e.0) =
    subst (λ (a : ℕ). Meets takes w v (EndsAt a c.in-Ok.begun.start e.0)) c.in_ok-end.ensures
    (subst (λ (t : ℕ → Bool). Meets t w v (EndsAt c.in_ok-end.end c.in-Ok.begun.start e.0)) c.in-Ok.ensures.same e.1) in
    on_any _ _ (spares_drawn takes c.args.author c.args.sid z w c.in-Ok.ensures.legal c.requires.own c.in-Ok.begun c.in-Ok.pins m v e.0 ends)

pub returns-in-Ok-clause-ok : goal.returns-in-Ok-clause-ok
returns-in-Ok-clause-ok g c =
    let takes = g.C.Cluster.takes c.args.cluster.now in
    let z = g.C.Cluster.zero c.args.cluster.now in
    let w = g.C.Cluster.zero c.begin.new.self in
    let m : Meets takes z w (BeginsAt c.args.author (Ok (c.in-Ok.begun, c.in-Ok.pins))) = subst (λ (s : ℕ). Meets takes z w (BeginsAt s (Ok (c.in-Ok.begun, c.in-Ok.pins)))) c.in_ok-slip.ensures c.in-Ok.ensures.begins in
    let graph = graph_at m.met.history (next m.met.history) [] in
    let pins = pins_met takes c.args.author c.args.sid z w c.in-Ok.ensures.legal c.requires.own c.in-Ok.begun c.in-Ok.pins m in
    let by = c.in_ok-end.ensures in
    let txn = c.in_ok-txn-in-Ok.txn in
    let made : txn ≡ record { start = c.in-Ok.begun.start; schema = arc_value c.in-Ok.begun.schema; base = graph; own = []; author = c.args.author } = c.in_ok-txn-in-Ok.ensures.made graph pins ∙ (λ i. record { start = c.in-Ok.begun.start; schema = arc_value c.in-Ok.begun.schema; base = graph; own = []; author = by i }) in
    let v = g.C.Cluster.zero c.make.new.cluster in
    subst (λ (o : Option Transaction). Meets takes z v (Serves c.args.author c.args.sid c.args.session.now o (λ (m n : Machine). ◌≡◌ {A = Reply × Machine} (begun m c.args.sid) (replies.Begin c.args.sid c.in-Ok.begun.start, n)))) (sym c.put.ensures)
    (begun_meets takes c.args.author c.args.sid z w c.in-Ok.ensures.legal c.requires.own c.in-Ok.begun c.in-Ok.pins m txn made c.args.session.now v (sym c.is_some.ensures ∙ c.if-is_some.false) c.in_ok-txn-in-Ok.ensures.ok)

pub returns-in-Ok-clause-session : goal.returns-in-Ok-clause-session
returns-in-Ok-clause-session g c =
    let takes = g.C.Cluster.takes c.args.cluster.now in
    let z = g.C.Cluster.zero c.args.cluster.now in
    let w = g.C.Cluster.zero c.begin.new.self in
    let m : Meets takes z w (BeginsAt c.args.author (Ok (c.in-Ok.begun, c.in-Ok.pins))) = subst (λ (s : ℕ). Meets takes z w (BeginsAt s (Ok (c.in-Ok.begun, c.in-Ok.pins)))) c.in_ok-slip.ensures c.in-Ok.ensures.begins in
    let graph = graph_at m.met.history (next m.met.history) [] in
    let pins = pins_met takes c.args.author c.args.sid z w c.in-Ok.ensures.legal c.requires.own c.in-Ok.begun c.in-Ok.pins m in
    let by = c.in_ok-end.ensures in
    let txn = c.in_ok-txn-in-Ok.txn in
    let made : txn ≡ record { start = c.in-Ok.begun.start; schema = arc_value c.in-Ok.begun.schema; base = graph; own = []; author = c.args.author } = c.in_ok-txn-in-Ok.ensures.made graph pins ∙ (λ i. record { start = c.in-Ok.begun.start; schema = arc_value c.in-Ok.begun.schema; base = graph; own = []; author = by i }) in
    let v = g.C.Cluster.zero c.make.new.cluster in
    subst (IsSession v c.args.author) (sym c.put.ensures)
    (begun_open takes c.args.author c.args.sid z w c.in-Ok.ensures.legal c.requires.own c.in-Ok.begun c.in-Ok.pins m txn made v c.in_ok-txn-in-Ok.ensures.ok)

pub returns-in-Err-TimestampsSpent-clause-ok : goal.returns-in-Err-TimestampsSpent-clause-ok
returns-in-Err-TimestampsSpent-clause-ok g c =
    let takes = g.C.Cluster.takes c.args.cluster.now in
    let z = g.C.Cluster.zero c.args.cluster.now in
    let w = g.C.Cluster.zero c.begin.new.self in
    rw c.in-Err-TimestampsSpent.field-0-is (spent_meets takes c.args.author c.args.sid z c.args.session.now c.in-Err-TimestampsSpent.next w (sym c.is_some.ensures ∙ c.if-is_some.false)
    (subst (λ (s : ℕ). Meets takes z w (BeginsAt s (Err (faults.TimestampsSpent c.in-Err-TimestampsSpent.next)))) c.in_ok-slip.ensures (rw c.in-Err-TimestampsSpent.field-0-is at c.in-Err-TimestampsSpent.ensures.begins)))

pub returns-in-Err-OutOfMemory-clause-err : goal.returns-in-Err-OutOfMemory-clause-err
returns-in-Err-OutOfMemory-clause-err g c =
    let takes = g.C.Cluster.takes c.args.cluster.now in
    let z = g.C.Cluster.zero c.args.cluster.now in
    let w = g.C.Cluster.zero c.begin.new.self in
    spares_look takes c.args.author c.args.sid z w c.in-Err-OutOfMemory.ensures.legal
    (subst (λ (s : ℕ). Meets takes z w (BeginsAt s (Err faults.OutOfMemory))) c.in_ok-slip.ensures (rw c.in-Err-OutOfMemory.field-0-is at c.in-Err-OutOfMemory.ensures.begins))
