use Rattle.std.proofs.Common.{◌≡◌, refl}
use Rattle.dg_node.specs.Machine.{Machine}
use Rattle.dg_node.proofs.Altering.{done_meets, pending_meets, data_meets, moving_meets, spent_meets, wanting_meets, unasked_meets}
use Rattle.dg_node.proofs.LeadLemmas.{on_any}
use Rattle.dg_node.proofs.alters.alter_with.Goals as goal

pub returns-in_err-slip-clause-err : goal.returns-in_err-slip-clause-err
returns-in_err-slip-clause-err g c = on_any _ _ (unasked_meets (g.C.Cluster.takes c.args.cluster.now) c.args.author (λ (m n : Machine). n ≡ m) (g.C.Cluster.zero c.args.cluster.now) c.requires.legal (λ m. refl))

pub returns-in-Ok-clause-ok : goal.returns-in-Ok-clause-ok
returns-in-Ok-clause-ok g c = done_meets (g.C.Cluster.takes c.args.cluster.now) c.args.author c.in_ok-slip.slip c.in_ok-slip.ensures (g.C.Cluster.zero c.args.cluster.now) (g.C.Cluster.zero c.alter.new.self) c.args.newer.now c.in-Ok.start c.in-Ok.commit c.in-Ok.ensures.alters

pub returns-in-Err-Pending-clause-ok : goal.returns-in-Err-Pending-clause-ok
returns-in-Err-Pending-clause-ok g c = pending_meets (g.C.Cluster.takes c.args.cluster.now) c.args.author c.in_ok-slip.slip c.in_ok-slip.ensures (g.C.Cluster.zero c.args.cluster.now) (g.C.Cluster.zero c.alter.new.self) c.args.newer.now c.in-Err-Pending.start (rw c.in-Err-Pending.field-0-is at c.in-Err-Pending.ensures.alters)

pub returns-in-Err-Moving-clause-ok : goal.returns-in-Err-Moving-clause-ok
returns-in-Err-Moving-clause-ok g c = moving_meets (g.C.Cluster.takes c.args.cluster.now) c.args.author c.in_ok-slip.slip c.in_ok-slip.ensures (g.C.Cluster.zero c.args.cluster.now) (g.C.Cluster.zero c.alter.new.self) c.args.newer.now c.in-Err-Moving.pred (rw c.in-Err-Moving.field-0-is at c.in-Err-Moving.ensures.alters)

pub returns-in-Err-HasData-clause-ok : goal.returns-in-Err-HasData-clause-ok
returns-in-Err-HasData-clause-ok g c = data_meets (g.C.Cluster.takes c.args.cluster.now) c.args.author c.in_ok-slip.slip c.in_ok-slip.ensures (g.C.Cluster.zero c.args.cluster.now) (g.C.Cluster.zero c.alter.new.self) c.args.newer.now c.in-Err-HasData.pred (rw c.in-Err-HasData.field-0-is at c.in-Err-HasData.ensures.alters)

pub returns-in-Err-TimestampsSpent-clause-ok : goal.returns-in-Err-TimestampsSpent-clause-ok
returns-in-Err-TimestampsSpent-clause-ok g c = spent_meets (g.C.Cluster.takes c.args.cluster.now) c.args.author c.in_ok-slip.slip c.in_ok-slip.ensures (g.C.Cluster.zero c.args.cluster.now) (g.C.Cluster.zero c.alter.new.self) c.args.newer.now c.in-Err-TimestampsSpent.next (rw c.in-Err-TimestampsSpent.field-0-is at c.in-Err-TimestampsSpent.ensures.alters)

pub returns-in-Err-OutOfMemory-clause-err : goal.returns-in-Err-OutOfMemory-clause-err
returns-in-Err-OutOfMemory-clause-err g c = wanting_meets (g.C.Cluster.takes c.args.cluster.now) c.args.author c.in_ok-slip.slip c.in_ok-slip.ensures (g.C.Cluster.zero c.args.cluster.now) (g.C.Cluster.zero c.alter.new.self) c.args.newer.now (rw c.in-Err-OutOfMemory.field-0-is at c.in-Err-OutOfMemory.ensures.alters)
