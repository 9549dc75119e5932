use Rattle.std.proofs.Common.{◌≤◌, ◌<◌, sym, subst, arith, length}
use Rattle.dg_list.specs.Lists.{Layered}
use Rattle.dg_txn.proofs.StoredWalk.{based_at}
use Rattle.dg_txn.proofs.walk.visit_run.Goals as goal

pub visit_stored-requires : goal.visit_stored-requires
visit_stored-requires g c =
    let lt : c.loop-key.key-index < length c.args.run.now = omega (arith, c.loop-key-test.true) in
    record { based = subst (λ (l : Layered). l.base_ts ≤ c.args.at) (sym c.deref-in-loop-key.ensures) (based_at c.args.at c.args.run.now c.loop-key.key-index c.loop-key-item.result c.requires.based lt c.loop-key-item.is) }
