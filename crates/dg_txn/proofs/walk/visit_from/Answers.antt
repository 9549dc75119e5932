use Rattle.std.proofs.Common.{◌≤◌, sym, subst}
use Rattle.dg_list.specs.Lists.{Layered}
use Rattle.dg_txn.proofs.PinLaws.{IsBased, based_in}
use Rattle.dg_txn.proofs.walk.visit_from.Goals as goal

pub visit_stored-requires : goal.visit_stored-requires
visit_stored-requires g c =
    let own = subst (IsBased c.args.at) (sym c.in-Some.ensures) (based_in c.args.at c.args.start.now c.args.store.now c.requires.based) in
    record { based = subst (λ (l : Layered). l.base_ts ≤ c.args.at) (sym c.deref.ensures) own }
