use Rattle.std.proofs.Common.{◌∙◌, sym, ap, subst}
use Rattle.std.specs.Prelude.{Option, option_copied, option_map}
use Rattle.std.specs.Arc.{arc_value}
use Rattle.dg_list.specs.Lists.{Layered}
use Rattle.dg_txn.proofs.PinLaws.{IsBased, found_based}
use Rattle.dg_txn.proofs.present.read_from.Goals as goal

pub read_at-requires : goal.read_at-requires
read_at-requires g c =
    let r = c.requires.pins in
    let based = found_based c.args.at r.0 c.args.owners.now c.args.pins.now r.1 c.args.key.now r.2 in
    let is = sym c.list_for.ensures ∙ ap (λ o. option_map arc_value (option_copied o)) c.in-Some.is in
    rw c.deref.ensures (subst (λ (o : Option Layered). IsBased c.args.at o) is based)
