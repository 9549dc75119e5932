use Rattle.std.proofs.Common.{◌∙◌, subst}
use Rattle.std.specs.Prelude.{option_copied}
use Rattle.std.specs.Arc.{arc_value}
use Rattle.std.specs.Option.{option_map}
use Rattle.dg_group.specs.declared.copied.Copied.{Copied}
use Rattle.dg_zero.specs.Listings.{listing}
use Rattle.dg_zero.specs.Worlds.{World}
use Rattle.dg_txn.specs.Pins.{copy_for, graph_of}
use Rattle.dg_txn.specs.Walks.{HoldsAll}
use Rattle.dg_txn.proofs.StandingKeys.{store_holds}
use Rattle.dg_txn.proofs.present.Present.store_of.Goals as goal

pub returns : goal.returns
returns c =
    let at = c.self.inside.at in
    let owners = arc_value c.self.inside.owners in
    let pins = c.self.inside.pins.items in
    let store = option_copied c.store_for.result in
    let is = c.store_for.ensures ∙ (λ i. option_map (λ (copy : Copied). copy.store) (copy_for (c.deref.ensures i) (c.as_slice.ensures.value i) c.args.pred.now)) in
    subst (λ (w : World). HoldsAll c.args.pred.now store (listing w.schema w.graph)) c.self.view_is
    (store_holds at (arc_value c.self.inside.schema) owners pins (graph_of at owners pins) c.args.pred.now store c.self.invariant is)
