use Rattle.std.proofs.Common.{◌∙◌, subst}
use Rattle.std.specs.Prelude.{IfSome, option_copied}
use Rattle.std.specs.Arc.{arc_value}
use Rattle.std.specs.Option.{option_map}
use Rattle.dg_group.specs.declared.copied.Copied.{Copied}
use Rattle.dg_zero.specs.Listings.{listing}
use Rattle.dg_zero.specs.Worlds.{World}
use Rattle.dg_txn.specs.Pins.{copy_for, graph_of}
use Rattle.dg_txn.specs.Walks.{HoldsAll, ReadsAs}
use Rattle.dg_txn.proofs.StandingKeys.{store_holds, store_reads}
use Rattle.dg_txn.proofs.present.Present.lists_of.Goals as goal

pub returns-clause-others : goal.returns-clause-others
returns-clause-others c =
    let at = c.self.inside.at in
    let owners = arc_value c.self.inside.owners in
    let pins = c.self.inside.pins.items in
    let store = option_copied c.store_for-store.result in
    let is = c.store_for-store.ensures ∙ (λ i. option_map (λ (copy : Copied). copy.store) (copy_for (c.deref.ensures i) (c.as_slice.ensures.value i) c.args.pred.now)) in
    subst (λ (w : World). HoldsAll c.args.pred.now store (listing w.schema w.graph)) c.self.view_is
    (store_holds at (arc_value c.self.inside.schema) owners pins (graph_of at owners pins) c.args.pred.now store c.self.invariant is)

pub returns-clause-reads : goal.returns-clause-reads
returns-clause-reads c =
    let at = c.self.inside.at in
    let owners = arc_value c.self.inside.owners in
    let pins = c.self.inside.pins.items in
    let store = option_copied c.store_for-store.result in
    let is = c.store_for-store.ensures ∙ (λ i. option_map (λ (copy : Copied). copy.store) (copy_for (c.deref.ensures i) (c.as_slice.ensures.value i) c.args.pred.now)) in
    subst (λ (w : World). IfSome store (ReadsAs at c.args.pred.now (listing w.schema w.graph))) c.self.view_is
    (store_reads at (arc_value c.self.inside.schema) owners pins (graph_of at owners pins) c.args.pred.now store c.self.invariant is)
