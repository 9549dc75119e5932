use Rattle.std.proofs.Common.{◌≡◌, ◌∙◌, ap, Bool}
use Rattle.std.specs.Prelude.{IfOk, Result, Ok, Err}
use Rattle.std.specs.Arc.{arc_value}
use Rattle.std.specs.List.{list_any}
use Rattle.std.specs.Option.{option_map}
use Rattle.dg_graph.specs.Graphs.{is_of}
use Rattle.dg_group.specs.declared.copied.Copied.{Copied}
use Rattle.dg_zero.specs.Worlds.{World}
use Rattle.dg_keys.specs.Keys.{key_cmp}
use Rattle.dg_pages.specs.Entries.{IsMap}
use Rattle.dg_store.specs.Stores.{Lists}
use Rattle.dg_txn.specs.Existing.{lists_some}
use Rattle.dg_txn.specs.Pins.{copy_for, graph_of}
use Rattle.dg_txn.proofs.SomeListed.{store_based, store_shows, no_store}
use Rattle.dg_txn.proofs.present.Present.has_triple.Goals as goal

pub any_listed-requires : goal.any_listed-requires
any_listed-requires g c =
    let at = c.self.inside.at in
    let owners = arc_value c.self.inside.owners in
    let pins = c.self.inside.pins.items in
    let is = c.in-Some.ensures ∙ (λ i. option_map (λ (copy : Copied). copy.store) (copy_for (c.deref.ensures i) (c.as_slice.ensures.value i) c.args.pred.now)) in
    record { bases = store_based c.args.pred.now at (arc_value c.self.inside.schema) owners pins (graph_of at owners pins) c.self.invariant c.in-Some.store.now is }

-- what is answered of the lists is answered of the graph
told : {E : Type 0} (r : Result Bool E) (store : Lists) (a b : Bool) → IfOk r (λ any. any ≡ a) → IfOk r (λ any. IsMap key_cmp store) → (IsMap key_cmp store → a ≡ b) → IfOk r (λ any. any ≡ b)
told (Ok any) store a b e m f = e ∙ f m
told (Err fault) store a b e m f = tt

pub returns-in-Some : goal.returns-in-Some
returns-in-Some g c =
    let at = c.self.inside.at in
    let owners = arc_value c.self.inside.owners in
    let pins = c.self.inside.pins.items in
    let store = c.in-Some.store.now in
    let is = c.in-Some.ensures ∙ (λ i. option_map (λ (copy : Copied). copy.store) (copy_for (c.deref.ensures i) (c.as_slice.ensures.value i) c.args.pred.now)) in
    told c.any_listed.result store (list_any (lists_some c.args.pred.now at) store) (list_any (is_of c.args.pred.now) c.args.self.now.graph) c.any_listed.ensures.any c.any_listed.ensures.ascend
    (λ m.
    store_shows c.args.pred.now at (arc_value c.self.inside.schema) owners pins (graph_of at owners pins) c.self.invariant store is m
    ∙ ap (λ (w : World). list_any (is_of c.args.pred.now) w.graph) c.self.view_is)

pub returns-in-None : goal.returns-in-None
returns-in-None g c =
    let at = c.self.inside.at in
    let owners = arc_value c.self.inside.owners in
    let pins = c.self.inside.pins.items in
    let is = c.in-None.ensures ∙ (λ i. option_map (λ (copy : Copied). copy.store) (copy_for (c.deref.ensures i) (c.as_slice.ensures.value i) c.args.pred.now)) in
    no_store c.args.pred.now at (arc_value c.self.inside.schema) owners pins (graph_of at owners pins) c.self.invariant is
    ∙ ap (λ (w : World). list_any (is_of c.args.pred.now) w.graph) c.self.view_is
