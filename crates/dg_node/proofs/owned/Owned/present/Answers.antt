use Rattle.std.proofs.Common.{◌≡◌, ◌∙◌, ap, List, []}
use Rattle.std.specs.Arc.{arc_value}
use Rattle.dg_schema.specs.declared.definition.PredDef.{PredDef}
use Rattle.dg_txn.specs.Pins.{ArePinsOf}
use Rattle.dg_zero.specs.Counters.{last}
use Rattle.dg_zero.specs.States.{Zero, owners}
use Rattle.dg_zero.specs.Worlds.{world, schema, graph_at}
use Rattle.dg_node.proofs.Keeping.{present_pins, present_world}
use Rattle.dg_node.proofs.owned.Owned.present.Goals as goal

pub of-requires : goal.of-requires
of-requires c =
    let z = c.self.inside.zero in
    let of_schema : arc_value c.in_ok-schema.schema ≡ schema z.history = c.in_ok-schema.ensures ∙ c.schema.ensures in
    let of_owners : arc_value c.in_ok-owners.owners ≡ owners z.history = c.in_ok-owners.ensures ∙ c.owners.ensures in
    record { pins = (graph_at z.history (last z.history) [], rw (c.last.ensures, of_schema, of_owners) (present_pins z c.self.inside.groups.items c.in_ok-pins.pins.items c.self.invariant c.in_ok-pins.ensures.pins)) }

pub returns-clause-present : goal.returns-clause-present
returns-clause-present c =
    let z = c.self.inside.zero in
    let of_schema : arc_value c.in_ok-schema.schema ≡ schema z.history = c.in_ok-schema.ensures ∙ c.schema.ensures in
    let of_owners : arc_value c.in_ok-owners.owners ≡ owners z.history = c.in_ok-owners.ensures ∙ c.owners.ensures in
    let pins : ArePinsOf c.last.result (arc_value c.in_ok-schema.schema) (arc_value c.in_ok-owners.owners) c.in_ok-pins.pins.items (graph_at z.history (last z.history) []) =
    rw (c.last.ensures, of_schema, of_owners) (present_pins z c.self.inside.groups.items c.in_ok-pins.pins.items c.self.invariant c.in_ok-pins.ensures.pins) in
    c.of.ensures.graph (graph_at z.history (last z.history) []) pins
    ∙ (ap (λ (s : List PredDef). record { schema = s; graph = graph_at z.history (last z.history) [] }) of_schema
    ∙ (present_world z c.self.inside.groups.items c.self.invariant
    ∙ ap (λ (y : Zero). world y.history) c.self.view_is))
