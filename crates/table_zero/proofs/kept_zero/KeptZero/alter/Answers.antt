use Rattle.std.proofs.Common.{List, ap, subst, sym, ◌∙◌}
use Rattle.std.specs.List.{AllByRecursion}
use Rattle.dg_graph.specs.Graphs.{IsLawful}
use Rattle.dg_keys.specs.declared.record.Part.{Part}
use Rattle.dg_schema.specs.declared.definition.PredDef.{PredDef}
use Rattle.dg_schema.specs.Definitions.{definition_of, with_definitions}
use Rattle.dg_zero.specs.Legal.{KeepsKind}
use Rattle.dg_zero.specs.Listings.{AreGainsAndLosses}
use Rattle.dg_zero.specs.States.{Zero}
use Rattle.dg_zero.specs.Worlds.{World, world_at}
use Rattle.dg_zero.proofs.LawfulGraphs.{present_lawful}
use Rattle.table_zero.proofs.Knowing.{altered_known, looked_known, last_is_present}
use Rattle.table_zero.specs.Steps.{world_in}
use Rattle.table_zero.proofs.kept_zero.KeptZero.alter.Goals as goal

pub alter_parts-requires : goal.alter_parts-requires
alter_parts-requires c =
    let there = last_is_present c.self.inside.zero c.last.result (world_in c.in_ok-present.present) c.self.invariant.legal c.last.ensures (c.in_ok-present.ensures ∙ ap (λ (z : Zero). world_at z.history c.last.result) (sym c.self.view_is)) in
    record { lawful = subst (λ (w : World). IsLawful w.schema w.graph) (sym there) (present_lawful c.self.inside.zero.groups c.self.inside.zero.history c.self.invariant.legal) }

pub alter-requires-clause-parts : goal.alter-requires-clause-parts
alter-requires-clause-parts c =
    let there = last_is_present c.self.inside.zero c.last.result (world_in c.in_ok-present.present) c.self.invariant.legal c.last.ensures (c.in_ok-present.ensures ∙ ap (λ (z : Zero). world_at z.history c.last.result) (sym c.self.view_is)) in
    subst (λ (w : World). AreGainsAndLosses w.schema w.graph (with_definitions w.schema c.args.newer) w.graph c.from_vec-parts.result) there
    (subst (λ (parts : List Part). AreGainsAndLosses (world_in c.in_ok-present.present).schema (world_in c.in_ok-present.present).graph (with_definitions (world_in c.in_ok-present.present).schema c.args.newer) (world_in c.in_ok-present.present).graph parts) (sym c.from_vec-parts.ensures) c.in_ok-alter_parts.ensures)

pub alter-requires-clause-kinds : goal.alter-requires-clause-kinds
alter-requires-clause-kinds c =
    let there = last_is_present c.self.inside.zero c.last.result (world_in c.in_ok-present.present) c.self.invariant.legal c.last.ensures (c.in_ok-present.ensures ∙ ap (λ (z : Zero). world_at z.history c.last.result) (sym c.self.view_is)) in
    let kept = subst (λ (ds : List PredDef). AllByRecursion (λ def. KeepsKind (world_in c.in_ok-present.present).graph def (definition_of (world_in c.in_ok-present.present).schema def.name)) ds) c.definitions.ensures.items (c.keep_kinds.ensures c.if-not-keep_kinds.false) in
    subst (λ (w : World). AllByRecursion (λ def. KeepsKind w.graph def (definition_of w.schema def.name)) c.args.newer) there kept

pub invariant_of-self-in-Ok-1 : goal.invariant_of-self-in-Ok-1
invariant_of-self-in-Ok-1 c =
    rw (c.push_reserved.ensures.items, c.reserve.ensures.items)
    (altered_known c.self.inside.zero c.alter.new.self c.self.inside.starts.items c.self.inside.steps.items c.in_ok-slip.slip c.in-Ok.ts c.args.newer c.from_vec-parts.result c.self.invariant c.in-Ok.ensures.ok c.in-Ok.ensures.legal c.in-Ok.ensures.drawn.1)

pub invariant_of-self-in-Err-1 : goal.invariant_of-self-in-Err-1
invariant_of-self-in-Err-1 c =
    rw c.reserve.ensures.items
    (looked_known c.self.inside.zero c.alter.new.self c.self.inside.starts.items c.self.inside.steps.items c.in_ok-slip.slip c.self.invariant c.in-Err.ensures.err c.in-Err.ensures.legal)
