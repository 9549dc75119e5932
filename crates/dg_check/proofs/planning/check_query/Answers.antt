use Rattle.std.proofs.Common.{◌≡◌, [], false, ◌∙◌, ap, flat_map}
use Rattle.std.specs.Prelude.{Ok}
use Rattle.dg_check.specs.declared.planning.Checked.{Checked}
use Rattle.dg_check.specs.Places.{places_met, places_of_query}
use Rattle.dg_check.specs.Variables.{definitions_in, names_for, uses_met, uses_in}
use Rattle.dg_check.specs.Blocks.{names_of_blocks}
use Rattle.dg_check.specs.Outcomes.{IsQueryOutcome}
use Rattle.dg_check.proofs.DefinedLaws.{names_by_blocks}
use Rattle.dg_check.proofs.PlanLaws.{at_part, at_parts}
use Rattle.dg_check.proofs.planning.check_query.Goals as goal

pub returns-clause-outcome : goal.returns-clause-outcome
returns-clause-outcome g c =
    let query = c.args.query.now in
    let list = g.P.Patterns.refused c.read_checked.new.patterns in
    let looked = c.in_ok-looked.ensures in
    let blocks : c.as_slice-2.result.now ≡ names_of_blocks query.blocks = c.as_slice-2.ensures.value ∙ looked.blocks in
    let there : places_met c.as_slice-3.result.now ≡ places_of_query query = ap places_met c.as_slice-3.ensures.value ∙ looked.places in
    let uses : uses_met c.as_slice-4.result.now ≡ uses_in (places_of_query query) = ap uses_met c.as_slice-4.ensures.value ∙ (c.in_ok-uses.ensures ∙ ap uses_in (ap places_met c.as_slice.ensures.value ∙ looked.places)) in
    at_part (IsQueryOutcome c.args.schema.now query list) (λ (x : Checked). x.found) c.with_order.result c.in_ok-found.found c.with_order.ensures.found
    (at_parts c.args.schema.now list (Ok c.in_ok-found.found) _ _ _ _ _ _ blocks there uses c.in_ok-found.ensures.outcome)

pub returns-clause-vars : goal.returns-clause-vars
returns-clause-vars g c =
    let names = names_for false (definitions_in [] (places_of_query c.args.query.now)) in
    at_part (λ vars. vars ≡ names) (λ (x : Checked). x.vars) c.with_order.result _ c.with_order.ensures.vars
    (ap (flat_map (λ block. block.defined)) c.in_ok-looked.ensures.blocks ∙ names_by_blocks c.args.query.now.blocks)
