use Rattle.std.proofs.Common.{◌≡◌, IfOk, sym, ◌∙◌, subst}
use Rattle.std.specs.Prelude.{List, Option, Some, None}
use Rattle.std.specs.Option.{option_or}
use Rattle.dg_check.specs.declared.fault.CheckFault.{CheckFault}
use Rattle.dg_check.specs.Places.{places_met}
use Rattle.dg_check.specs.Variables.{Definition, definitions_in, definitions_met, uses_met}
use Rattle.dg_check.specs.Faults.{first_of, not_indexed_at, fault_of_variables, fault_behind, cycle}
use Rattle.dg_check.specs.Outcomes.{fault_before, IsOutcome}
use Rattle.dg_check.proofs.PlanLaws.{found_first}
use Rattle.dg_check.proofs.planning.read_checked.Goals as goal

pub returns-in-Some-clause-outcome : goal.returns-in-Some-clause-outcome
returns-in-Some-clause-outcome g c =
    let schema = c.args.schema.now in
    let places = places_met c.args.places.now in
    let uses = uses_met c.args.uses.now in
    let first : Some c.in-Some.fault ≡ fault_of_variables (definitions_in schema places) uses =
    sym c.in-Some.is ∙ (c.in_ok-fault.ensures ∙ ((λ i. fault_of_variables (definitions_met (c.as_slice.ensures.value i)) uses) ∙ (λ i. fault_of_variables (c.in_ok-definitions.ensures i) uses))) in
    found_first schema (definitions_in schema places) (g.P.Patterns.refused c.args.patterns.now) places (fault_of_variables (definitions_in schema places) uses) (fault_before schema c.args.blocks.now places uses) (option_or (cycle c.args.blocks.now) (fault_behind schema (definitions_in schema places) places)) c.in-Some.fault first

pub returns-in_ok-variables-in-None-clause-outcome : goal.returns-in_ok-variables-in-None-clause-outcome
returns-in_ok-variables-in-None-clause-outcome g c =
    let schema = c.args.schema.now in
    let places = places_met c.args.places.now in
    let uses = uses_met c.args.uses.now in
    let list = g.P.Patterns.refused c.read_acyclic.new.patterns in
    let indexes = first_of (not_indexed_at schema) places in
    let blocks = c.args.blocks.now in
    let first : None ≡ fault_of_variables (definitions_in schema places) uses =
    sym c.in-None.is ∙ (c.in_ok-fault.ensures ∙ ((λ i. fault_of_variables (definitions_met (c.as_slice.ensures.value i)) uses) ∙ (λ i. fault_of_variables (c.in_ok-definitions.ensures i) uses))) in
    let known : c.in_ok-variables-in-None.variables ≡ definitions_in schema places = c.in_ok-variables-in-None.ensures ∙ c.in_ok-definitions.ensures in
    subst (λ (o : Option CheckFault). IfOk c.read_acyclic.result (IsOutcome schema (definitions_in schema places) list places (option_or o (option_or (cycle blocks) indexes)) (option_or o (option_or (cycle blocks) (fault_behind schema (definitions_in schema places) places))))) first
    (subst (λ (ds : List Definition). IfOk c.read_acyclic.result (IsOutcome schema ds list places (option_or (cycle blocks) indexes) (option_or (cycle blocks) (fault_behind schema ds places)))) known c.read_acyclic.ensures.outcome)
