use Rattle.std.proofs.Common.{◌≡◌, IfOk, sym, ◌∙◌, subst}
use Rattle.std.specs.Prelude.{Option, Some, None}
use Rattle.std.specs.Option.{option_or}
use Rattle.dg_check.specs.declared.fault.CheckFault.{CheckFault}
use Rattle.dg_check.specs.Places.{places_met}
use Rattle.dg_check.specs.Variables.{definitions_in, definitions_met, uses_met}
use Rattle.dg_check.specs.Faults.{fault_of_variables, fault_behind, cycle, fault_among}
use Rattle.dg_check.proofs.checking.fault_among.Goals as goal

pub returns-in-Some : goal.returns-in-Some
returns-in-Some c =
    let schema = c.args.schema.now in
    let places = places_met c.args.places.now in
    let uses = uses_met c.args.uses.now in
    let first : Some c.in-Some.fault ≡ fault_of_variables (definitions_in schema places) uses =
    sym c.in-Some.is ∙ (c.in_ok-fault.ensures ∙ ((λ i. fault_of_variables (definitions_met (c.as_slice.ensures.value i)) uses) ∙ (λ i. fault_of_variables (c.in_ok-definitions.ensures i) uses))) in
    λ i. option_or (first i) (option_or (cycle c.args.blocks.now) (fault_behind schema (definitions_in schema places) places))

pub returns-in_ok-variables-in-None : goal.returns-in_ok-variables-in-None
returns-in_ok-variables-in-None c =
    let schema = c.args.schema.now in
    let places = places_met c.args.places.now in
    let uses = uses_met c.args.uses.now in
    let first : None ≡ fault_of_variables (definitions_in schema places) uses =
    sym c.in-None.is ∙ (c.in_ok-fault.ensures ∙ ((λ i. fault_of_variables (definitions_met (c.as_slice.ensures.value i)) uses) ∙ (λ i. fault_of_variables (c.in_ok-definitions.ensures i) uses))) in
    let known : c.in_ok-variables-in-None.variables ≡ definitions_in schema places = c.in_ok-variables-in-None.ensures ∙ c.in_ok-definitions.ensures in
    let whole : option_or (cycle c.args.blocks.now) (fault_behind schema c.in_ok-variables-in-None.variables places) ≡ fault_among schema c.args.blocks.now places uses =
    λ i. option_or (first i) (option_or (cycle c.args.blocks.now) (fault_behind schema (known i) places)) in
    subst (λ (fault : Option CheckFault). IfOk c.fault_of_cycles.result (λ found. found ≡ fault)) whole c.fault_of_cycles.ensures
