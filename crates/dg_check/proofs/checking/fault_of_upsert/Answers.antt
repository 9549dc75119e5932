use Rattle.std.proofs.Common.{◌≡◌, ◌++◌, IfOk, ap, ◌∙◌, subst}
use Rattle.std.specs.Prelude.{Option}
use Rattle.dg_check.specs.declared.fault.CheckFault.{CheckFault}
use Rattle.dg_check.specs.Places.{places_met, places_of_query}
use Rattle.dg_check.specs.Variables.{uses_met, uses_in, uses_of_mutations}
use Rattle.dg_check.specs.Blocks.{names_of_blocks}
use Rattle.dg_check.specs.Faults.{fault_among}
use Rattle.dg_check.proofs.checking.fault_of_upsert.Goals as goal

pub returns : goal.returns
returns c =
    let query = c.args.upsert.now.query in
    let places : places_met c.in_ok-places.places.items ≡ places_of_query query = c.in_ok-places.ensures in
    let blocks : c.as_slice-4.result.now ≡ names_of_blocks query.blocks = c.as_slice-4.ensures.value ∙ (c.in_ok-blocks.ensures ∙ ap names_of_blocks c.as_slice.ensures) in
    let uses : uses_met c.as_slice-6.result.now ≡ uses_in (places_of_query query) ++ uses_of_mutations c.args.upsert.now.muts = ap uses_met c.as_slice-6.ensures.value ∙ (c.in_ok-uses.ensures ∙ (λ i. uses_in ((ap places_met c.as_slice-2.ensures.value ∙ places) i) ++ uses_of_mutations (c.as_slice-3.ensures i))) in
    let whole : fault_among c.args.schema.now c.as_slice-4.result.now (places_met c.as_slice-5.result.now) (uses_met c.as_slice-6.result.now) ≡ fault_among c.args.schema.now (names_of_blocks query.blocks) (places_of_query query) (uses_in (places_of_query query) ++ uses_of_mutations c.args.upsert.now.muts) =
    λ i. fault_among c.args.schema.now (blocks i) ((ap places_met c.as_slice-5.ensures.value ∙ places) i) (uses i) in
    subst (λ (fault : Option CheckFault). IfOk c.fault_among.result (λ found. found ≡ fault)) whole c.fault_among.ensures
