use Rattle.std.proofs.Common.{◌∙◌}
use Rattle.std.specs.List.{list_any}
use Rattle.dg_funcs.specs.Truth.{stands_to_any}
use Rattle.dg_funcs.specs.Tests.{in_value}
use Rattle.dg_funcs.proofs.TestLaws.{any_values}
use Rattle.dg_funcs.proofs.comparing.compares.Goals as goal

pub returns : goal.returns
returns g c =
    let test = stands_to_any c.args.op c.args.values.now in
    c.any_compares.ensures ∙ ((λ i. list_any (in_value test) (c.as_slice.ensures.value i))
    ∙ (any_values test c.in_ok-objects.objects.items ∙ λ i. list_any test (c.in_ok-objects.ensures i)))
