use Rattle.std.proofs.Common.{◌∙◌}
use Rattle.std.specs.List.{list_any}
use Rattle.dg_funcs.specs.Truth.{is_between}
use Rattle.dg_funcs.specs.Tests.{in_value}
use Rattle.dg_funcs.proofs.TestLaws.{any_values}
use Rattle.dg_funcs.proofs.comparing.lies_between.Goals as goal

pub returns : goal.returns
returns g c =
    let test = is_between c.args.values.now in
    c.any_between.ensures ∙ ((λ i. list_any (in_value test) (c.as_slice.ensures.value i))
    ∙ (any_values test c.in_ok-objects.objects.items ∙ λ i. list_any test (c.in_ok-objects.ensures i)))
