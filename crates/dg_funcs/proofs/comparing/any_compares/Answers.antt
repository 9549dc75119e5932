use Rattle.std.proofs.Common.{◌≡◌, sym, ap, ◌∙◌}
use Rattle.std.specs.List.{list_any}
use Rattle.dg_values.specs.Ascending.{has}
use Rattle.dg_values.specs.Order.{posting_cmp}
use Rattle.dg_funcs.specs.Truth.{stands_to_any}
use Rattle.dg_funcs.specs.Tests.{in_value, as_objects, asked_by}
use Rattle.dg_funcs.proofs.TestLaws.{any_asked_is}
use Rattle.dg_funcs.proofs.comparing.any_compares.Goals as goal

pub returns-in-Eq : goal.returns-in-Eq
returns-in-Eq c =
    let values = c.args.values.now in
    let objects = c.args.objects.now in
    let e : c.args.asked.now ≡ as_objects values = c.requires.asked ∙ ap (λ o. asked_by o values) c.in-Eq.is in
    let back = sym c.in-Eq.is in
    c.any_asked.ensures ∙ ((λ i. list_any (has posting_cmp (e i)) objects) ∙ (any_asked_is values objects ∙ λ i. list_any (in_value (stands_to_any (back i) values)) objects))
