use Rattle.std.proofs.Common.{◌≡◌, List, ap, subst, ◌∙◌}
use Rattle.std.specs.Prelude.{IfOk, filter_map}
use Rattle.dg_values.specs.Order.{posting_cmp}
use Rattle.dg_values.specs.Ascending.{ascending}
use Rattle.dg_values.specs.declared.value.Value.{Value}
use Rattle.dg_funcs.specs.Truth.{value_in}
use Rattle.dg_funcs.proofs.EqualLaws.{distinct_are}
use Rattle.dg_funcs.proofs.equal.distinct.Goals as goal

pub returns : goal.returns
returns c =
    subst (λ (vs : List Value). IfOk c.values_of.result (λ v. v.items ≡ vs))
    ((λ i. filter_map value_in ((c.in_order-objects.ensures.items ∙ ap (ascending posting_cmp) c.in_ok-objects_of.ensures) i)) ∙ distinct_are c.args.values.now) c.values_of.ensures
