use Rattle.std.proofs.Common.{◌≡◌, ℕ, List, ap, subst, ◌∙◌, rules}
use Rattle.std.specs.Prelude.{map, Option, IfOk}
use Rattle.std.specs.Ordering.{is_lt}
use Rattle.std.proofs.lemmas.Fn.{always_returns_same}
use Rattle.std.proofs.lemmas.List.Sorted.{ranks_by}
use Rattle.dg_values.specs.declared.value.Value.{Value}
use Rattle.dg_sets.proofs.MadeOrders.{total_from}
use Rattle.dg_check.specs.Vars.{value_beside}
use Rattle.dg_shape.specs.Orders.{key_cmp}
use Rattle.dg_shape.proofs.KeyOrders.{key_order}
use Rattle.dg_shape.proofs.StableSorts.{sorted_by_key}
use Rattle.dg_shape.proofs.ordering.by_key.Goals as goal

pub returns : goal.returns
returns c keys all e =
    let down = c.args.key.now.down in
    let values = c.args.key.now.values.now in
    let value : ℕ → Option Value = value_beside values.nodes values.values in
    let ranks = ranks_by (total_from (key_cmp down) (key_order down)) (λ x. x.1) in
    let answers = always_returns_same _ (λ a r. is_lt r ≡ is_lt (key_cmp down a.0.now.1 a.1.0.now.1)) _ (λ a r f' k. let is : r ≡ key_cmp down a.0.now.1 a.1.0.now.1 = search rules in (ap is_lt is, search rules)) in
    let sorted = c.in_ok-sort_by.ensures.sorted (λ x y. is_lt (key_cmp down x.1 y.1)) ranks answers in
    let stable = c.in_ok-sort_by.ensures.stable (λ x y. is_lt (key_cmp down x.1 y.1)) ranks answers in
    let made : c.in_ok-all.all.items ≡ map (λ n. (n, value n)) c.args.nodes.items = c.in_ok-all.ensures ∙ ap (map (λ n. (n, value n))) c.as_slice.ensures.value in
    subst (λ (xs : List ℕ). IfOk c.without_values.result (λ v. v.items ≡ xs))
    (ap (map (λ (a : ℕ × Option Value). a.0)) c.as_slice-2.ensures.value ∙ sorted_by_key down value keys c.args.nodes.items all c.in_ok-all.all.items c.sort_by.new.self.items e made c.sort_by.ensures.permutation sorted stable)
    c.without_values.ensures
