-- The value that stands beside a node.
use Rattle.std.proofs.Common.{◌≡◌, ℕ, zero, suc, Bool, true, false, cond, List, [], ◌∷◌, refl, ap, sym, ◌∙◌}
use Rattle.std.specs.Prelude.{◌==◌, ◌||◌, Some, None, slice_get}
use Rattle.std.specs.declared.cmp.Ordering.TheVariants.{Less}
use Rattle.std.specs.Ordering.{nat_cmp, is_eq}
use Rattle.std.specs.Cmp.{unsigned_ties}
use Rattle.dg_values.specs.Ascending.{Ascends, has}
use Rattle.dg_values.specs.declared.value.Value.{Value}
use Rattle.dg_sets.proofs.MadeOrders.{nat_order}
use Rattle.dg_sets.proofs.Sets.{above, is_itself}
use Rattle.dg_check.specs.Vars.{value_beside}

-- two tests of numbers are one
nat_is_eq : (a b : ℕ) → is_eq (nat_cmp a b) ≡ (a == b)
nat_is_eq a b = sym (unsigned_ties a b)

or_right : (a b : Bool) → (a || b) ≡ false → b ≡ false
or_right true b e = absurd (cc)
or_right false b e = e

or_left : (a b : Bool) → (a || b) ≡ false → a ≡ false
or_left true b e = e
or_left false b e = refl

-- none beside a node that isn't there
pub beside_none : (nodes : List ℕ) (values : List Value) (node : ℕ) → has nat_cmp nodes node ≡ false → value_beside nodes values node ≡ None
beside_none [] values node e = refl
beside_none (n ∷ nodes) [] node e = refl
beside_none (n ∷ nodes) (v ∷ values) node e =
    let here : (n == node) ≡ false = sym (nat_is_eq n node) ∙ or_left (is_eq (nat_cmp n node)) (has nat_cmp nodes node) e in
    (λ i. cond (here i) (Some v) (value_beside nodes values node)) ∙ beside_none nodes values node (or_right (is_eq (nat_cmp n node)) (has nat_cmp nodes node) e)

-- what stands at a place is there
has_at : (nodes : List ℕ) (at node : ℕ) → slice_get nodes at ≡ Some node → has nat_cmp nodes node ≡ true
has_at [] at node e = absurd (cc)
has_at (n ∷ nodes) zero node e =
    let same : n ≡ node = cc in
    (λ i. is_eq (nat_cmp (same i) node) || has nat_cmp nodes node) ∙ λ i. is_itself nat_cmp nat_order node i || has nat_cmp nodes node
has_at (n ∷ nodes) (suc at) node e = by (is_eq (nat_cmp n node)) (has_at nodes at node e)
  where
    by : (b : Bool) → has nat_cmp nodes node ≡ true → (b || has nat_cmp nodes node) ≡ true
    by true h = refl
    by false h = h

-- the value at the node's place
pub beside_at : (nodes : List ℕ) (values : List Value) (at node : ℕ) → Ascends nat_cmp nodes → slice_get nodes at ≡ Some node → value_beside nodes values node ≡ slice_get values at
beside_at [] values at node a e = absurd (cc)
beside_at (n ∷ nodes) [] zero node a e = refl
beside_at (n ∷ nodes) [] (suc at) node a e = refl
beside_at (n ∷ nodes) (v ∷ values) zero node a e =
    let same : n ≡ node = cc in
    let here : (n == node) ≡ true = sym (nat_is_eq n node) ∙ ((λ i. is_eq (nat_cmp (same i) node)) ∙ is_itself nat_cmp nat_order node) in
    λ i. cond (here i) (Some v) (value_beside nodes values node)
beside_at (n ∷ nodes) (v ∷ values) (suc at) node a e =
    let less : nat_cmp n node ≡ Less = above nat_cmp nat_order n node nodes a.0 (has_at nodes at node e) in
    let here : (n == node) ≡ false = sym (nat_is_eq n node) ∙ ap is_eq less in
    (λ i. cond (here i) (Some v) (value_beside nodes values node)) ∙ beside_at nodes values at node a.1 e
