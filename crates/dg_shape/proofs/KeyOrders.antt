-- The orders of nodes by keys are total, and tell any two nodes apart.
use Rattle.std.proofs.Common.{◌≡◌, ℕ, Bool, true, false, List, [], ◌∷◌, refl, ap, sym}
use Rattle.std.specs.Prelude.{Option, Some, None, if◌then◌else◌}
use Rattle.std.specs.declared.cmp.Ordering.{Ordering}
use Rattle.std.specs.declared.cmp.Ordering.TheVariants.{Less, Equal}
use Rattle.std.specs.Ordering.{ordering_reverse}
use Rattle.dg_values.specs.declared.value.Value.{Value}
use Rattle.dg_values.specs.Order.{value_cmp, IsOrder}
use Rattle.dg_values.proofs.OrderLaws.{value_order}
use Rattle.dg_sets.proofs.MadeOrders.{nat_order, then_order}
use Rattle.dg_shape.specs.Orders.{key_cmp, node_cmp}

-- the other way round
turned_order : {X : Type 0} (cmp : X → X → Ordering) → IsOrder cmp → IsOrder (λ a b. cmp b a)
turned_order cmp o = record {
  antisymm = λ a b. o.antisymm b a;
  trans = λ a b c p q. o.trans c b a q p;
  same = λ a b e. sym (o.same b a e);
  itself = o.itself;
}

either_order : (down : Bool) → IsOrder (λ (a b : Value). if down then value_cmp b a else value_cmp a b)
either_order true = turned_order value_cmp value_order
either_order false = value_order

pub key_order : (down : Bool) → IsOrder (key_cmp down)
key_order down = record { antisymm = antisymm; trans = trans; same = same; itself = itself }
  where
    o : IsOrder (λ (a b : Value). if down then value_cmp b a else value_cmp a b)
    o = either_order down

    antisymm : (a b : Option Value) → key_cmp down a b ≡ ordering_reverse (key_cmp down b a)
    antisymm None None = refl
    antisymm None (Some b) = refl
    antisymm (Some a) None = refl
    antisymm (Some a) (Some b) = o.antisymm a b

    trans : (a b c : Option Value) → key_cmp down a b ≡ Less → key_cmp down b c ≡ Less → key_cmp down a c ≡ Less
    trans None None c e f = absurd (cc)
    trans None (Some b) c e f = absurd (cc)
    trans (Some a) None None e f = absurd (cc)
    trans (Some a) None (Some c) e f = absurd (cc)
    trans (Some a) (Some b) None e f = refl
    trans (Some a) (Some b) (Some c) e f = o.trans a b c e f

    same : (a b : Option Value) → key_cmp down a b ≡ Equal → a ≡ b
    same None None e = refl
    same None (Some b) e = absurd (cc)
    same (Some a) None e = absurd (cc)
    same (Some a) (Some b) e = ap Some (o.same a b e)

    itself : (a : Option Value) → key_cmp down a a ≡ Equal
    itself None = refl
    itself (Some a) = o.itself a

pub node_order : (keys : List (Bool × (ℕ → Option Value))) → IsOrder (node_cmp keys)
node_order [] = nat_order
node_order (key ∷ keys) = then_order key.1 (λ n. n) (key_cmp key.0) (node_cmp keys) (key_order key.0) (node_order keys) (λ a b e f. f)
