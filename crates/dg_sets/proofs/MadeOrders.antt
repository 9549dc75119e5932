-- Orders of numbers and texts, and orders made of orders.
use Rattle.std.proofs.Common.{◌≡◌, refl, ap, ◌∙◌}
use Rattle.std.specs.declared.cmp.Ordering.{Ordering}
use Rattle.std.specs.declared.cmp.Ordering.TheVariants.{Less, Equal, Greater}
use Rattle.std.specs.Ordering.{nat_cmp, ordering_then, is_eq}
use Rattle.std.specs.Cmp.{IsTotalOrder, nat_cmp_total, on_total, then_total, tied_itself, unsigned_ties, unsigned_Decides}
use Rattle.std.specs.Cmp.Lexicographic.{nat_list_cmp_total}
use Rattle.dg_values.specs.Order.{text_cmp, IsOrder}
use Rattle.dg_values.proofs.OrderLaws.{same_bytes}

-- std's laws, and that only the same tie
pub order_from : {X : Type 0} (cmp : X → X → Ordering) → IsTotalOrder cmp → ((a b : X) → cmp a b ≡ Equal → a ≡ b) → IsOrder cmp
order_from cmp t same = record { antisymm = t.antisymm; trans = t.trans; same = same; itself = tied_itself t }

-- and back
pub total_from : {X : Type 0} (cmp : X → X → Ordering) → IsOrder cmp → IsTotalOrder cmp
total_from cmp o = record { antisymm = o.antisymm; trans = o.trans; congr = λ x y z e. ap (λ w. cmp w z) (o.same x y e) }

pub nat_order : IsOrder nat_cmp
nat_order = order_from nat_cmp nat_cmp_total (λ a b e. (unsigned_Decides a b).0 (unsigned_ties a b ∙ ap is_eq e))

pub text_order : IsOrder text_cmp
text_order = order_from text_cmp nat_list_cmp_total same_bytes

pub then_parts : (a b : Ordering) → ordering_then a b ≡ Equal → (a ≡ Equal) × (b ≡ Equal)
then_parts Less b e = absurd (cc)
then_parts Equal b e = (refl, e)
then_parts Greater b e = absurd (cc)

-- one order, and then another
pub then_order : {X A B : Type 0} (f : X → A) (g : X → B) (R : A → A → Ordering) (S : B → B → Ordering) → IsOrder R → IsOrder S → ((x y : X) → f x ≡ f y → g x ≡ g y → x ≡ y) → IsOrder (λ x y. ordering_then (R (f x) (f y)) (S (g x) (g y)))
then_order f g R S r s join =
    let t = then_total (on_total f (total_from R r)) (on_total g (total_from S s)) in
    record {
      antisymm = t.antisymm;
      trans = t.trans;
      same = λ x y e. let p = then_parts (R (f x) (f y)) (S (g x) (g y)) e in join x y (r.same (f x) (f y) p.0) (s.same (g x) (g y) p.1);
      itself = tied_itself t;
    }

-- an order by what stands for each thing, where that tells them apart
pub by_order : {X A : Type 0} (f : X → A) (R : A → A → Ordering) → IsOrder R → ((x y : X) → f x ≡ f y → x ≡ y) → IsOrder (λ x y. R (f x) (f y))
by_order f R r join =
    let t = on_total f (total_from R r) in
    record { antisymm = t.antisymm; trans = t.trans; same = λ x y e. join x y (r.same (f x) (f y) e); itself = tied_itself t }
