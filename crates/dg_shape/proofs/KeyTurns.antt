-- The keys from the last to the first, as a loop takes them.
use Rattle.std.proofs.Common.{◌≡◌, ℕ, suc, ◌+◌, ◌-◌, ◌<◌, List, ◌∷◌, length, get_or, drop, ap, sym, ◌∙◌, drop-cons, arith}
use Rattle.std.proofs.Math.Seq.{drop-length}
use Rattle.std.specs.Prelude.{map}
use Rattle.std.specs.Ordering.{nat_cmp}
use Rattle.dg_values.specs.Ascending.{Ascends}
use Rattle.dg_shape.specs.declared.ordering.Key.{Key}
use Rattle.dg_shape.specs.Orders.{meant, ordered}
use Rattle.dg_shape.proofs.OrderLaws.{ordered_plain}

pub no_key_yet : (by : List Key) (nodes : List ℕ) → Ascends nat_cmp nodes → ordered (map meant (drop (length by - 0) by)) nodes ≡ nodes
no_key_yet by nodes a =
    let all : length by - 0 ≡ length by = omega arith in
    (λ i. ordered (map meant (drop (all i) by)) nodes) ∙ ((λ i. ordered (map meant (drop-length by i)) nodes) ∙ ordered_plain nodes a)

pub one_key_more : (by : List Key) (i : ℕ) (key : Key) → i < length by → key ≡ get_or by (length by - 1 - i) key → meant key ∷ map meant (drop (length by - i) by) ≡ map meant (drop (length by - (i + 1)) by)
one_key_more by i key h e =
    let at : length by - (i + 1) ≡ length by - 1 - i = omega arith in
    let next : length by - i ≡ suc (length by - 1 - i) = omega arith in
    let within : length by - 1 - i < length by = omega arith in
    (λ j. meant (e j) ∷ map meant (drop (next j) by)) ∙ (ap (map meant) (sym (drop-cons by (length by - 1 - i) key within)) ∙ λ j. map meant (drop (sym at j) by))
