-- How many items pass a test, where those that pass come first.
use Rattle.std.proofs.Common.{◌≡◌, ℕ, zero, suc, ◌+◌, ◌≤◌, Bool, true, false, cond, List, [], ◌∷◌, length, ap, sym, ◌∙◌, arith, zero-add}
use Rattle.std.specs.Prelude.{count_by}
use Rattle.std.specs.List.Sorted.{IsPartitionPoint}
use Rattle.std.proofs.lemmas.List.Sums.{sum_by-cons}

pub count_from_point : {X : Type 0} (p : X → Bool) (xs : List X) (i : ℕ) → i ≤ length xs → IsPartitionPoint (λ y. p y ≡ true) (λ y. p y ≡ false) xs i → i ≡ count_by p xs
count_from_point p [] i h w = omega arith
count_from_point p (x ∷ xs) zero h w =
    let rest = count_from_point p xs zero (omega arith) ((λ k d low high. absurd (omega arith)), (λ k d low high. w.1 (suc k) d (omega arith) (omega arith))) in
    let first : p x ≡ false = w.1 0 x (omega arith) (omega arith) in
    rest ∙ sym (sum_by-cons (λ y. cond (p y) 1 0) x xs ∙ ap (λ b. cond b 1 0 + count_by p xs) first ∙ zero-add (count_by p xs))
count_from_point p (x ∷ xs) (suc i) h w =
    let rest = count_from_point p xs i (omega arith) ((λ k d low high. w.0 (suc k) d (omega arith) (omega arith)), (λ k d low high. w.1 (suc k) d (omega arith) (omega arith))) in
    let first : p x ≡ true = w.0 0 x (omega arith) (omega arith) in
    let all : count_by p (x ∷ xs) ≡ 1 + count_by p xs = sum_by-cons (λ y. cond (p y) 1 0) x xs ∙ ap (λ b. cond b 1 0 + count_by p xs) first in
    omega (arith, rest, all)
