-- The callers of a new lock.
use Rattle.std.proofs.Common.{◌≡◌, ℕ, zero, suc, ◌+◌, ◌-◌, ◌<◌, List, [], ◌∷◌, ◌++◌, ap, ◌∙◌, arith}
use Rattle.atomic_table.specs.Seated.{TableId}
use Rattle.dg_turn.specs.Rule.{numbers_from}
use Rattle.dg_turn.specs.Values.{CallerValue, new_callers, new_caller}

pub first_number : (i n : ℕ) → i < n → numbers_from i (n - i) ≡ (i, []) ∷ numbers_from (i + 1) (n - (i + 1))
first_number i n h =
    let e : n - i ≡ suc (n - (i + 1)) = omega arith in
    let e' : suc i ≡ i + 1 = omega arith in
    ap (numbers_from i) e ∙ ap (λ z. (i, []) ∷ numbers_from z (n - (i + 1))) e'

module _ {E : Type 0} where
  pub new_callers-more : (z : TableId) (i m : ℕ) → new_callers {E = E} z i (m + 1) ≡ new_callers z i m ++ new_caller z (i + m) ∷ []
  new_callers-more z i zero = ap (λ (n : ℕ). new_caller z n ∷ []) (omega arith)
  new_callers-more z i (suc m) =
      let e : suc m + 1 ≡ suc (m + 1) = omega arith in
      let e' : suc i + m ≡ i + suc m = omega arith in
      ap (new_callers z i) e ∙ ap (λ (l : List (CallerValue E)). new_caller z i ∷ l) (new_callers-more z (suc i) m) ∙ ap (λ (n : ℕ). new_caller z i ∷ (new_callers z (suc i) m ++ new_caller z n ∷ [])) e'
