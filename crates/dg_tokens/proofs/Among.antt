-- What is in a list, by recursion, and in its ascending form.
use Rattle.std.proofs.Common.{◌≡◌, ℕ, zero, suc, ◌<◌, List, [], ◌∷◌, length, get_or, refl, sym, ◌∙◌, arith, inl, inr, fold}
use Rattle.std.specs.Prelude.{◌⊎◌}
use Rattle.std.specs.List.{Contains}
use Rattle.std.specs.declared.cmp.Ordering.{Ordering}
use Rattle.std.specs.declared.cmp.Ordering.TheVariants.{Less, Equal, Greater}
use Rattle.dg_values.specs.Order.{text_cmp}
use Rattle.dg_values.specs.Ascending.{placed, with_one, ascending}
use Rattle.dg_values.proofs.OrderLaws.{same_bytes}

abbrev pub IsAmong : {X : Type 0} → List X → X → Type 0
IsAmong [] x = ⊥
IsAmong (y ∷ ys) x = (y ≡ x) ⊎ IsAmong ys x

pub among_contains : {X : Type 0} (xs : List X) (x : X) → IsAmong xs x → Contains xs x
among_contains [] x h = absurd h
among_contains (y ∷ ys) x (inl e) = (0, omega arith, e)
among_contains (y ∷ ys) x (inr h) = let c = among_contains ys x h in (suc c.0, omega (arith, c.1), c.2)

at_place : {X : Type 0} (xs : List X) (x : X) (k : ℕ) → k < length xs → get_or xs k x ≡ x → IsAmong xs x
at_place [] x k h e = absurd (omega arith)
at_place (y ∷ ys) x zero h e = inl e
at_place (y ∷ ys) x (suc k) h e = inr (at_place ys x k (omega arith) e)

pub contains_among : {X : Type 0} (xs : List X) (x : X) → Contains xs x → IsAmong xs x
contains_among xs x c = at_place xs x c.0 c.1 c.2

-- ---- a text at its place

from_placed : (o : Ordering) (x z : List ℕ) (zs more : List (List ℕ)) (t : List ℕ) → (IsAmong more t → IsAmong zs t ⊎ (x ≡ t)) → IsAmong (placed o x z zs more) t → IsAmong (z ∷ zs) t ⊎ (x ≡ t)
from_placed Less x z zs more t f (inl e) = inr e
from_placed Less x z zs more t f (inr h) = inl h
from_placed Equal x z zs more t f h = inl h
from_placed Greater x z zs more t f (inl e) = inl (inl e)
from_placed Greater x z zs more t f (inr h) = by_case (f h)
  where
    by_case : IsAmong zs t ⊎ (x ≡ t) → IsAmong (z ∷ zs) t ⊎ (x ≡ t)
    by_case (inl a) = inl (inr a)
    by_case (inr e) = inr e

from_with : (zs : List (List ℕ)) (x t : List ℕ) → IsAmong (with_one text_cmp zs x) t → IsAmong zs t ⊎ (x ≡ t)
from_with [] x t (inl e) = inr e
from_with [] x t (inr h) = absurd h
from_with (z ∷ zs) x t h = from_placed (text_cmp x z) x z zs (with_one text_cmp zs x) t (from_with zs x t) h

to_placed : (o : Ordering) (x z : List ℕ) (zs more : List (List ℕ)) (t : List ℕ) → text_cmp x z ≡ o → (IsAmong zs t ⊎ (x ≡ t) → IsAmong more t) → IsAmong (z ∷ zs) t ⊎ (x ≡ t) → IsAmong (placed o x z zs more) t
to_placed Less x z zs more t e f (inl h) = inr h
to_placed Less x z zs more t e f (inr h) = inl h
to_placed Equal x z zs more t e f (inl h) = h
to_placed Equal x z zs more t e f (inr h) = inl (sym (same_bytes x z e) ∙ h)
to_placed Greater x z zs more t e f (inl (inl h)) = inl h
to_placed Greater x z zs more t e f (inl (inr h)) = inr (f (inl h))
to_placed Greater x z zs more t e f (inr h) = inr (f (inr h))

to_with : (zs : List (List ℕ)) (x t : List ℕ) → IsAmong zs t ⊎ (x ≡ t) → IsAmong (with_one text_cmp zs x) t
to_with [] x t (inl h) = absurd h
to_with [] x t (inr e) = inl e
to_with (z ∷ zs) x t h = to_placed (text_cmp x z) x z zs (with_one text_cmp zs x) t refl (to_with zs x t) h

from_folded : (xs found : List (List ℕ)) (t : List ℕ) → IsAmong (fold (with_one text_cmp) found xs) t → IsAmong found t ⊎ IsAmong xs t
from_folded [] found t h = inl h
from_folded (x ∷ xs) found t h = by_case (from_folded xs (with_one text_cmp found x) t h)
  where
    by_kind : IsAmong found t ⊎ (x ≡ t) → IsAmong found t ⊎ IsAmong (x ∷ xs) t
    by_kind (inl a) = inl a
    by_kind (inr e) = inr (inl e)

    by_case : IsAmong (with_one text_cmp found x) t ⊎ IsAmong xs t → IsAmong found t ⊎ IsAmong (x ∷ xs) t
    by_case (inl a) = by_kind (from_with found x t a)
    by_case (inr a) = inr (inr a)

to_folded : (xs found : List (List ℕ)) (t : List ℕ) → IsAmong found t ⊎ IsAmong xs t → IsAmong (fold (with_one text_cmp) found xs) t
to_folded [] found t (inl h) = h
to_folded [] found t (inr h) = absurd h
to_folded (x ∷ xs) found t (inl h) = to_folded xs (with_one text_cmp found x) t (inl (to_with found x t (inl h)))
to_folded (x ∷ xs) found t (inr (inl e)) = to_folded xs (with_one text_cmp found x) t (inl (to_with found x t (inr e)))
to_folded (x ∷ xs) found t (inr (inr h)) = to_folded xs (with_one text_cmp found x) t (inr h)

no_first : (xs : List (List ℕ)) (t : List ℕ) → IsAmong {X = List ℕ} [] t ⊎ IsAmong xs t → IsAmong xs t
no_first xs t (inl h) = absurd h
no_first xs t (inr h) = h

pub from_ascending : (xs : List (List ℕ)) (t : List ℕ) → IsAmong (ascending text_cmp xs) t → IsAmong xs t
from_ascending xs t h = no_first xs t (from_folded xs [] t h)

pub to_ascending : (xs : List (List ℕ)) (t : List ℕ) → IsAmong xs t → IsAmong (ascending text_cmp xs) t
to_ascending xs t h = to_folded xs [] t (inr h)
