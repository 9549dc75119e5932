-- Texts that begin with others.
use Rattle.std.proofs.Common.{◌≡◌, ℕ, Bool, true, false, List, [], ◌∷◌, ◌++◌, length, take, drop, refl, ap, sym, ◌∙◌}
use Rattle.std.specs.Prelude.{◌&&◌, ◌==◌, bytes_eq, Option, Some, None, MatchOption, option_map}
use Rattle.dg_shape.specs.Keyed.{is_rest}

and_moved : (a b c : Bool) → (a && (b && c)) ≡ ((a && b) && c)
and_moved true b c = refl
and_moved false b c = refl

begins_split : (front text back : List ℕ) → bytes_eq text (front ++ back) ≡ (bytes_eq (take (length front) text) front && bytes_eq (drop (length front) text) back)
begins_split [] text back = refl
begins_split (x ∷ front) [] back = refl
begins_split (x ∷ front) (y ∷ text) back =
    ap (λ (b : Bool). (y == x) && b) (begins_split front text back) ∙ and_moved (y == x) (bytes_eq (take (length front) text) front) (bytes_eq (drop (length front) text) back)

-- what `strip_prefix` says
pub behind_is : {R : Type 0} (now : R → List ℕ) (L : R → Type 0) (o : Option R) (text front : List ℕ)
    → MatchOption o (bytes_eq (take (length front) text) front ≡ false) (λ r. (bytes_eq (take (length front) text) front ≡ true) × (now r ≡ drop (length front) text) × L r)
    → (back : List ℕ) → bytes_eq text (front ++ back) ≡ is_rest (option_map now o) back
behind_is now L None text front h back = begins_split front text back ∙ ap (λ (b : Bool). b && bytes_eq (drop (length front) text) back) h
behind_is now L (Some r) text front h back =
    begins_split front text back ∙ (ap (λ (b : Bool). b && bytes_eq (drop (length front) text) back) h.0 ∙ λ i. bytes_eq (sym h.1 i) back)
