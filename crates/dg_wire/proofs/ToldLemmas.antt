-- The front of bytes to which more are added.
use Rattle.std.proofs.Common.{◌≡◌, ℕ, List, ◌++◌, take, drop, length, refl, sym, ap, ◌∙◌, append_assoc, take-append-drop}
use Rattle.std.proofs.lemmas.List.{take_at}

-- what bytes begin with
front : (a b w : List ℕ) → b ≡ a ++ w → take (length a) b ≡ a
front a b w is = ap (take (length a)) is ∙ take_at a w (length a) refl

-- bytes that begin with a longer front begin with the shorter one
pub kept : (a b c w : List ℕ) → b ≡ a ++ w → take (length b) c ≡ b → take (length a) c ≡ a
kept a b c w is still =
    let rest = drop (length b) c in
    front a c (w ++ rest) (sym (take-append-drop (length b) c) ∙ ap (λ x. x ++ rest) (still ∙ is) ∙ append_assoc a w rest)
