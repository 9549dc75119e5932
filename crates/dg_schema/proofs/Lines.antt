-- Counting line feeds as a loop does.
use Rattle.std.proofs.Common.{◌≡◌, ℕ, ◌+◌, ◌-◌, length-drop, ◌≤◌, ◌<◌, List, [], ◌∷◌, ◌++◌, length, take, drop, get_or, refl, ap, ◌∙◌, arith}
use Rattle.std.specs.Prelude.{flat_map}
use Rattle.std.proofs.lemmas.List.{drop_more, drop_all, take_more, append-nil}
use Rattle.std.proofs.lemmas.Grind.{flat_map-append}
use Rattle.dg_schema.specs.Whole.{line_feeds}

one : (b : ℕ) (rest : List ℕ) → b ≡ 10 → line_feeds (b ∷ rest) ≡ 1 + line_feeds rest
unfolding line_feeds
one b rest h = rw h refl

none : (b : ℕ) (rest : List ℕ) → (b ≡ 10 → ⊥) → line_feeds (b ∷ rest) ≡ line_feeds rest
unfolding line_feeds
none b rest h = grind arith

pub feeds_yes : (text : List ℕ) (i : ℕ) → i < length text → get_or text i 0 ≡ 10 → line_feeds (drop i text) ≡ 1 + line_feeds (drop (i + 1) text)
feeds_yes text i lt h = ap line_feeds (drop_more text i 0 lt) ∙ one (get_or text i 0) (drop (i + 1) text) h

pub feeds_no : (text : List ℕ) (i : ℕ) → i < length text → (get_or text i 0 ≡ 10 → ⊥) → line_feeds (drop i text) ≡ line_feeds (drop (i + 1) text)
feeds_no text i lt h = ap line_feeds (drop_more text i 0 lt) ∙ none (get_or text i 0) (drop (i + 1) text) h

pub feeds_end : (text : List ℕ) (i : ℕ) → length text ≤ i → line_feeds (drop i text) ≡ 0
unfolding line_feeds
feeds_end text i le = rw (drop_all i text le) refl

-- what is left from a place on
pub left_from : (text : List ℕ) (end : ℕ) → end ≤ length text → length text - length (drop end text) ≡ end
left_from text end le = omega (arith, length-drop end text)

-- what the first ones print, and one more
pub flat_more : {X : Type 0} (f : X → List ℕ) (xs : List X) (i : ℕ) (d : X) → i < length xs → flat_map f (take (i + 1) xs) ≡ flat_map f (take i xs) ++ f (get_or xs i d)
flat_more f xs i d lt = ap (flat_map f) (take_more xs i d lt) ∙ flat_map-append f (take i xs) (get_or xs i d ∷ []) ∙ ap (λ (more : List ℕ). flat_map f (take i xs) ++ more) (append-nil (f (get_or xs i d)))
