-- Filters that are written, by what stands within them.
use Rattle.std.proofs.Common.{◌≡◌, ℕ, ◌+◌, true, false, List, [], ◌∷◌, ◌++◌, map, append_assoc, refl, sym, ap, ◌∙◌, codes}
use Rattle.std.specs.Prelude.{Bool, flat_map, if◌then◌else◌}
use Rattle.std.proofs.lemmas.List.{replicate_more}
use Rattle.dg_text.specs.Spelling.{name_word, mark_word}
use Rattle.dg_text.specs.Written.{Word, written}
use Rattle.dg_print.specs.Printed.{Shown, in_round, between_words, nots, shown_alone}
use Rattle.dg_print.specs.Printing.{words_in}
use Rattle.dg_print.specs.declared.brackets.Within.{Within}
use Rattle.dg_print.specs.declared.brackets.Within.TheVariants as within
use Rattle.dg_print.proofs.WordsWritten.{written_both, two_written}

-- one "not" more
pub nots_more : (old : List ℕ) (n : ℕ) → old ++ written (nots (n + 1)) ≡ (old ++ written (nots n)) ++ codes "not "
nots_more old n = ap (λ (ws : List Word). old ++ written ws) (sym (replicate_more n (name_word (codes "not")))) ∙ two_written old (nots n) (name_word (codes "not") ∷ [])

-- what stands alone is the same anywhere
pub func_written : (a : Within) (old : List ℕ) (ws more : List Word) → old ++ written (words_in a (shown_alone (ws ++ more))) ≡ (old ++ written ws) ++ written more
func_written within.Brackets old ws more = two_written old ws more
func_written within.Or old ws more = two_written old ws more
func_written within.And old ws more = two_written old ws more

pub closed_written : (old : List ℕ) (ws more : List Word) → old ++ written (ws ++ in_round more) ≡ (((old ++ written ws) ++ codes "( ") ++ written more) ++ codes ") "
closed_written old ws more =
    two_written old ws (in_round more)
    ∙ ap (λ (l : List ℕ). (old ++ written ws) ++ (codes "( " ++ l)) (written_both more (mark_word 41 ∷ []))
    ∙ sym (append_assoc (old ++ written ws) (codes "( ") (written more ++ codes ") "))
    ∙ sym (append_assoc ((old ++ written ws) ++ codes "( ") (written more) (codes ") "))

-- words between the words of items are those between the items
between_map : {X S : Type 0} (w : Word) (f : S → List Word) (h : X → S) (xs : List X) → between_words w f (map h xs) ≡ between_words w (λ x. f (h x)) xs
between_map w f h [] = refl
between_map {X = X} {S = S} w f h (x ∷ xs) = ap (λ (l : List Word). f (h x) ++ l) (flat xs)
  where
    flat : (ys : List X) → flat_map (λ y. w ∷ f y) (map h ys) ≡ flat_map (λ y. w ∷ f (h y)) ys
    flat [] = refl
    flat (y ∷ ys) = ap (λ (l : List Word). w ∷ f (h y) ++ l) (flat ys)

-- the words of an or or an and that stands bare or not, by those of its items
module _ {X : Type 0} (show : X → Shown) (bare : Bool) (shown_as : List Word → List Word) (n : ℕ) (is : (ws : List Word) → shown_as ws ≡ (if bare then ws else nots n ++ in_round ws)) where
  pub items_bare : (w : Word) (f : Shown → List Word) (xs : List X) → bare ≡ true → shown_as (between_words w f (map show xs)) ≡ between_words w (λ x. f (show x)) xs
  items_bare w f xs e = is _ ∙ rw e (between_map w f show xs)

  pub items_closed : (w : Word) (f : Shown → List Word) (xs : List X) → bare ≡ false → shown_as (between_words w f (map show xs)) ≡ nots n ++ in_round (between_words w (λ x. f (show x)) xs)
  items_closed w f xs e = is _ ∙ rw e (ap (λ (ws : List Word). nots n ++ in_round ws) (between_map w f show xs))
