-- Texts with commas between them, from any place on.
use Rattle.std.proofs.Common.{◌≡◌, ℕ, zero, suc, ◌+◌, ◌<◌, ◌≤◌, List, [], ◌∷◌, ◌++◌, map, drop, length, flat_map, codes, refl, sym, ap, ◌∙◌, arith, append_assoc, length-append}
use Rattle.std.proofs.lemmas.List.{drop_all}
use Rattle.dg_tree.specs.Texts.{with_commas, comma_before}

-- texts with a comma between any two, and the one that the first has at its place
abbrev pub commas_from : ℕ → List (List ℕ) → List ℕ
commas_from place [] = []
commas_from place (text ∷ texts) = comma_before place ++ with_commas (text ∷ texts)

-- the texts of the items from a place on
abbrev pub texts_from : {X : Type 0} → (X → List ℕ) → ℕ → List X → List ℕ
texts_from text_of place items = commas_from place (map text_of (drop place items))

comma_later : (place : ℕ) → 0 < place → comma_before place ≡ codes ","
comma_later zero above = absurd (omega (arith, above))
comma_later (suc place) above = refl

each_with_comma : (place : ℕ) (texts : List (List ℕ)) → 0 < place → flat_map (λ text. codes "," ++ text) texts ≡ commas_from place texts
each_with_comma place [] above = refl
each_with_comma place (text ∷ texts) above = rw (comma_later place above) refl

-- one text, and those behind it
pub one_more : {X : Type 0} (text_of : X → List ℕ) (place : ℕ) (items : List X) (item : X) → drop place items ≡ item ∷ drop (place + 1) items
    → texts_from text_of place items ≡ comma_before place ++ (text_of item ++ texts_from text_of (place + 1) items)
one_more text_of place items item here =
    ap (λ left. commas_from place (map text_of left)) here
    ∙ ap (λ later. comma_before place ++ (text_of item ++ later)) (each_with_comma (place + 1) (map text_of (drop (place + 1) items)) (omega arith))

module _ {X : Type 0} (text_of : X → List ℕ) (place : ℕ) (items : List X) (item : X) (before end whole : List ℕ)
    (here : drop place items ≡ item ∷ drop (place + 1) items) (is_whole : before ++ (texts_from text_of place items ++ end) ≡ whole) where
  taken_apart : ((before ++ comma_before place) ++ text_of item) ++ (texts_from text_of (place + 1) items ++ end) ≡ whole
  taken_apart =
      append_assoc (before ++ comma_before place) (text_of item) _
      ∙ append_assoc before (comma_before place) _
      ∙ ap (λ later. before ++ (comma_before place ++ later)) (sym (append_assoc (text_of item) (texts_from text_of (place + 1) items) end))
      ∙ ap (λ later. before ++ later) (sym (append_assoc (comma_before place) (text_of item ++ texts_from text_of (place + 1) items) end))
      ∙ ap (λ later. before ++ (later ++ end)) (sym (one_more text_of place items item here))
      ∙ is_whole

  -- the whole is the same after one text more
  pub goes_on : (then after : List ℕ) → then ≡ before ++ comma_before place → after ≡ then ++ text_of item → after ++ (texts_from text_of (place + 1) items ++ end) ≡ whole
  goes_on then after comma text = ap (λ w. w ++ (texts_from text_of (place + 1) items ++ end)) (text ∙ ap (λ w. w ++ text_of item) comma) ∙ taken_apart

  -- what is too large with the comma is too large as a whole
  pub comma_passes : (limit : ℕ) → limit < length (before ++ comma_before place) → limit < length whole
  comma_passes limit above =
      omega (arith, above, length-append (before ++ comma_before place) (text_of item), length-append ((before ++ comma_before place) ++ text_of item) (texts_from text_of (place + 1) items ++ end), ap length taken_apart)

  -- what is too large with one text more is too large as a whole
  pub text_passes : (limit : ℕ) (then : List ℕ) → then ≡ before ++ comma_before place → limit < length (then ++ text_of item) → limit < length whole
  text_passes limit then comma above =
      omega (arith, above, ap (λ w. length (w ++ text_of item)) comma, length-append ((before ++ comma_before place) ++ text_of item) (texts_from text_of (place + 1) items ++ end), ap length taken_apart)

-- behind the last text stands the end
pub nothing_left : {X : Type 0} (text_of : X → List ℕ) (place : ℕ) (items : List X) (before end whole : List ℕ) → length items ≤ place
    → before ++ (texts_from text_of place items ++ end) ≡ whole → before ++ end ≡ whole
nothing_left text_of place items before end whole past is_whole =
    ap (λ left. before ++ (commas_from place (map text_of left) ++ end)) (sym (drop_all place items past)) ∙ is_whole

-- at the first place stand all
pub all_left : (texts : List (List ℕ)) → commas_from 0 texts ≡ with_commas texts
all_left [] = refl
all_left (text ∷ texts) = refl

-- what stands behind a beginning
pub opened : (old begun begin inside : List ℕ) → begun ≡ old ++ begin → begun ++ inside ≡ old ++ (begin ++ inside)
opened old begun begin inside is_begun = ap (λ w. w ++ inside) is_begun ∙ append_assoc old begin inside
