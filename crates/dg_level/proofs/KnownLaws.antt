-- Variables of which more is known, and the places of names.
use Rattle.std.proofs.Common.{◌≡◌, ℕ, zero, suc, Bool, true, false, List, [], ◌∷◌, map, length, refl, sym, ap, ◌∙◌, subst, eq-eqb, arith}
use Rattle.std.specs.Prelude.{Some, None, ◌||◌, ◌==◌, cond, find, fold, slice_get, slice_set}
use Rattle.std.specs.List.{position_or_len}
use Rattle.std.proofs.lemmas.Bool.{false≢true}
use Rattle.std.proofs.lemmas.List.{length-set}
use Rattle.std.proofs.lemmas.List.Folds.{find_at}
use Rattle.std.proofs.lemmas.Map.Views.{exact_unsigned_eq}
use Rattle.dg_values.specs.Order.{text_cmp, same_text}
use Rattle.dg_sets.proofs.MadeOrders.{text_order}
use Rattle.dg_sets.proofs.Sets.{is_itself, is_one}
use Rattle.dg_check.specs.declared.vars.Variable.{Variable}
use Rattle.dg_check.specs.Cycles.{is_place_in}
use Rattle.dg_check.specs.Names.{is_name_in}
use Rattle.dg_check.proofs.PartLaws.{named_at}
use Rattle.dg_check.proofs.ReachLaws.{or_left, or_right}
use Rattle.dg_level.specs.Given.{Known, with_known}
use Rattle.dg_level.proofs.SetPlaces.{places_in}

-- ---- tests

-- nothing is both
pub both : {b : Bool} → b ≡ true → b ≡ false → ⊥
both e f = false≢true (sym f ∙ e)

pub neither_left : (a b : Bool) → (a || b) ≡ false → a ≡ false
neither_left true b e = absurd (cc)
neither_left false b e = refl

pub neither_right : (a b : Bool) → (a || b) ≡ false → b ≡ false
neither_right true b e = absurd (cc)
neither_right false b e = e

-- one of two that isn't the other
pub or_else : (a b : Bool) → (a || b) ≡ true → a ≡ false → b ≡ true
or_else true b e f = absurd (cc)
or_else false b e f = e

or_else_left : (a b : Bool) → (a || b) ≡ true → b ≡ false → a ≡ true
or_else_left true b e f = refl
or_else_left false b e f = absurd (both e f)

-- what leads to a contradiction is false
pub refuted : (b : Bool) → (b ≡ true → ⊥) → b ≡ false
refuted true h = absurd (h refl)
refuted false h = refl

-- ---- lists, place by place

-- a change at one place leaves the others
get_other : {X : Type 0} (xs : List X) (i j : ℕ) (x : X) → (i ≡ j → ⊥) → slice_get (slice_set xs i x) j ≡ slice_get xs j
get_other [] i j x h = refl
get_other (y ∷ xs) zero zero x h = absurd (h refl)
get_other (y ∷ xs) zero (suc j) x h = refl
get_other (y ∷ xs) (suc i) zero x h = refl
get_other (y ∷ xs) (suc i) (suc j) x h = get_other xs i j x (λ e. h (ap suc e))

-- and makes two lists alike there
get_same : {X : Type 0} (xs ys : List X) (i : ℕ) (x : X) → length xs ≡ length ys → slice_get (slice_set xs i x) i ≡ slice_get (slice_set ys i x) i
get_same [] [] i x e = refl
get_same [] (y ∷ ys) i x e = absurd (omega (arith, e))
get_same (y ∷ xs) [] i x e = absurd (omega (arith, e))
get_same (y ∷ xs) (z ∷ ys) zero x e = refl
get_same (y ∷ xs) (z ∷ ys) (suc i) x e = get_same xs ys i x (omega (arith, e))

-- lists of one length end at the same place
pub none_alike : {X Y : Type 0} (xs : List X) (ys : List Y) (i : ℕ) → length xs ≡ length ys → slice_get xs i ≡ None → slice_get ys i ≡ None
none_alike xs [] i e f = refl
none_alike [] (y ∷ ys) i e f = absurd (omega (arith, e))
none_alike (x ∷ xs) (y ∷ ys) zero e f = absurd (cc)
none_alike (x ∷ xs) (y ∷ ys) (suc i) e f = none_alike xs ys i (omega (arith, e)) f

-- lists that are alike at each place are one
pub same_list : {X : Type 0} (xs ys : List X) → ((i : ℕ) → slice_get xs i ≡ slice_get ys i) → xs ≡ ys
same_list [] [] h = refl
same_list [] (y ∷ ys) h = let e = h 0 in absurd (cc)
same_list (x ∷ xs) [] h = let e = h 0 in absurd (cc)
same_list (x ∷ xs) (y ∷ ys) h =
    let here : x ≡ y = let e = h 0 in cc in
    let rest = same_list xs ys (λ i. h (suc i)) in
    λ i. here i ∷ rest i

-- ---- variables, of which more is known

pub counted : (known : List Known) (vars : List Variable) → length (fold with_known vars known) ≡ length vars
counted [] vars = refl
counted (k ∷ known) vars = counted known (with_known vars k) ∙ length-set vars k.0 k.1

-- nothing changes at another place
pub away : (known : List Known) (vars : List Variable) (place : ℕ) → is_place_in (places_in known) place ≡ false → slice_get (fold with_known vars known) place ≡ slice_get vars place
away [] vars place e = refl
away (k ∷ known) vars place e =
    away known (with_known vars k) place (neither_right (k.0 == place) (is_place_in (places_in known) place) e)
    ∙ get_other vars k.0 place k.1 (λ f. both (eq-eqb k.0 place f) (neither_left (k.0 == place) (is_place_in (places_in known) place) e))

-- at a place that is set, what stood before doesn't matter
pub set_alike : (known : List Known) (vars others : List Variable) (place : ℕ) → length vars ≡ length others → is_place_in (places_in known) place ≡ true
    → slice_get (fold with_known vars known) place ≡ slice_get (fold with_known others known) place
set_alike [] vars others place same e = absurd (cc)
set_alike (k ∷ known) vars others place same e = by (is_place_in (places_in known) place) refl (set_alike known (with_known vars k) (with_known others k) place (length-set vars k.0 k.1 ∙ same ∙ sym (length-set others k.0 k.1)))
  where
    by : (b : Bool) → is_place_in (places_in known) place ≡ b → (is_place_in (places_in known) place ≡ true → slice_get (fold with_known (with_known vars k) known) place ≡ slice_get (fold with_known (with_known others k) known) place)
        → slice_get (fold with_known (with_known vars k) known) place ≡ slice_get (fold with_known (with_known others k) known) place
    by true f rest = rest f
    by false f rest =
        let own : k.0 ≡ place = exact_unsigned_eq k.0 place (or_else_left (k.0 == place) (is_place_in (places_in known) place) e f) in
        let here = subst (λ (p : ℕ). slice_get (slice_set vars k.0 k.1) p ≡ slice_get (slice_set others k.0 k.1) p) own (get_same vars others k.0 k.1 same) in
        away known (with_known vars k) place f ∙ (here ∙ sym (away known (with_known others k) place f))

-- ---- places of names

-- what stands at a place is among all
pub has_at : (names : List (List ℕ)) (i : ℕ) (x : List ℕ) → slice_get names i ≡ Some x → is_name_in names x ≡ true
has_at [] i x e = absurd (cc)
has_at (n ∷ names) zero x e =
    let same : n ≡ x = cc in
    or_left (same_text x n) (is_name_in names x) (ap (same_text x) same ∙ is_itself text_cmp text_order x)
has_at (n ∷ names) (suc i) x e = or_right (same_text x n) (is_name_in names x) (has_at names i x e)

module _ (names : List (List ℕ)) where
  -- the place of a name
  abbrev pub place : List ℕ → ℕ
  place x = position_or_len (same_text x) names

  -- nothing stands at the place of what isn't among them
  pub unnamed : (x : List ℕ) → is_name_in names x ≡ false → slice_get names (place x) ≡ None
  unnamed x e = sym (find_at (same_text x) names) ∙ missing names e
    where
      missing : (ns : List (List ℕ)) → is_name_in ns x ≡ false → find (same_text x) ns ≡ None
      missing [] f = refl
      missing (n ∷ ns) f = (λ i. cond (neither_left (same_text x n) (is_name_in ns x) f i) (Some n) (find (same_text x) ns)) ∙ missing ns (neither_right (same_text x n) (is_name_in ns x) f)

  -- a name stands at no other name's place
  one_away : (x y : List ℕ) → is_name_in names y ≡ true → same_text x y ≡ false → (place y == place x) ≡ false
  one_away x y known e = refuted (place y == place x) (λ f. from (is_name_in names x) refl (ap (slice_get names) (sym (exact_unsigned_eq (place y) (place x) f)) ∙ named_at names y known))
    where
      from : (b : Bool) → is_name_in names x ≡ b → slice_get names (place x) ≡ Some y → ⊥
      from true f g =
          let same : x ≡ y = let h = sym (named_at names x f) ∙ g in cc in
          both (ap (same_text x) (sym same) ∙ is_itself text_cmp text_order x) e
      from false f g = let h = sym (unnamed x f) ∙ g in absurd (cc)

  -- nor at that of any of these
  pub place_away : (ys : List (List ℕ)) (x : List ℕ) → ((y : List ℕ) → is_name_in ys y ≡ true → is_name_in names y ≡ true) → is_name_in ys x ≡ false → is_place_in (map place ys) (place x) ≡ false
  place_away [] x known e = refl
  place_away (y ∷ ys) x known e =
      let here = one_away x y (known y (or_left (same_text y y) (is_name_in ys y) (is_itself text_cmp text_order y))) (neither_left (same_text x y) (is_name_in ys x) e) in
      let rest = place_away ys x (λ z f. known z (or_right (same_text z y) (is_name_in ys z) f)) (neither_right (same_text x y) (is_name_in ys x) e) in
      λ i. here i || rest i

  -- but at its own
  pub place_there : (ys : List (List ℕ)) (x : List ℕ) → is_name_in ys x ≡ true → is_place_in (map place ys) (place x) ≡ true
  place_there [] x e = absurd (cc)
  place_there (y ∷ ys) x e = by (same_text x y) refl e (place_there ys x)
    where
      by : (b : Bool) → same_text x y ≡ b → (b || is_name_in ys x) ≡ true → (is_name_in ys x ≡ true → is_place_in (map place ys) (place x) ≡ true) → is_place_in (map place (y ∷ ys)) (place x) ≡ true
      by true f g rest = or_left (place y == place x) (is_place_in (map place ys) (place x)) (eq-eqb (place y) (place x) (ap place (sym (is_one text_cmp text_order x y f))))
      by false f g rest = or_right (place y == place x) (is_place_in (map place ys) (place x)) (rest g)
