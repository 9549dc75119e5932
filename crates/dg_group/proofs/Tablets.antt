-- Tablets stay, and new ones are of predicates that had none.
use Rattle.std.proofs.Common.{◌≡◌, ◌∙◌, sym, refl, ℕ, List, [], ◌∷◌, ◌++◌, Bool, true, false, cond, map}
use Rattle.std.specs.Prelude.{◌||◌}
use Rattle.std.specs.List.{AllByRecursion, list_any}
use Rattle.dg_sets.proofs.Sets.{all_with}
use Rattle.dg_schema.specs.declared.definition.PredDef.{PredDef}
use Rattle.dg_keys.specs.declared.record.Tablet.{Tablet}
use Rattle.dg_zero.specs.declared.entry.Event.{Event}
use Rattle.dg_zero.specs.declared.entry.Event.TheVariants.{Alter, MoveStart, MoveCopied, MoveHold, Flip, MoveOff, Rolled, Line}
use Rattle.dg_zero.specs.declared.tablets.Phase.TheVariants.{Started, Copied, Held}
use Rattle.dg_zero.specs.declared.tablets.Place.{Place}
use Rattle.dg_zero.specs.Places.{Places, places_after, is_place_of, in_phase, at_rest, fresh, fresh_place, fewest, groups}
use Rattle.dg_zero.proofs.DeclaredTablets.{any_on}
use Rattle.dg_group.proofs.Entries.{any_joined, or_true}

-- ---- tablets stay

pub tablets_stay : (s : Places) (event : Event) (p : List ℕ) → list_any (is_place_of p) s.tablets ≡ true → list_any (is_place_of p) (places_after s event).tablets ≡ true
tablets_stay s (Alter start newer written) p e = any_joined (is_place_of p) s.tablets (map fresh_place written.fresh) ∙ or_true (list_any (is_place_of p) s.tablets) (list_any (is_place_of p) (map fresh_place written.fresh)) e
tablets_stay s (MoveStart pred group) p e = any_on p pred (in_phase Started group) (λ t. refl) s.tablets ∙ e
tablets_stay s (MoveCopied pred) p e = any_on p pred (λ t. in_phase Copied t.to t) (λ t. refl) s.tablets ∙ e
tablets_stay s (MoveHold pred) p e = any_on p pred (λ t. in_phase Held t.to t) (λ t. refl) s.tablets ∙ e
tablets_stay s (Flip pred until) p e = any_on p pred (λ t. at_rest t.pred t.to) (λ t. refl) s.tablets ∙ e
tablets_stay s (MoveOff pred) p e = any_on p pred (λ t. at_rest t.pred t.group) (λ t. refl) s.tablets ∙ e
tablets_stay s (Rolled pred group upto) p e = e
tablets_stay s (Line line) p e = e
tablets_stay s event p e = e

-- ---- new tablets are new

pub not_front : (a b : Bool) → (a || b) ≡ false → a ≡ false
not_front true b e = absurd (cc)
not_front false b e = refl

pub fresh_new : (n : ℕ) (ts : List Place) (newer : List PredDef) → AllByRecursion (λ t. list_any (is_place_of t.pred) ts ≡ false) (fresh n ts newer)
fresh_new n ts [] = tt
fresh_new n ts (d ∷ newer) = by (list_any (is_place_of d.name) ts) refl (fresh_new n ts newer) (fresh_new n (ts ++ at_rest d.name (fewest ts (groups n)) ∷ []) newer)
  where
    by : (v : Bool) → list_any (is_place_of d.name) ts ≡ v → AllByRecursion (λ t. list_any (is_place_of t.pred) ts ≡ false) (fresh n ts newer) → AllByRecursion (λ t. list_any (is_place_of t.pred) (ts ++ at_rest d.name (fewest ts (groups n)) ∷ []) ≡ false) (fresh n (ts ++ at_rest d.name (fewest ts (groups n)) ∷ []) newer) → AllByRecursion (λ (t : Tablet). list_any (is_place_of t.pred) ts ≡ false) (cond v (fresh n ts newer) ((record { pred = d.name; group = fewest ts (groups n) }) ∷ fresh n (ts ++ at_rest d.name (fewest ts (groups n)) ∷ []) newer))
    by true q old new = old
    by false q old new =
        (q, all_with (λ (t : Tablet). list_any (is_place_of t.pred) (ts ++ at_rest d.name (fewest ts (groups n)) ∷ []) ≡ false) (λ (t : Tablet). list_any (is_place_of t.pred) ts ≡ false) (fresh n (ts ++ at_rest d.name (fewest ts (groups n)) ∷ []) newer) (λ t e. not_front (list_any (is_place_of t.pred) ts) (list_any (is_place_of t.pred) (at_rest d.name (fewest ts (groups n)) ∷ [])) (sym (any_joined (is_place_of t.pred) ts (at_rest d.name (fewest ts (groups n)) ∷ [])) ∙ e)) new)
