-- Each copy was merged up to the line at most.
use Rattle.std.proofs.Common.{sym, subst, arith, ℕ, ◌≤◌, List, [], ◌∷◌, ◌++◌, Bool, true, false, not, cond, map}
use Rattle.std.specs.Prelude.{Option, Some, None, filter, option_map, unwrap_or}
use Rattle.std.specs.List.{AllByRecursion}
use Rattle.dg_sets.proofs.Sets.{all_with, all_passed}
use Rattle.dg_oracle.proofs.Oracles.{all_push}
use Rattle.dg_keys.specs.declared.record.Tablet.{Tablet}
use Rattle.dg_zero.specs.declared.entry.Entry.{Entry}
use Rattle.dg_zero.specs.declared.entry.Event.{Event}
use Rattle.dg_zero.specs.declared.entry.Event.TheVariants.{Alter, MoveCopied, Flip, MoveOff, Rolled, Line}
use Rattle.dg_zero.specs.declared.tablets.Place.{Place}
use Rattle.dg_zero.specs.Counters.{line}
use Rattle.dg_zero.specs.Legal.{Fits, IsLegal}
use Rattle.dg_zero.specs.Places.{Copy, Places, places, places_after, tablets, copies, copy_at, is_copy_at, place_of, fresh_copy, mark_at, with_image, with_until, without_image, has_image, is_kept_by}
use Rattle.dg_zero.proofs.Histories.{places_push, legal_push}
use Rattle.dg_zero.proofs.LawsOfHistories.{kept_from, anyone, line_rises}
use Rattle.dg_zero.proofs.LookUps.{all_on}

-- the copy was merged up to a timestamp at most
abbrev IsLow : ℕ → Copy → Type 0
IsLow most c = c.mark ≤ most

mark_low : (most : ℕ) (cs : List Copy) (pred : List ℕ) (group : ℕ) → AllByRecursion (IsLow most) cs → mark_at cs pred group ≤ most
mark_low most [] pred group a = omega arith
mark_low most (c ∷ cs) pred group a = by (is_copy_at pred group c) (mark_low most cs pred group a.1)
  where
    by : (v : Bool) → mark_at cs pred group ≤ most → unwrap_or (option_map (λ (d : Copy). d.mark) (cond v (Some c) (copy_at cs pred group))) 0 ≤ most
    by true rest = a.0
    by false rest = rest

new_low : (most : ℕ) (cs : List Copy) (fs : List Tablet) → AllByRecursion (IsLow most) cs → AllByRecursion (IsLow most) (cs ++ map fresh_copy fs)
new_low most [] [] a = tt
new_low most [] (t ∷ fs) a = (omega arith, new_low most [] fs tt)
new_low most (c ∷ cs) fs a = (a.0, new_low most cs fs a.1)

image_low : (most : ℕ) (cs : List Copy) (o : Option Place) → AllByRecursion (IsLow most) cs → AllByRecursion (IsLow most) (with_image cs o)
image_low most cs None a = a
image_low most cs (Some t) a = all_push (IsLow most) cs (record { pred = t.pred; group = t.to; mark = mark_at cs t.pred t.group; until = None }) a (mark_low most cs t.pred t.group a)

until_low : (most : ℕ) (cs : List Copy) (o : Option Place) (until : ℕ) → AllByRecursion (IsLow most) cs → AllByRecursion (IsLow most) (with_until cs o until)
until_low most cs None until a = a
until_low most cs (Some t) until a = all_on (IsLow most) t.pred t.group (λ c. record { pred = c.pred; group = c.group; mark = c.mark; until = Some until }) (λ c low. low) cs a

off_low : (most : ℕ) (cs : List Copy) (o : Option Place) → AllByRecursion (IsLow most) cs → AllByRecursion (IsLow most) (without_image cs o)
off_low most cs None a = a
off_low most cs (Some t) a = by (has_image t.phase)
  where
    by : (v : Bool) → AllByRecursion (IsLow most) (cond v (filter (λ c. not (is_copy_at t.pred t.to c)) cs) cs)
    by true = all_passed (IsLow most) (λ c. not (is_copy_at t.pred t.to c)) cs a
    by false = a

low_after : (n : ℕ) (g : List Entry) (author : ℕ) (event : Event) → Fits n g author event → AllByRecursion (IsLow (line g)) (copies g) → AllByRecursion (IsLow (line g)) (places_after (places g) event).copies
low_after n g author (Alter start newer written) f a = new_low (line g) (copies g) written.fresh a
low_after n g author (MoveCopied pred) f a = image_low (line g) (copies g) (place_of (tablets g) pred) a
low_after n g author (Flip pred until) f a = until_low (line g) (copies g) (place_of (tablets g) pred) until a
low_after n g author (MoveOff pred) f a = off_low (line g) (copies g) (place_of (tablets g) pred) a
low_after n g author (Rolled pred group upto) f a = all_on (IsLow (line g)) pred group (λ c. record { pred = c.pred; group = c.group; mark = upto; until = c.until }) (λ c low. f.1.below) (copies g) a
low_after n g author (Line new) f a = all_passed (IsLow (line g)) (λ c. is_kept_by new c.until) (copies g) a
low_after n g author event f a = a

pub marks_low : (n : ℕ) (h : List Entry) → IsLegal n h → AllByRecursion (λ (c : Copy). c.mark ≤ line h) (copies h)
marks_low n h l = kept_from n (λ a. Unit {0}) (λ g. AllByRecursion (IsLow (line g)) (copies g)) step [] h tt l (anyone h) tt
  where
    step : (g : List Entry) (e : Entry) → Unit {0} → IsLegal n g → Fits n g e.author e.event → AllByRecursion (IsLow (line g)) (copies g) → AllByRecursion (IsLow (line (g ++ e ∷ []))) (copies (g ++ e ∷ []))
    step g e o l f a =
        let rises : line g ≤ line (g ++ e ∷ []) = line_rises n g (e ∷ []) (legal_push n g e l f) in
        subst (λ (s : Places). AllByRecursion (IsLow (line (g ++ e ∷ []))) s.copies) (sym (places_push g e))
        (all_with (IsLow (line g)) (IsLow (line (g ++ e ∷ []))) (places_after (places g) e.event).copies (λ c low. omega (arith, low, rises)) (low_after n g e.author e.event f a))
