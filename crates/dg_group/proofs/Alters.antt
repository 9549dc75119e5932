-- An alter that brings tablets keeps a group in step.
use Rattle.std.proofs.Common.{◌≡◌, ◌<◌, ◌∙◌, sym, ap, subst, arith, refl, ℕ, List, [], ◌∷◌, ◌++◌, Bool, true, false, cond, map, inl, inr}
use Rattle.std.specs.Prelude.{◌==◌, ◌&&◌, ◌||◌, nat_lt, nat_le, Option, Some, None, filter, not, if◌then◌else◌, option_map}
use Rattle.std.specs.List.{AllByRecursion, list_any}
use Rattle.std.proofs.lemmas.Bool.{both_ways}
use Rattle.dg_values.specs.Order.{same_text}
use Rattle.dg_sets.proofs.Sets.{all_with, all_passed}
use Rattle.dg_schema.specs.declared.definition.PredDef.{PredDef}
use Rattle.dg_schema.proofs.Names.{same_text-equal, same_text-itself, same_text-turned}
use Rattle.dg_keys.specs.declared.record.Record.{Record}
use Rattle.dg_keys.specs.declared.record.Tablet.{Tablet}
use Rattle.dg_zero.specs.declared.entry.Entry.{Entry}
use Rattle.dg_zero.specs.declared.entry.Event.{Event}
use Rattle.dg_zero.specs.declared.entry.Event.TheVariants.{Commit, Alter, MoveStart, MoveCopied, MoveHold, Flip, MoveOff, Rolled, Line}
use Rattle.dg_zero.specs.declared.tablets.Place.{Place}
use Rattle.dg_zero.specs.Counters.{next}
use Rattle.dg_zero.specs.Places.{Copy, Places, places, places_after, tablets, copies, copy_at, is_copy_at, is_place_of, place_of, fresh_copy, fresh_place, fresh, at_rest, fewest, groups, on_copy, mark_at, with_image, with_until, without_image, has_image, is_kept_by}
use Rattle.dg_zero.specs.Records.{record_of, records}
use Rattle.dg_zero.specs.Legal.{Fits, IsLegal}
use Rattle.dg_zero.proofs.Histories.{next_push, places_push, records_push}
use Rattle.dg_zero.proofs.LawsOfHistories.{kept_from, anyone}
use Rattle.dg_group.specs.Stands.{IsLast, is_brought, has_tablet, standing_in, records_above, IsAsItCame}
use Rattle.dg_group.specs.Laws.{AltersKeepInStep}
use Rattle.dg_group.proofs.Between.{found_any}
use Rattle.dg_group.proofs.Entries.{legal_last, all_joined, any_joined, or_true, brought_longer, all_still, last_drawn, filter_joined}
use Rattle.dg_group.proofs.Tablets.{tablets_stay, fresh_new}

-- the predicate has a tablet
abbrev pub HasPlace : List Place → List ℕ → Type 0
HasPlace ts p = list_any (is_place_of p) ts ≡ true

-- ---- copies are of tablets

all_on_copy : (P : Copy → Type 0) (pred : List ℕ) (group : ℕ) (f : Copy → Copy) (cs : List Copy) → ((c : Copy) → P c → P (f c)) → AllByRecursion P cs → AllByRecursion P (on_copy pred group f cs)
all_on_copy P pred group f [] k a = tt
all_on_copy P pred group f (c ∷ cs) k a = (by (is_copy_at pred group c), all_on_copy P pred group f cs k a.1)
  where
    by : (v : Bool) → P (cond v (f c) c)
    by true = k c a.0
    by false = a.0

fresh_placed : (ts : List Place) (fs : List Tablet) → AllByRecursion (λ (c : Copy). HasPlace (ts ++ map fresh_place fs) c.pred) (map fresh_copy fs)
fresh_placed ts fs = each fs fs (λ p e. any_joined (is_place_of p) ts (map fresh_place fs) ∙ later (list_any (is_place_of p) ts) (list_any (is_place_of p) (map fresh_place fs)) e)
  where
    later : (a b : Bool) → b ≡ true → (a || b) ≡ true
    later true b e = refl
    later false b e = e

    each : (all some : List Tablet) → ((p : List ℕ) → list_any (is_place_of p) (map fresh_place some) ≡ true → HasPlace (ts ++ map fresh_place fs) p) → AllByRecursion (λ (c : Copy). HasPlace (ts ++ map fresh_place fs) c.pred) (map fresh_copy some)
    each all [] k = tt
    each all (t ∷ some) k =
        (k t.pred (or_true (same_text t.pred t.pred) (list_any (is_place_of t.pred) (map fresh_place some)) (same_text-itself t.pred)), each all some (λ p e. k p (later (same_text t.pred p) (list_any (is_place_of p) (map fresh_place some)) e)))

image_placed : (ts : List Place) (cs : List Copy) (pred : List ℕ) (o : Option Place) → place_of ts pred ≡ o → AllByRecursion (λ (c : Copy). HasPlace ts c.pred) cs → AllByRecursion (λ (c : Copy). HasPlace ts c.pred) (with_image cs o)
image_placed ts cs pred None e a = a
image_placed ts cs pred (Some t) e a =
    all_joined (λ (c : Copy). HasPlace ts c.pred) cs ((record { pred = t.pred; group = t.to; mark = mark_at cs t.pred t.group; until = None }) ∷ []) a (found_any (is_place_of pred) (is_place_of t.pred) ts t e (same_text-itself t.pred), tt)

until_placed : (ts : List Place) (cs : List Copy) (o : Option Place) (until : ℕ) → AllByRecursion (λ (c : Copy). HasPlace ts c.pred) cs → AllByRecursion (λ (c : Copy). HasPlace ts c.pred) (with_until cs o until)
until_placed ts cs None until a = a
until_placed ts cs (Some t) until a = all_on_copy (λ (c : Copy). HasPlace ts c.pred) t.pred t.group (λ c. record { pred = c.pred; group = c.group; mark = c.mark; until = Some until }) cs (λ c h. h) a

off_placed : (ts : List Place) (cs : List Copy) (o : Option Place) → AllByRecursion (λ (c : Copy). HasPlace ts c.pred) cs → AllByRecursion (λ (c : Copy). HasPlace ts c.pred) (without_image cs o)
off_placed ts cs None a = a
off_placed ts cs (Some t) a = by (has_image t.phase)
  where
    by : (v : Bool) → AllByRecursion (λ (c : Copy). HasPlace ts c.pred) (cond v (filter (λ c. not (is_copy_at t.pred t.to c)) cs) cs)
    by true = all_passed (λ (c : Copy). HasPlace ts c.pred) (λ c. not (is_copy_at t.pred t.to c)) cs a
    by false = a

-- the copies after an event are of tablets that were there, or that it brings
placed_after : (s : Places) (event : Event) → AllByRecursion (λ (c : Copy). HasPlace s.tablets c.pred) s.copies → AllByRecursion (λ (c : Copy). HasPlace (places_after s event).tablets c.pred) (places_after s event).copies
placed_after s (Alter start newer written) a =
    all_joined (λ (c : Copy). HasPlace (s.tablets ++ map fresh_place written.fresh) c.pred) s.copies (map fresh_copy written.fresh)
    (all_with (λ (c : Copy). HasPlace s.tablets c.pred) (λ (c : Copy). HasPlace (s.tablets ++ map fresh_place written.fresh) c.pred) s.copies (λ c h. tablets_stay s (Alter start newer written) c.pred h) a)
    (fresh_placed s.tablets written.fresh)
placed_after s (MoveStart pred group) a = all_with (λ (c : Copy). HasPlace s.tablets c.pred) (λ (c : Copy). HasPlace (places_after s (MoveStart pred group)).tablets c.pred) s.copies (λ c h. tablets_stay s (MoveStart pred group) c.pred h) a
placed_after s (MoveCopied pred) a = all_with (λ (c : Copy). HasPlace s.tablets c.pred) (λ (c : Copy). HasPlace (places_after s (MoveCopied pred)).tablets c.pred) (with_image s.copies (place_of s.tablets pred)) (λ c h. tablets_stay s (MoveCopied pred) c.pred h) (image_placed s.tablets s.copies pred (place_of s.tablets pred) refl a)
placed_after s (MoveHold pred) a = all_with (λ (c : Copy). HasPlace s.tablets c.pred) (λ (c : Copy). HasPlace (places_after s (MoveHold pred)).tablets c.pred) s.copies (λ c h. tablets_stay s (MoveHold pred) c.pred h) a
placed_after s (Flip pred until) a = all_with (λ (c : Copy). HasPlace s.tablets c.pred) (λ (c : Copy). HasPlace (places_after s (Flip pred until)).tablets c.pred) (with_until s.copies (place_of s.tablets pred) until) (λ c h. tablets_stay s (Flip pred until) c.pred h) (until_placed s.tablets s.copies (place_of s.tablets pred) until a)
placed_after s (MoveOff pred) a = all_with (λ (c : Copy). HasPlace s.tablets c.pred) (λ (c : Copy). HasPlace (places_after s (MoveOff pred)).tablets c.pred) (without_image s.copies (place_of s.tablets pred)) (λ c h. tablets_stay s (MoveOff pred) c.pred h) (off_placed s.tablets s.copies (place_of s.tablets pred) a)
placed_after s (Rolled pred group upto) a = all_on_copy (λ (c : Copy). HasPlace s.tablets c.pred) pred group (λ c. record { pred = c.pred; group = c.group; mark = upto; until = c.until }) s.copies (λ c h. h) a
placed_after s (Line line) a = all_passed (λ (c : Copy). HasPlace s.tablets c.pred) (λ c. is_kept_by line c.until) s.copies a
placed_after s event a = a

copies_placed : (n : ℕ) (h : List Entry) → IsLegal n h → AllByRecursion (λ (c : Copy). HasPlace (tablets h) c.pred) (copies h)
copies_placed n h l = kept_from n (λ a. Unit {0}) (λ g. AllByRecursion (λ (c : Copy). HasPlace (tablets g) c.pred) (copies g)) step [] h tt l (anyone h) tt
  where
    step : (g : List Entry) (e : Entry) → Unit {0} → IsLegal n g → Fits n g e.author e.event → AllByRecursion (λ (c : Copy). HasPlace (tablets g) c.pred) (copies g) → AllByRecursion (λ (c : Copy). HasPlace (tablets (g ++ e ∷ [])) c.pred) (copies (g ++ e ∷ []))
    step g e o l f a = subst (λ (q : Places). AllByRecursion (λ (c : Copy). HasPlace q.tablets c.pred) q.copies) (sym (places_push g e)) (placed_after (places g) e.event a)

-- ---- what was brought has a tablet

abbrev pub AreBrought : List Place → List Record → Type 0
AreBrought ts rs = AllByRecursion (λ (r : Record). AllByRecursion (λ (t : Tablet). HasPlace ts t.pred) r.fresh) rs

own_placed : (ts : List Place) (fs some : List Tablet) → ((p : List ℕ) → list_any (is_place_of p) (map fresh_place some) ≡ true → HasPlace (ts ++ map fresh_place fs) p) → AllByRecursion (λ (t : Tablet). HasPlace (ts ++ map fresh_place fs) t.pred) some
own_placed ts fs [] k = tt
own_placed ts fs (t ∷ some) k =
    (k t.pred (or_true (same_text t.pred t.pred) (list_any (is_place_of t.pred) (map fresh_place some)) (same_text-itself t.pred)), own_placed ts fs some (λ p e. k p (later (same_text t.pred p) (list_any (is_place_of p) (map fresh_place some)) e)))
  where
    later : (a b : Bool) → b ≡ true → (a || b) ≡ true
    later true b e = refl
    later false b e = e

brought_after : (n : ℕ) (g : List Entry) (author : ℕ) (event : Event) → Fits n g author event → AreBrought (places_after (places g) event).tablets (record_of event)
brought_after n g author (Commit start preds keys asked written) f = (rw f.no_tablet tt, tt)
brought_after n g author (Alter start newer written) f =
    (own_placed (tablets g) written.fresh written.fresh (λ p e. any_joined (is_place_of p) (tablets g) (map fresh_place written.fresh) ∙ later (list_any (is_place_of p) (tablets g)) (list_any (is_place_of p) (map fresh_place written.fresh)) e), tt)
  where
    later : (a b : Bool) → b ≡ true → (a || b) ≡ true
    later true b e = refl
    later false b e = e
brought_after n g author event f = tt

are_brought : (n : ℕ) (h : List Entry) → IsLegal n h → AreBrought (tablets h) (records h)
are_brought n h l = kept_from n (λ a. Unit {0}) (λ g. AreBrought (tablets g) (records g)) step [] h tt l (anyone h) tt
  where
    step : (g : List Entry) (e : Entry) → Unit {0} → IsLegal n g → Fits n g e.author e.event → AreBrought (tablets g) (records g) → AreBrought (tablets (g ++ e ∷ [])) (records (g ++ e ∷ []))
    step g e o l f a =
        subst (λ (q : Places). AreBrought q.tablets (records (g ++ e ∷ []))) (sym (places_push g e))
        (subst (λ (rs : List Record). AreBrought (places_after (places g) e.event).tablets rs) (sym (records_push g e))
        (all_joined (λ (r : Record). AllByRecursion (λ (t : Tablet). HasPlace (places_after (places g) e.event).tablets t.pred) r.fresh) (records g) (record_of e.event)
        (all_with (λ (r : Record). AllByRecursion (λ (t : Tablet). HasPlace (tablets g) t.pred) r.fresh) (λ (r : Record). AllByRecursion (λ (t : Tablet). HasPlace (places_after (places g) e.event).tablets t.pred) r.fresh) (records g) (λ r b. all_with (λ (t : Tablet). HasPlace (tablets g) t.pred) (λ (t : Tablet). HasPlace (places_after (places g) e.event).tablets t.pred) r.fresh (λ t c. tablets_stay (places g) e.event t.pred c) b) a)
        (brought_after n g e.author e.event f)))

-- ---- look-ups among more copies

none_new : (fs : List Tablet) (p : List ℕ) (number : ℕ) → AllByRecursion (λ (t : Tablet). same_text t.pred p ≡ false) fs → copy_at (map fresh_copy fs) p number ≡ None
none_new [] p number a = refl
none_new (t ∷ fs) p number a = (λ i. cond (a.0 i && (t.group == number)) (Some (fresh_copy t)) (copy_at (map fresh_copy fs) p number)) ∙ none_new fs p number a.1

copy_stays : (cs : List Copy) (fs : List Tablet) (p : List ℕ) (number : ℕ) → AllByRecursion (λ (t : Tablet). same_text t.pred p ≡ false) fs → copy_at (cs ++ map fresh_copy fs) p number ≡ copy_at cs p number
copy_stays [] fs p number a = none_new fs p number a
copy_stays (c ∷ cs) fs p number a = λ i. cond (is_copy_at p number c) (Some c) (copy_stays cs fs p number a i)

behind_none : (cs ds : List Copy) (p : List ℕ) (number : ℕ) → copy_at cs p number ≡ None → copy_at (cs ++ ds) p number ≡ copy_at ds p number
behind_none [] ds p number e = refl
behind_none (c ∷ cs) ds p number e = by (is_copy_at p number c) e (λ k. behind_none cs ds p number k)
  where
    by : (v : Bool) → cond v (Some c) (copy_at cs p number) ≡ None → (copy_at cs p number ≡ None → copy_at (cs ++ ds) p number ≡ copy_at ds p number) → cond v (Some c) (copy_at (cs ++ ds) p number) ≡ copy_at ds p number
    by true e rest = absurd (cc)
    by false e rest = rest e

none_there : (ts : List Place) (cs : List Copy) (p : List ℕ) (number : ℕ) → list_any (is_place_of p) ts ≡ false → AllByRecursion (λ (c : Copy). HasPlace ts c.pred) cs → copy_at cs p number ≡ None
none_there ts [] p number e a = refl
none_there ts (c ∷ cs) p number e a = by (same_text c.pred p) refl (none_there ts cs p number e a.1)
  where
    by : (v : Bool) → same_text c.pred p ≡ v → copy_at cs p number ≡ None → cond (v && (c.group == number)) (Some c) (copy_at cs p number) ≡ None
    by true q rest = absurd (both_ways (list_any (is_place_of p) ts) e (ap (λ (m : List ℕ). list_any (is_place_of m) ts) (sym (same_text-equal c.pred p q)) ∙ a.0))
    by false q rest = rest

-- a predicate with a tablet isn't new
not_new : (ts : List Place) (fs : List Tablet) (p : List ℕ) → HasPlace ts p → AllByRecursion (λ (t : Tablet). list_any (is_place_of t.pred) ts ≡ false) fs → AllByRecursion (λ (t : Tablet). same_text t.pred p ≡ false) fs
not_new ts [] p h a = tt
not_new ts (t ∷ fs) p h a = (by (same_text t.pred p) refl, not_new ts fs p h a.1)
  where
    by : (v : Bool) → same_text t.pred p ≡ v → v ≡ false
    by true q = absurd (both_ways (list_any (is_place_of p) ts) (ap (λ (m : List ℕ). list_any (is_place_of m) ts) (sym (same_text-equal t.pred p q)) ∙ a.0) h)
    by false q = refl

-- ---- new tablets are apart

abbrev pub AreApart : List Tablet → Type 0
AreApart [] = Unit {0}
AreApart (t ∷ ts) = AllByRecursion (λ (u : Tablet). same_text u.pred t.pred ≡ false) ts × AreApart ts

last_false : (a b : Bool) → (a || (b || false)) ≡ false → b ≡ false
last_false true b e = absurd (cc)
last_false false true e = absurd (cc)
last_false false false e = refl

fresh_apart : (n : ℕ) (ts : List Place) (newer : List PredDef) → AreApart (fresh n ts newer)
fresh_apart n ts [] = tt
fresh_apart n ts (d ∷ newer) = by (list_any (is_place_of d.name) ts) (fresh_apart n ts newer) (fresh_apart n (ts ++ at_rest d.name (fewest ts (groups n)) ∷ []) newer)
  where
    by : (v : Bool) → AreApart (fresh n ts newer) → AreApart (fresh n (ts ++ at_rest d.name (fewest ts (groups n)) ∷ []) newer) → AreApart (cond v (fresh n ts newer) ((record { pred = d.name; group = fewest ts (groups n) }) ∷ fresh n (ts ++ at_rest d.name (fewest ts (groups n)) ∷ []) newer))
    by true old new = old
    by false old new =
        (all_with (λ (t : Tablet). list_any (is_place_of t.pred) (ts ++ at_rest d.name (fewest ts (groups n)) ∷ []) ≡ false) (λ (t : Tablet). same_text t.pred d.name ≡ false) (fresh n (ts ++ at_rest d.name (fewest ts (groups n)) ∷ []) newer) (λ t e. same_text-turned t.pred d.name ∙ last_false (list_any (is_place_of t.pred) ts) (same_text d.name t.pred) (sym (any_joined (is_place_of t.pred) ts (at_rest d.name (fewest ts (groups n)) ∷ [])) ∙ e)) (fresh_new n (ts ++ at_rest d.name (fewest ts (groups n)) ∷ []) newer), new)

-- so each is found as it came
abbrev pub FoundIn : ℕ → List Copy → Tablet → Type 0
FoundIn number cs t = copy_at cs t.pred number ≡ if t.group == number then Some (fresh_copy t) else None

skip_first : (number : ℕ) (t : Tablet) (cs : List Copy) (some : List Tablet) → AllByRecursion (λ (u : Tablet). same_text u.pred t.pred ≡ false) some → AllByRecursion (FoundIn number cs) some → AllByRecursion (FoundIn number (fresh_copy t ∷ cs)) some
skip_first number t cs [] a b = tt
skip_first number t cs (u ∷ some) a b =
    ((λ i. cond ((same_text-turned t.pred u.pred ∙ a.0) i && (t.group == number)) (Some (fresh_copy t)) (copy_at cs u.pred number)) ∙ b.0, skip_first number t cs some a.1 b.1)

found_new : (number : ℕ) (fs : List Tablet) → AreApart fs → AllByRecursion (FoundIn number (map fresh_copy fs)) fs
found_new number [] a = tt
found_new number (t ∷ fs) a =
    ((λ i. cond (same_text-itself t.pred i && (t.group == number)) (Some (fresh_copy t)) (none_new fs t.pred number a.0 i)), skip_first number t (map fresh_copy fs) fs a.0 (found_new number fs a.1))

-- ---- the law

any_tablet : (ts : List Place) (p : List ℕ) (fs : List Tablet) → AllByRecursion (λ (t : Tablet). HasPlace ts t.pred) fs → has_tablet p fs ≡ true → HasPlace ts p
any_tablet ts p [] a e = absurd (cc)
any_tablet ts p (t ∷ fs) a e = by (same_text t.pred p) refl e (λ k. any_tablet ts p fs a.1 k)
  where
    by : (v : Bool) → same_text t.pred p ≡ v → (v || has_tablet p fs) ≡ true → (has_tablet p fs ≡ true → HasPlace ts p) → HasPlace ts p
    by true q e rest = ap (λ (m : List ℕ). list_any (is_place_of m) ts) (sym (same_text-equal t.pred p q)) ∙ a.0
    by false q e rest = rest e

brought_place : (ts : List Place) (last : ℕ) (p : List ℕ) (rs : List Record) → AreBrought ts rs → list_any (λ r. nat_le r.ts last && has_tablet p r.fresh) rs ≡ true → HasPlace ts p
brought_place ts last p [] a e = absurd (cc)
brought_place ts last p (r ∷ rs) a e = by (nat_le r.ts last) (has_tablet p r.fresh) refl e (λ k. brought_place ts last p rs a.1 k)
  where
    by : (v w : Bool) → has_tablet p r.fresh ≡ w → ((v && w) || list_any (λ r. nat_le r.ts last && has_tablet p r.fresh) rs) ≡ true → (list_any (λ r. nat_le r.ts last && has_tablet p r.fresh) rs ≡ true → HasPlace ts p) → HasPlace ts p
    by true true q e rest = any_tablet ts p r.fresh a.0 q
    by true false q e rest = rest e
    by false w q e rest = rest e

all_two : {X : Type 0} (P Q R : X → Type 0) (xs : List X) → ((x : X) → P x → Q x → R x) → AllByRecursion P xs → AllByRecursion Q xs → AllByRecursion R xs
all_two P Q R [] f a b = tt
all_two P Q R (x ∷ xs) f a b = (f x a.0 b.0, all_two P Q R xs f a.1 b.1)

pub alters_keep_in_step : AltersKeepInStep
alters_keep_in_step n h author start newer written group l s =
    let e : Entry = record { author = author; event = Alter start newer written } in
    let p = legal_last n [] h e l in
    let f = p.1 in
    let number = group.number in
    let lt = last_drawn n h group.last p.0 s.stands.applied in
    let more : copies (h ++ e ∷ []) ≡ copies h ++ map fresh_copy written.fresh = ap (λ (q : Places). q.copies) (places_push h e) in
    let new : AllByRecursion (λ (t : Tablet). list_any (is_place_of t.pred) (tablets h) ≡ false) written.fresh =
    subst (λ (ts : List Tablet). AllByRecursion (λ (t : Tablet). list_any (is_place_of t.pred) (tablets h) ≡ false) ts) (sym f.1.fresh_are) (fresh_new n (tablets h) newer) in
    let stays : (q : List ℕ) → HasPlace (tablets h) q → copy_at (copies (h ++ e ∷ [])) q number ≡ copy_at (copies h) q number = λ q there. (λ i. copy_at (more i) q number) ∙ copy_stays (copies h) written.fresh q number (not_new (tablets h) written.fresh q there new) in
    let brought = are_brought n h p.0 in
    let placed = copies_placed n h p.0 in
    let apart : AreApart written.fresh = subst AreApart (sym f.1.fresh_are) (fresh_apart n (tablets h) newer) in
    let came_new : AllByRecursion (IsAsItCame (h ++ e ∷ []) number) written.fresh =
    all_two (λ (t : Tablet). list_any (is_place_of t.pred) (tablets h) ≡ false) (FoundIn number (map fresh_copy written.fresh)) (IsAsItCame (h ++ e ∷ []) number) written.fresh
    (λ t none found. (λ i. copy_at (more i) t.pred number) ∙ (behind_none (copies h) (map fresh_copy written.fresh) t.pred number (none_there (tablets h) (copies h) t.pred number none placed) ∙ found)) new (found_new number written.fresh apart) in
    let came_old : AllByRecursion (λ (r : Record). AllByRecursion (IsAsItCame (h ++ e ∷ []) number) r.fresh) (records_above h group.last) =
    all_two (λ (r : Record). AllByRecursion (IsAsItCame h number) r.fresh) (λ (r : Record). AllByRecursion (λ (t : Tablet). HasPlace (tablets h) t.pred) r.fresh) (λ (r : Record). AllByRecursion (IsAsItCame (h ++ e ∷ []) number) r.fresh) (records_above h group.last)
    (λ r a b. all_two (IsAsItCame h number) (λ (t : Tablet). HasPlace (tablets h) t.pred) (IsAsItCame (h ++ e ∷ []) number) r.fresh (λ t c there. stays t.pred there ∙ c) a b) s.unmet (all_passed (λ (r : Record). AllByRecursion (λ (t : Tablet). HasPlace (tablets h) t.pred) r.fresh) (λ r. nat_lt group.last r.ts) (records h) brought) in
    record {
      stands = record {
        applied = still_last s.stands.applied;
        copies_are = λ pred. s.stands.copies_are pred ∙ (standing (is_brought h group.last pred) pred refl stays brought ∙ (λ i. cond (sym (brought_longer n h e f group.last pred lt) i) (option_map standing_in (copy_at (copies (h ++ e ∷ [])) pred number)) None));
        each = all_still n h e f group.last lt group.copies s.drawn s.stands.each;
      };
      ascend = s.ascend;
      drawn = let grown = next_push h e in all_with (λ c. c.mark < next h) (λ c. c.mark < next (h ++ e ∷ [])) group.copies (λ c a. omega (arith, a, grown)) s.drawn;
      unmet =
          subst (λ (rs : List Record). AllByRecursion (λ (r : Record). AllByRecursion (IsAsItCame (h ++ e ∷ []) number) r.fresh) rs)
          (sym (ap (filter (λ r. nat_lt group.last r.ts)) (records_push h e) ∙ filter_joined (λ r. nat_lt group.last r.ts) (records h) (written ∷ [])))
          (all_joined (λ (r : Record). AllByRecursion (IsAsItCame (h ++ e ∷ []) number) r.fresh) (records_above h group.last) (filter (λ r. nat_lt group.last r.ts) (written ∷ [])) came_old (all_passed (λ (r : Record). AllByRecursion (IsAsItCame (h ++ e ∷ []) number) r.fresh) (λ r. nat_lt group.last r.ts) (written ∷ []) (came_new, tt)));
    }
  where
    still_last : IsLast h group.last → IsLast (h ++ (record { author = author; event = Alter start newer written }) ∷ []) group.last
    still_last (inl z) = inl z
    still_last (inr z) =
        inr (ap (list_any (λ r. r.ts == group.last)) (records_push h (record { author = author; event = Alter start newer written })) ∙ (any_joined (λ r. r.ts == group.last) (records h) (written ∷ []) ∙ or_true (list_any (λ r. r.ts == group.last) (records h)) (list_any (λ r. r.ts == group.last) (written ∷ [])) z))

    standing : (v : Bool) (pred : List ℕ) → is_brought h group.last pred ≡ v → ((q : List ℕ) → HasPlace (tablets h) q → copy_at (copies (h ++ (record { author = author; event = Alter start newer written }) ∷ [])) q group.number ≡ copy_at (copies h) q group.number) → AreBrought (tablets h) (records h) → cond v (option_map standing_in (copy_at (copies h) pred group.number)) None ≡ cond v (option_map standing_in (copy_at (copies (h ++ (record { author = author; event = Alter start newer written }) ∷ [])) pred group.number)) None
    standing true pred b stays brought = ap (option_map standing_in) (sym (stays pred (brought_place (tablets h) group.last pred (records h) brought b)))
    standing false pred b stays brought = refl
