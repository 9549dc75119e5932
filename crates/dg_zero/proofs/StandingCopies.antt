-- How copies stand to tablets in legal histories.
use Rattle.std.proofs.Common.{◌≡◌, ◌≢◌, ◌∙◌, sym, ap, subst, refl, arith, ℕ, List, [], ◌∷◌, ◌++◌, Bool, true, false, not, cond, map, append_assoc, inl, inr}
use Rattle.std.specs.Prelude.{◌⊎◌, ◌&&◌, ◌||◌, ◌==◌, Option, Some, None, IfSome, IsSomeAnd, filter, option_map}
use Rattle.std.specs.List.{AllByRecursion, list_any}
use Rattle.std.specs.Option.{option_or}
use Rattle.std.proofs.lemmas.Bool.{both_ways}
use Rattle.std.proofs.lemmas.Grind.{common_steps}
use Rattle.std.proofs.lemmas.List.{append-nil}
use Rattle.std.proofs.lemmas.List.Folds.{find-append, list_any-append}
use Rattle.dg_values.specs.Order.{same_text}
use Rattle.dg_sets.proofs.Sets.{all_with, all_passed}
use Rattle.dg_oracle.proofs.Oracles.{all_push}
use Rattle.dg_schema.specs.declared.definition.PredDef.{PredDef}
use Rattle.dg_schema.proofs.Names.{same_text-equal, same_text-itself, same_text-turned}
use Rattle.dg_keys.specs.declared.record.Tablet.{Tablet}
use Rattle.dg_zero.specs.declared.entry.Entry.{Entry}
use Rattle.dg_zero.specs.declared.entry.Event.{Event}
use Rattle.dg_zero.specs.declared.entry.Event.TheVariants.{Alter, MoveStart, MoveCopied, MoveHold, Flip, MoveOff, Rolled, Line}
use Rattle.dg_zero.specs.declared.tablets.Phase.{Phase}
use Rattle.dg_zero.specs.declared.tablets.Phase.TheVariants.{Idle, Started, Copied, Held}
use Rattle.dg_zero.specs.declared.tablets.Place.{Place}
use Rattle.dg_zero.specs.Legal.{Fits, IsLegal}
use Rattle.dg_zero.specs.Places.{Copy, Places, places, places_after, tablets, copies, copy_at, is_copy_at, is_place_of, place_of, fresh_copy, fresh_place, fresh, at_rest, in_phase, fewest, groups, on_copy, on_place, mark_at, with_image, with_until, without_image, has_image, is_kept_by, phase_by}
use Rattle.dg_zero.specs.TabletLaws.{AreOnce, AreApart, HasCopy}
use Rattle.dg_zero.proofs.DeclaredTablets.{any_on}
use Rattle.dg_zero.proofs.Histories.{places_push}
use Rattle.dg_zero.proofs.LawsOfHistories.{kept_from, anyone}
use Rattle.dg_zero.proofs.LookUps.{all_on, ends, merged, ends_keeps, merged_keeps, if_mapped, is_mapped, none_passes, none_is_found, some_passed, none_passed, some_joined, none_joined, place_is_of, KeepsPred, KeepsAt, place_kept, copy_kept, place_on, copy_on, other_on, copy_off}

-- ---- what is kept

-- a move goes to another group, which has no copy until it is given one
abbrev Moves : List Copy → List ℕ → ℕ → ℕ → Phase → Type 0
Moves cs pred from to Idle = Unit {0}
Moves cs pred from to Started = (to ≢ from) × (copy_at cs pred to ≡ None)
Moves cs pred from to Copied = (to ≢ from) × HasCopy cs pred to
Moves cs pred from to Held = (to ≢ from) × HasCopy cs pred to

-- how copies stand to the tablet of a predicate
pub record Stands (cs : List Copy) (pred : List ℕ) (t : Place) : Type 0 where
  pub own : HasCopy cs pred t.group
  pub move : Moves cs pred t.group t.to t.phase

-- how all copies stand to all tablets
pub record AreInPlace (ts : List Place) (cs : List Copy) : Type 0 where
  pub once : AreOnce ts
  pub each : (q : List ℕ) → IfSome (place_of ts q) (Stands cs q)
  pub apart : AreApart cs
  pub theirs : AllByRecursion (λ c. list_any (is_place_of c.pred) ts ≡ true) cs

pub other_group : (cs : List Copy) (pred : List ℕ) (from to : ℕ) (phase : Phase) → phase ≢ Idle → Moves cs pred from to phase → to ≢ from
other_group cs pred from to Idle ne m = absurd (ne refl)
other_group cs pred from to Started ne m = m.0
other_group cs pred from to Copied ne m = m.0
other_group cs pred from to Held ne m = m.0

-- ---- other copies

-- what is kept of the copies of a predicate
record Carries (cs ds : List Copy) (q : List ℕ) : Type 0 where
  some : (at : ℕ) → HasCopy cs q at → HasCopy ds q at
  none : (at : ℕ) → copy_at cs q at ≡ None → copy_at ds q at ≡ None

moves_carried : (cs ds : List Copy) (q : List ℕ) → Carries cs ds q → (from to : ℕ) (phase : Phase) → Moves cs q from to phase → Moves ds q from to phase
moves_carried cs ds q k from to Idle m = tt
moves_carried cs ds q k from to Started m = (m.0, k.none to m.1)
moves_carried cs ds q k from to Copied m = (m.0, k.some to m.1)
moves_carried cs ds q k from to Held m = (m.0, k.some to m.1)

carried : (cs ds : List Copy) (q : List ℕ) → Carries cs ds q → (t : Place) → Stands cs q t → Stands ds q t
carried cs ds q k t s = record { own = k.some t.group s.own; move = moves_carried cs ds q k t.group t.to t.phase s.move }

-- where they are the same
same_copies : (cs ds : List Copy) (q : List ℕ) → ((at : ℕ) → copy_at ds q at ≡ copy_at cs q at) → Carries cs ds q
same_copies cs ds q e = record {
  some = λ at h. subst (λ (o : Option Copy). IsSomeAnd o (λ c. c.until ≡ None)) (sym (e at)) h;
  none = λ at h. e at ∙ h;
}

all_carried : (ts : List Place) (cs ds : List Copy) → ((q : List ℕ) → Carries cs ds q) → ((q : List ℕ) → IfSome (place_of ts q) (Stands cs q)) → (q : List ℕ) → IfSome (place_of ts q) (Stands ds q)
all_carried ts cs ds k each q = by (place_of ts q) (each q)
  where
    by : (o : Option Place) → IfSome o (Stands cs q) → IfSome o (Stands ds q)
    by None s = tt
    by (Some t) s = carried cs ds q (k q) t s

-- ---- tablets are once

names_on : (pred : List ℕ) (f : Place → Place) → KeepsPred f → (q : List ℕ) (ts : List Place) → AllByRecursion (λ u. is_place_of q u ≡ false) ts → AllByRecursion (λ u. is_place_of q u ≡ false) (on_place pred f ts)
names_on pred f k q [] a = tt
names_on pred f k q (t ∷ ts) a = (place_kept pred f k q t ∙ a.0, names_on pred f k q ts a.1)

once_on : (pred : List ℕ) (f : Place → Place) → KeepsPred f → (ts : List Place) → AreOnce ts → AreOnce (on_place pred f ts)
once_on pred f k [] a = tt
once_on pred f k (t ∷ ts) a =
    (subst (λ (q : List ℕ). AllByRecursion (λ u. is_place_of q u ≡ false) (on_place pred f ts)) (sym (name (is_place_of pred t))) (names_on pred f k t.pred ts a.0), once_on pred f k ts a.1)
  where
    name : (v : Bool) → (cond v (f t) t).pred ≡ t.pred
    name true = k t
    name false = refl

once_push : (ts : List Place) (t : Place) → list_any (is_place_of t.pred) ts ≡ false → AreOnce ts → AreOnce (ts ++ t ∷ [])
once_push [] t e a = (tt, tt)
once_push (u ∷ ts) t e a =
    let p = neither (same_text u.pred t.pred) (list_any (is_place_of t.pred) ts) e in
    (all_push (λ v. is_place_of u.pred v ≡ false) ts t a.0 (same_text-turned t.pred u.pred ∙ p.0), once_push ts t p.1 a.1)
  where
    neither : (a b : Bool) → (a || b) ≡ false → (a ≡ false) × (b ≡ false)
    neither true b e = absurd (cc)
    neither false b e = (refl, e)

-- each is found by its predicate
pub found_once : (ts : List Place) → AreOnce ts → AllByRecursion (λ t. place_of ts t.pred ≡ Some t) ts
found_once [] a = tt
found_once (t ∷ ts) a =
    (rw (same_text-itself t.pred) refl, behind ts ts a.0 (found_once ts a.1))
  where
    behind : (all some : List Place) → AllByRecursion (λ u. is_place_of t.pred u ≡ false) some → AllByRecursion (λ u. place_of all u.pred ≡ Some u) some → AllByRecursion (λ u. place_of (t ∷ all) u.pred ≡ Some u) some
    behind all [] b c = tt
    behind all (u ∷ some) b c = ((λ i. cond ((same_text-turned t.pred u.pred ∙ b.0) i) (Some t) (place_of all u.pred)) ∙ c.0, behind all some b.1 c.1)

-- ---- copies are apart

apart_on : (pred : List ℕ) (group : ℕ) (f : Copy → Copy) → KeepsAt f → (cs : List Copy) → AreApart cs → AreApart (on_copy pred group f cs)
apart_on pred group f k [] a = tt
apart_on pred group f k (c ∷ cs) a = (by (is_copy_at pred group c), apart_on pred group f k cs a.1)
  where
    front : (ds : List Copy) → AllByRecursion (λ u. is_copy_at c.pred c.group u ≡ false) ds → AllByRecursion (λ u. is_copy_at c.pred c.group u ≡ false) (on_copy pred group f ds)
    front [] b = tt
    front (d ∷ ds) b = (copy_kept pred group f k c.pred c.group d ∙ b.0, front ds b.1)

    by : (v : Bool) → AllByRecursion (λ u. is_copy_at (cond v (f c) c).pred (cond v (f c) c).group u ≡ false) (on_copy pred group f cs)
    by true =
        let s = k c in
        subst (λ (q : List ℕ). AllByRecursion (λ u. is_copy_at q (f c).group u ≡ false) (on_copy pred group f cs)) (sym s.pred_is)
        (subst (λ (at : ℕ). AllByRecursion (λ u. is_copy_at c.pred at u ≡ false) (on_copy pred group f cs)) (sym s.group_is) (front cs a.0))
    by false = front cs a.0

apart_passed : (g : Copy → Bool) (cs : List Copy) → AreApart cs → AreApart (filter g cs)
apart_passed g [] a = tt
apart_passed g (c ∷ cs) a = by (g c) (apart_passed g cs a.1)
  where
    by : (v : Bool) → AreApart (filter g cs) → AreApart (cond v (c ∷ filter g cs) (filter g cs))
    by true rest = (all_passed (λ d. is_copy_at c.pred c.group d ≡ false) g cs a.0, rest)
    by false rest = rest

copy_turned : (c d : Copy) → is_copy_at c.pred c.group d ≡ is_copy_at d.pred d.group c
copy_turned c d = λ i. same_text-turned d.pred c.pred i && turned d.group c.group i
  where
    turned : (a b : ℕ) → (a == b) ≡ (b == a)
    turned a b = grind (arith, common_steps)

apart_push : (cs : List Copy) (c : Copy) → AllByRecursion (λ d. is_copy_at c.pred c.group d ≡ false) cs → AreApart cs → AreApart (cs ++ c ∷ [])
apart_push [] c e a = (tt, tt)
apart_push (d ∷ cs) c e a = (all_push (λ u. is_copy_at d.pred d.group u ≡ false) cs c a.0 (copy_turned d c ∙ e.0), apart_push cs c e.1 a.1)

-- ---- texts, numbers and look-ups

and_false : (a b : Bool) → b ≡ false → (a && b) ≡ false
and_false true b e = e
and_false false b e = refl

apart_numbers : (a b : ℕ) → a ≢ b → (a == b) ≡ false
apart_numbers a b ne = grind (arith, common_steps)

at_itself : (q : List ℕ) (at : ℕ) → (same_text q q && (at == at)) ≡ true
at_itself q at = rw (same_text-itself q) (same at)
  where
    same : (k : ℕ) → (k == k) ≡ true
    same k = grind (arith, common_steps)

found_there : (pred : List ℕ) (ts : List Place) (t : Place) → place_of ts pred ≡ Some t → list_any (is_place_of pred) ts ≡ true
found_there pred [] t e = absurd (cc)
found_there pred (u ∷ ts) t e = by (is_place_of pred u) e (λ k. found_there pred ts t k)
  where
    by : (v : Bool) → cond v (Some u) (place_of ts pred) ≡ Some t → (place_of ts pred ≡ Some t → list_any (is_place_of pred) ts ≡ true) → (v || list_any (is_place_of pred) ts) ≡ true
    by true k rest = refl
    by false k rest = rest k

same_some : {A : Type 0} (x y : A) → Some x ≡ Some y → x ≡ y
same_some x y e = cc

-- no copy is of a predicate without a tablet
no_copies : (ts : List Place) (pred : List ℕ) (group : ℕ) (cs : List Copy) → list_any (is_place_of pred) ts ≡ false → AllByRecursion (λ c. list_any (is_place_of c.pred) ts ≡ true) cs → AllByRecursion (λ c. is_copy_at pred group c ≡ false) cs
no_copies ts pred group [] e a = tt
no_copies ts pred group (c ∷ cs) e a = (by (same_text c.pred pred) refl, no_copies ts pred group cs e a.1)
  where
    by : (v : Bool) → same_text c.pred pred ≡ v → (v && (c.group == group)) ≡ false
    by true q = absurd (both_ways (list_any (is_place_of pred) ts) e (ap (λ (p : List ℕ). list_any (is_place_of p) ts) (sym (same_text-equal c.pred pred q)) ∙ a.0))
    by false q = refl

has_same : (cs ds : List Copy) (q : List ℕ) (at : ℕ) → copy_at ds q at ≡ copy_at cs q at → HasCopy cs q at → HasCopy ds q at
has_same cs ds q at e h = subst (λ (o : Option Copy). IsSomeAnd o (λ c. c.until ≡ None)) (sym e) h

-- a new copy
abbrev copy_new : List ℕ → ℕ → Copy
copy_new pred group = record { pred = pred; group = group; mark = 0; until = None }

-- ---- the moves of a tablet

module _ (ts : List Place) (cs : List Copy) (a : AreInPlace ts cs) where
  stands_at : (pred : List ℕ) (m : Place) → place_of ts pred ≡ Some m → Stands cs pred m
  stands_at pred m is = subst (λ (o : Option Place). IfSome o (Stands cs pred)) is (a.each pred)

  changed : (pred : List ℕ) (f : Place → Place) (ds : List Copy)
      → ((t : Place) → place_of ts pred ≡ Some t → Stands cs pred t → Stands ds pred (f t))
      → ((q : List ℕ) → same_text q pred ≡ false → Carries cs ds q)
      → (q : List ℕ) (t : Place) → place_of ts q ≡ Some t → Stands cs q t → (v : Bool) → same_text q pred ≡ v → Stands ds q (cond v (f t) t)
  changed pred f ds own others q t is s true e =
      let same : q ≡ pred = same_text-equal q pred e in
      subst (λ (p : List ℕ). Stands ds p (f t)) (sym same) (own t (ap (place_of ts) (sym same) ∙ is) (subst (λ (p : List ℕ). Stands cs p t) same s))
  changed pred f ds own others q t is s false e = carried cs ds q (others q e) t s

  -- the tablet of one predicate, and copies
  moved : (pred : List ℕ) (f : Place → Place) → KeepsPred f → (ds : List Copy) → AreApart ds → AllByRecursion (λ c. list_any (is_place_of c.pred) ts ≡ true) ds
      → ((t : Place) → place_of ts pred ≡ Some t → Stands cs pred t → Stands ds pred (f t))
      → ((q : List ℕ) → same_text q pred ≡ false → Carries cs ds q)
      → AreInPlace (on_place pred f ts) ds
  moved pred f k ds apart theirs own others = record {
    once = once_on pred f k ts a.once;
    each = λ q.
        subst (λ (o : Option Place). IfSome o (Stands ds q)) (sym (place_on pred f k ts q))
        (if_mapped (λ t. cond (same_text q pred) (f t) t) (Stands cs q) (Stands ds q) (place_of ts q) (λ t is s. changed pred f ds own others q t is s (same_text q pred) refl) (a.each q));
    apart = apart;
    theirs = all_with (λ (c : Copy). list_any (is_place_of c.pred) ts ≡ true) (λ (c : Copy). list_any (is_place_of c.pred) (on_place pred f ts) ≡ true) ds (λ c h. any_on c.pred pred f k ts ∙ h) theirs;
  }

  unmoved : (q : List ℕ) → Carries cs cs q
  unmoved q = same_copies cs cs q (λ at. refl)

  started : (pred : List ℕ) (group : ℕ) → IsSomeAnd (option_map (λ (t : Place). t.group) (place_of ts pred)) (λ from. from ≢ group) → copy_at cs pred group ≡ None → AreInPlace (on_place pred (in_phase Started group) ts) cs
  started pred group owned none =
      moved pred (in_phase Started group) (λ t. refl) cs a.apart a.theirs (λ t is s. record { own = s.own; move = ((λ e. owned_at t is (sym e)), none) }) (λ q e. unmoved q)
    where
      owned_at : (t : Place) → place_of ts pred ≡ Some t → t.group ≢ group
      owned_at t is = subst (λ (o : Option Place). IsSomeAnd (option_map (λ (u : Place). u.group) o) (λ from. from ≢ group)) is owned

  held : (pred : List ℕ) → phase_by (place_of ts pred) ≡ Copied → AreInPlace (on_place pred (λ t. in_phase Held t.to t) ts) cs
  held pred p =
      moved pred (λ t. in_phase Held t.to t) (λ t. refl) cs a.apart a.theirs (λ t is s. record { own = s.own; move = subst (λ (phase : Phase). Moves cs pred t.group t.to phase) (ap phase_by (sym is) ∙ p) s.move }) (λ q e. unmoved q)

  -- one that was found
  module _ (pred : List ℕ) (m : Place) (is : place_of ts pred ≡ Some m) where
    named : m.pred ≡ pred
    named = place_is_of ts pred m is

    same_tablet : (t : Place) → place_of ts pred ≡ Some t → m ≡ t
    same_tablet t other = same_some m t (sym is ∙ other)

    abbrev image : Copy
    image = record { pred = m.pred; group = m.to; mark = mark_at cs m.pred m.group; until = None }

    apart_name : (q : List ℕ) → same_text q pred ≡ false → same_text q m.pred ≡ false
    apart_name q e = ap (same_text q) named ∙ e

    copied : m.phase ≡ Started → AreInPlace (on_place pred (λ t. in_phase Copied t.to t) ts) (cs ++ image ∷ [])
    copied p =
        moved pred (λ t. in_phase Copied t.to t) (λ t. refl) (cs ++ image ∷ [])
        (apart_push cs image (none_passes (is_copy_at m.pred m.to) cs (ap (λ (q : List ℕ). copy_at cs q m.to) named ∙ ready.1)) a.apart)
        (all_push (λ (c : Copy). list_any (is_place_of c.pred) ts ≡ true) cs image a.theirs (ap (λ (q : List ℕ). list_any (is_place_of q) ts) named ∙ found_there pred ts m is))
        (λ t other s. subst (λ (u : Place). Stands (cs ++ image ∷ []) pred (in_phase Copied u.to u)) (same_tablet t other) own)
        (λ q e. record { some = λ at h. some_joined (is_copy_at q at) (λ c. c.until ≡ None) cs (image ∷ []) h; none = λ at h. none_joined (is_copy_at q at) cs (image ∷ []) h ∙ (λ i. cond ((same_text-turned m.pred q ∙ apart_name q e) i && (m.to == at)) (Some image) None) })
      where
        ready : (m.to ≢ m.group) × (copy_at cs pred m.to ≡ None)
        ready = subst (λ (phase : Phase). Moves cs pred m.group m.to phase) p (stands_at pred m is).move

        given : copy_at (cs ++ image ∷ []) pred m.to ≡ Some image
        given =
            none_joined (is_copy_at pred m.to) cs (image ∷ []) ready.1
            ∙ ((λ i. cond (same_text (named i) pred && (m.to == m.to)) (Some image) None) ∙ (λ i. cond (at_itself pred m.to i) (Some image) None))

        own : Stands (cs ++ image ∷ []) pred (in_phase Copied m.to m)
        own = record {
          own = some_joined (is_copy_at pred m.group) (λ c. c.until ≡ None) cs (image ∷ []) (stands_at pred m is).own;
          move = (ready.0, subst (λ (o : Option Copy). IsSomeAnd o (λ c. c.until ≡ None)) (sym given) refl);
        }

    flipped : (until : ℕ) → m.phase ≡ Held → AreInPlace (on_place pred (λ t. at_rest t.pred t.to) ts) (with_until cs (Some m) until)
    flipped until p =
        moved pred (λ t. at_rest t.pred t.to) (λ t. refl) (on_copy m.pred m.group (ends until) cs)
        (apart_on m.pred m.group (ends until) (ends_keeps until) cs a.apart)
        (all_on (λ (c : Copy). list_any (is_place_of c.pred) ts ≡ true) m.pred m.group (ends until) (λ c h. h) cs a.theirs)
        (λ t other s. subst (λ (u : Place). Stands (on_copy m.pred m.group (ends until) cs) pred (at_rest u.pred u.to)) (same_tablet t other) own)
        (λ q e. same_copies cs (on_copy m.pred m.group (ends until) cs) q (λ at. other_on m.pred m.group (ends until) (ends_keeps until) cs q at (λ i. apart_name q e i && (at == m.group))))
      where
        ready : (m.to ≢ m.group) × HasCopy cs pred m.to
        ready = subst (λ (phase : Phase). Moves cs pred m.group m.to phase) p (stands_at pred m is).move

        own : Stands (on_copy m.pred m.group (ends until) cs) pred (at_rest m.pred m.to)
        own = record {
          own = has_same cs (on_copy m.pred m.group (ends until) cs) pred m.to (other_on m.pred m.group (ends until) (ends_keeps until) cs pred m.to (and_false (same_text pred m.pred) (m.to == m.group) (apart_numbers m.to m.group ready.0))) ready.1;
          move = tt;
        }

    off : m.phase ≢ Idle → AreInPlace (on_place pred (λ t. at_rest t.pred t.group) ts) (without_image cs (Some m))
    off ne =
        moved pred (λ t. at_rest t.pred t.group) (λ t. refl) (without_image cs (Some m)) (apart_left (has_image m.phase)) (theirs_left (has_image m.phase))
        (λ t other s. subst (λ (u : Place). Stands (without_image cs (Some m)) pred (at_rest u.pred u.group)) (same_tablet t other) own)
        (λ q e. same_copies cs (without_image cs (Some m)) q (λ at. other_left (has_image m.phase) q at (λ i. apart_name q e i && (at == m.to))))
      where
        apart_left : (v : Bool) → AreApart (cond v (filter (λ c. not (is_copy_at m.pred m.to c)) cs) cs)
        apart_left true = apart_passed (λ c. not (is_copy_at m.pred m.to c)) cs a.apart
        apart_left false = a.apart

        theirs_left : (v : Bool) → AllByRecursion (λ (c : Copy). list_any (is_place_of c.pred) ts ≡ true) (cond v (filter (λ c. not (is_copy_at m.pred m.to c)) cs) cs)
        theirs_left true = all_passed (λ (c : Copy). list_any (is_place_of c.pred) ts ≡ true) (λ c. not (is_copy_at m.pred m.to c)) cs a.theirs
        theirs_left false = a.theirs

        other_left : (v : Bool) (q : List ℕ) (at : ℕ) → (same_text q m.pred && (at == m.to)) ≡ false → copy_at (cond v (filter (λ c. not (is_copy_at m.pred m.to c)) cs) cs) q at ≡ copy_at cs q at
        other_left true q at e = copy_off m.pred m.to cs q at e
        other_left false q at e = refl

        away : m.group ≢ m.to
        away e = other_group cs pred m.group m.to m.phase ne (stands_at pred m is).move (sym e)

        own : Stands (without_image cs (Some m)) pred (at_rest m.pred m.group)
        own = record {
          own = has_same cs (without_image cs (Some m)) pred m.group (other_left (has_image m.phase) pred m.group (and_false (same_text pred m.pred) (m.group == m.to) (apart_numbers m.group m.to away))) (stands_at pred m is).own;
          move = tt;
        }

  -- ---- copies alone

  rolled : (pred : List ℕ) (group upto : ℕ) → AreInPlace ts (on_copy pred group (merged upto) cs)
  rolled pred group upto = record {
    once = a.once;
    each = all_carried ts cs (on_copy pred group (merged upto) cs) (λ q. record { some = λ at h. still q at h; none = λ at h. copy_on pred group (merged upto) (merged_keeps upto) cs q at ∙ ap (option_map (λ c. cond (same_text q pred && (at == group)) (merged upto c) c)) h }) a.each;
    apart = apart_on pred group (merged upto) (merged_keeps upto) cs a.apart;
    theirs = all_on (λ (c : Copy). list_any (is_place_of c.pred) ts ≡ true) pred group (merged upto) (λ c h. h) cs a.theirs;
  }
    where
      same : (c : Copy) (v : Bool) → c.until ≡ None → (cond v (merged upto c) c).until ≡ None
      same c true e = e
      same c false e = e

      still : (q : List ℕ) (at : ℕ) → HasCopy cs q at → HasCopy (on_copy pred group (merged upto) cs) q at
      still q at h =
          subst (λ (o : Option Copy). IsSomeAnd o (λ c. c.until ≡ None)) (sym (copy_on pred group (merged upto) (merged_keeps upto) cs q at))
          (is_mapped (λ c. cond (same_text q pred && (at == group)) (merged upto c) c) (λ c. c.until ≡ None) (λ c. c.until ≡ None) (copy_at cs q at) (λ c e. same c (same_text q pred && (at == group)) e) h)

  lined : (new : ℕ) → AreInPlace ts (filter (λ c. is_kept_by new c.until) cs)
  lined new = record {
    once = a.once;
    each = all_carried ts cs (filter (λ c. is_kept_by new c.until) cs) (λ q. record { some = λ at h. some_passed (is_copy_at q at) (λ c. is_kept_by new c.until) (λ c. c.until ≡ None) cs (λ c e. ap (is_kept_by new) e) h; none = λ at h. none_passed (is_copy_at q at) (λ c. is_kept_by new c.until) cs h }) a.each;
    apart = apart_passed (λ c. is_kept_by new c.until) cs a.apart;
    theirs = all_passed (λ (c : Copy). list_any (is_place_of c.pred) ts ≡ true) (λ c. is_kept_by new c.until) cs a.theirs;
  }

  -- ---- a new tablet

  one_new : (pred : List ℕ) (group : ℕ) → list_any (is_place_of pred) ts ≡ false → AreInPlace (ts ++ at_rest pred group ∷ []) (cs ++ copy_new pred group ∷ [])
  one_new pred group e = record {
    once = once_push ts (at_rest pred group) e a.once;
    each = λ q. subst (λ (o : Option Place). IfSome o (Stands (cs ++ copy_new pred group ∷ []) q)) (sym (find-append (is_place_of q) ts (at_rest pred group ∷ []))) (by q (place_of ts q) refl (a.each q));
    apart = apart_push cs (copy_new pred group) gone a.apart;
    theirs = all_push (λ (c : Copy). list_any (is_place_of c.pred) (ts ++ at_rest pred group ∷ []) ≡ true) cs (copy_new pred group)
        (all_with (λ (c : Copy). list_any (is_place_of c.pred) ts ≡ true) (λ (c : Copy). list_any (is_place_of c.pred) (ts ++ at_rest pred group ∷ []) ≡ true) cs (λ c h. list_any-append (is_place_of c.pred) ts (at_rest pred group ∷ []) ∙ front (list_any (is_place_of c.pred) ts) (list_any (is_place_of c.pred) (at_rest pred group ∷ [])) h) a.theirs)
        (list_any-append (is_place_of pred) ts (at_rest pred group ∷ []) ∙ (λ i. list_any (is_place_of pred) ts || (same_text-itself pred i || false)) ∙ last (list_any (is_place_of pred) ts));
  }
    where
      front : (u v : Bool) → u ≡ true → (u || v) ≡ true
      front true v h = refl
      front false v h = absurd (cc)

      last : (u : Bool) → (u || true) ≡ true
      last true = refl
      last false = refl

      gone : AllByRecursion (λ c. is_copy_at pred group c ≡ false) cs
      gone = no_copies ts pred group cs e a.theirs

      own : Stands (cs ++ copy_new pred group ∷ []) pred (at_rest pred group)
      own = record {
        own = subst (λ (o : Option Copy). IsSomeAnd o (λ c. c.until ≡ None)) (sym (none_joined (is_copy_at pred group) cs (copy_new pred group ∷ []) (none_is_found (is_copy_at pred group) cs gone) ∙ (λ i. cond (at_itself pred group i) (Some (copy_new pred group)) None))) refl;
        move = tt;
      }

      other : (q : List ℕ) (u : Place) → place_of ts q ≡ Some u → (v : Bool) → same_text pred q ≡ v → v ≡ false
      other q u is true p = absurd (both_ways (list_any (is_place_of q) ts) (ap (λ (n : List ℕ). list_any (is_place_of n) ts) (sym (same_text-equal pred q p)) ∙ e) (found_there q ts u is))
      other q u is false p = refl

      new : (q : List ℕ) (v : Bool) → same_text pred q ≡ v → IfSome (cond v (Some (at_rest pred group)) None) (Stands (cs ++ copy_new pred group ∷ []) q)
      new q true p = subst (λ (n : List ℕ). Stands (cs ++ copy_new pred group ∷ []) n (at_rest pred group)) (same_text-equal pred q p) own
      new q false p = tt

      by : (q : List ℕ) (o : Option Place) → place_of ts q ≡ o → IfSome o (Stands cs q) → IfSome (option_or o (place_of (at_rest pred group ∷ []) q)) (Stands (cs ++ copy_new pred group ∷ []) q)
      by q None is s = new q (same_text pred q) refl
      by q (Some u) is s =
          carried cs (cs ++ copy_new pred group ∷ []) q
          (record { some = λ at h. some_joined (is_copy_at q at) (λ c. c.until ≡ None) cs (copy_new pred group ∷ []) h; none = λ at h. none_joined (is_copy_at q at) cs (copy_new pred group ∷ []) h ∙ (λ i. cond (other q u is (same_text pred q) refl i && (group == at)) (Some (copy_new pred group)) None) }) u s

-- ---- new tablets

altered : (n : ℕ) (newer : List PredDef) (ts : List Place) (cs : List Copy) → AreInPlace ts cs → AreInPlace (ts ++ map fresh_place (fresh n ts newer)) (cs ++ map fresh_copy (fresh n ts newer))
altered n [] ts cs a = rw (append-nil ts, append-nil cs) a
altered n (d ∷ newer) ts cs a =
    by (list_any (is_place_of d.name) ts) refl (altered n newer ts cs a) (λ e. altered n newer (ts ++ at_rest d.name (fewest ts (groups n)) ∷ []) (cs ++ copy_new d.name (fewest ts (groups n)) ∷ []) (one_new ts cs a d.name (fewest ts (groups n)) e))
  where
    by : (v : Bool) → list_any (is_place_of d.name) ts ≡ v → AreInPlace (ts ++ map fresh_place (fresh n ts newer)) (cs ++ map fresh_copy (fresh n ts newer))
        → (list_any (is_place_of d.name) ts ≡ false → AreInPlace ((ts ++ at_rest d.name (fewest ts (groups n)) ∷ []) ++ map fresh_place (fresh n (ts ++ at_rest d.name (fewest ts (groups n)) ∷ []) newer)) ((cs ++ copy_new d.name (fewest ts (groups n)) ∷ []) ++ map fresh_copy (fresh n (ts ++ at_rest d.name (fewest ts (groups n)) ∷ []) newer)))
        → AreInPlace (ts ++ map fresh_place (cond v (fresh n ts newer) ((record { pred = d.name; group = fewest ts (groups n) }) ∷ fresh n (ts ++ at_rest d.name (fewest ts (groups n)) ∷ []) newer))) (cs ++ map fresh_copy (cond v (fresh n ts newer) ((record { pred = d.name; group = fewest ts (groups n) }) ∷ fresh n (ts ++ at_rest d.name (fewest ts (groups n)) ∷ []) newer)))
    by true e old new = old
    by false e old new =
        subst (λ (us : List Place). AreInPlace us (cs ++ copy_new d.name (fewest ts (groups n)) ∷ map fresh_copy (fresh n (ts ++ at_rest d.name (fewest ts (groups n)) ∷ []) newer))) (append_assoc ts (at_rest d.name (fewest ts (groups n)) ∷ []) (map fresh_place (fresh n (ts ++ at_rest d.name (fewest ts (groups n)) ∷ []) newer)))
        (subst (λ (ds : List Copy). AreInPlace ((ts ++ at_rest d.name (fewest ts (groups n)) ∷ []) ++ map fresh_place (fresh n (ts ++ at_rest d.name (fewest ts (groups n)) ∷ []) newer)) ds) (append_assoc cs (copy_new d.name (fewest ts (groups n)) ∷ []) (map fresh_copy (fresh n (ts ++ at_rest d.name (fewest ts (groups n)) ∷ []) newer))) (new e))

-- ---- each event

-- a tablet that moves was found
moving : (o : Option Place) → phase_by o ≢ Idle → (Q : Option Place → Type 0) → ((m : Place) → o ≡ Some m → Q (Some m)) → Q o
moving None ne Q g = absurd (ne refl)
moving (Some m) ne Q g = g m refl

moves : (phase : Phase) → (phase ≡ Started) ⊎ ((phase ≡ Copied) ⊎ (phase ≡ Held)) → phase ≢ Idle
moves phase (inl e) f = cc
moves phase (inr (inl e)) f = cc
moves phase (inr (inr e)) f = cc

in_place_after : (n : ℕ) (g : List Entry) (author : ℕ) (event : Event) → Fits n g author event → AreInPlace (tablets g) (copies g) → AreInPlace (places_after (places g) event).tablets (places_after (places g) event).copies
in_place_after n g author (Alter start newer written) f a =
    subst (λ (fs : List Tablet). AreInPlace (tablets g ++ map fresh_place fs) (copies g ++ map fresh_copy fs)) (sym f.1.fresh_are) (altered n newer (tablets g) (copies g) a)
in_place_after n g author (MoveStart pred group) f a = started (tablets g) (copies g) a pred group f.1.owned f.1.no_copy
in_place_after n g author (MoveCopied pred) f a =
    moving (place_of (tablets g) pred) (moves (phase_by (place_of (tablets g) pred)) (inl f.1)) (λ o. AreInPlace (on_place pred (λ t. in_phase Copied t.to t) (tablets g)) (with_image (copies g) o))
    (λ m is. copied (tablets g) (copies g) a pred m is (ap phase_by (sym is) ∙ f.1))
in_place_after n g author (MoveHold pred) f a = held (tablets g) (copies g) a pred f.1
in_place_after n g author (Flip pred until) f a =
    moving (place_of (tablets g) pred) (moves (phase_by (place_of (tablets g) pred)) (inr (inr f.1))) (λ o. AreInPlace (on_place pred (λ t. at_rest t.pred t.to) (tablets g)) (with_until (copies g) o until))
    (λ m is. flipped (tablets g) (copies g) a pred m is until (ap phase_by (sym is) ∙ f.1))
in_place_after n g author (MoveOff pred) f a =
    moving (place_of (tablets g) pred) f.1 (λ o. AreInPlace (on_place pred (λ t. at_rest t.pred t.group) (tablets g)) (without_image (copies g) o))
    (λ m is. off (tablets g) (copies g) a pred m is (subst (λ (phase : Phase). phase ≢ Idle) (ap phase_by is) f.1))
in_place_after n g author (Rolled pred group upto) f a = rolled (tablets g) (copies g) a pred group upto
in_place_after n g author (Line new) f a = lined (tablets g) (copies g) a new
in_place_after n g author event f a = a

pub in_place : (n : ℕ) (h : List Entry) → IsLegal n h → AreInPlace (tablets h) (copies h)
in_place n h l = kept_from n (λ a. Unit {0}) (λ g. AreInPlace (tablets g) (copies g)) step [] h tt l (anyone h) (record { once = tt; each = λ q. tt; apart = tt; theirs = tt })
  where
    step : (g : List Entry) (e : Entry) → Unit {0} → IsLegal n g → Fits n g e.author e.event → AreInPlace (tablets g) (copies g) → AreInPlace (tablets (g ++ e ∷ [])) (copies (g ++ e ∷ []))
    step g e o l f a = subst (λ (s : Places). AreInPlace s.tablets s.copies) (sym (places_push g e)) (in_place_after n g e.author e.event f a)
