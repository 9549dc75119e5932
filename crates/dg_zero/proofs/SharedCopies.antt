-- While a start is active, the owners' copies that were there when it began can be read at it.
use Rattle.std.proofs.Common.{◌≡◌, ◌≢◌, ◌∙◌, sym, ap, subst, refl, arith, ℕ, ◌≤◌, ◌<◌, List, [], ◌∷◌, ◌++◌, Bool, true, false, not, cond, fold, map, append_assoc}
use Rattle.std.specs.Prelude.{◌&&◌, ◌||◌, ◌==◌, Option, Some, None, IfSome, IsSomeAnd, filter}
use Rattle.std.specs.List.{AllByRecursion, list_any}
use Rattle.std.specs.declared.cmp.Ordering.{Ordering}
use Rattle.std.specs.declared.cmp.Ordering.TheVariants.{Less, Equal, Greater}
use Rattle.std.proofs.lemmas.Grind.{common_steps}
use Rattle.std.proofs.lemmas.List.Folds.{list_any-append}
use Rattle.dg_values.specs.Order.{same_text}
use Rattle.dg_sets.proofs.Sets.{all_with}
use Rattle.dg_values.specs.Ascending.{placed, with_one}
use Rattle.dg_schema.proofs.Names.{same_text-equal}
use Rattle.dg_oracle.specs.Commits as oracle
use Rattle.dg_keys.specs.declared.record.Tablet.{Tablet}
use Rattle.dg_keys.specs.Tablets.{tablet_cmp}
use Rattle.dg_zero.specs.declared.entry.Entry.{Entry}
use Rattle.dg_zero.specs.declared.entry.Event.{Event}
use Rattle.dg_zero.specs.declared.entry.Event.TheVariants.{Begin, Commit, Refused, End, Alter, MoveStart, MoveCopied, MoveHold, Flip, MoveOff, Rolled, Line}
use Rattle.dg_zero.specs.declared.tablets.Phase.{Phase}
use Rattle.dg_zero.specs.declared.tablets.Phase.TheVariants.{Idle, Started, Copied, Held}
use Rattle.dg_zero.specs.declared.tablets.Place.{Place}
use Rattle.dg_zero.specs.Counters.{Started as IsStarted, active, active_after, is_active_of, line, next, starts_of}
use Rattle.dg_zero.specs.Legal.{Fits, IsLegal}
use Rattle.dg_zero.specs.Places.{Copy, Places, places, places_after, tablets, copies, copy_at, is_copy_at, place_of, at_rest, in_phase, on_copy, on_place, mark_at, with_image, with_until, without_image, has_image, is_kept_by, phase_by}
use Rattle.dg_zero.specs.States.{tablet_of, owners}
use Rattle.dg_zero.specs.TabletLaws.{IsReadableAt, begin_of, SharedCopiesStay}
use Rattle.dg_zero.proofs.Histories.{next_push, active_push, places_push, legal_push}
use Rattle.dg_zero.proofs.LawsOfHistories.{legal_parts, kept_from, anyone, line_stays_below, line_push}
use Rattle.dg_zero.proofs.LookUps.{ends, merged, ends_keeps, merged_keeps, if_mapped, is_mapped, is_with, found_too, some_passed, some_joined, same_number, place_is_of, place_on, copy_on, copy_off}
use Rattle.dg_zero.proofs.LowMarks.{marks_low}
use Rattle.dg_zero.proofs.StandingCopies.{Stands, other_group, found_once, in_place}

-- ---- starts that are active

any_passed : {X : Type 0} (f g : X → Bool) (xs : List X) → list_any f (filter g xs) ≡ true → list_any f xs ≡ true
any_passed f g [] e = e
any_passed f g (x ∷ xs) e = by (g x) e (λ k. any_passed f g xs k)
  where
    later : (b c : Bool) → c ≡ true → (b || c) ≡ true
    later true c e = refl
    later false c e = e

    keep : (b c d : Bool) → (c ≡ true → d ≡ true) → (b || c) ≡ true → (b || d) ≡ true
    keep true c d h e = refl
    keep false c d h e = h e

    by : (v : Bool) → list_any f (cond v (x ∷ filter g xs) (filter g xs)) ≡ true → (list_any f (filter g xs) ≡ true → list_any f xs ≡ true) → (f x || list_any f xs) ≡ true
    by true e rest = keep (f x) (list_any f (filter g xs)) (list_any f xs) rest e
    by false e rest = later (f x) (list_any f xs) (rest e)

-- one that was drawn before was active before
was_active : (n : ℕ) (g : List Entry) (author : ℕ) (event : Event) (start of : ℕ) → Fits n g author event → start < next g → is_active_of (active_after (active g) author event) start of ≡ true → is_active_of (active g) start of ≡ true
was_active n g author (Begin begun) start of f lt h =
    by (is_active_of (active g) start of) ((begun == start) && (author == of)) (sym (list_any-append (λ (s : IsStarted). (s.start == start) && (s.author == of)) (active g) ((record { start = begun; author = author }) ∷ [])) ∙ h) (other (begun == start) (author == of) apart)
  where
    apart : (begun == start) ≡ false
    apart = grind (arith, common_steps, f.0)

    other : (u v : Bool) → u ≡ false → (u && v) ≡ false
    other true v e = absurd (cc)
    other false v e = refl

    by : (u v : Bool) → (u || (v || false)) ≡ true → v ≡ false → u ≡ true
    by true v e gone = refl
    by false true e gone = absurd (cc)
    by false false e gone = e
was_active n g author (Commit other preds keys asked written) start of f lt h = any_passed (λ (s : IsStarted). (s.start == start) && (s.author == of)) (λ s. not (s.start == other)) (active g) h
was_active n g author (Refused other reason) start of f lt h = any_passed (λ (s : IsStarted). (s.start == start) && (s.author == of)) (λ s. not (s.start == other)) (active g) h
was_active n g author (End other) start of f lt h = any_passed (λ (s : IsStarted). (s.start == start) && (s.author == of)) (λ s. not (s.start == other)) (active g) h
was_active n g author event start of f lt h = h

-- an active start is above what is below all of them
above_low : (low : ℕ) (starts : List IsStarted) (start of : ℕ) → oracle.Ascends low (starts_of starts) → is_active_of starts start of ≡ true → low < start
above_low low [] start of a h = absurd (cc)
above_low low (s ∷ starts) start of a h = by (s.start == start) refl (s.author == of) h (λ k. above_low s.start starts start of a.1 k)
  where
    by : (v : Bool) → (s.start == start) ≡ v → (w : Bool) → ((v && w) || is_active_of starts start of) ≡ true → (is_active_of starts start of ≡ true → s.start < start) → low < start
    by true e w h rest = let is : s.start ≡ start = same_number s.start start e in omega (arith, a.0)
    by false e w h rest = let more = rest h in omega (arith, a.0)

-- ---- what is kept of one copy

-- the copy has no end before a start, and its tablet isn't on the way to its group
record IsShared (s : Places) (start : ℕ) (pred : List ℕ) (group : ℕ) : Type 0 where
  copy : IsSomeAnd (copy_at s.copies pred group) (λ c. IfSome c.until (λ until. start ≤ until))
  away : IfSome (place_of s.tablets pred) (λ t. t.phase ≢ Idle → t.to ≢ group)

module _ (start : ℕ) (pred : List ℕ) (group : ℕ) where
  abbrev Lasts : Copy → Type 0
  Lasts c = IfSome c.until (λ until. start ≤ until)

  abbrev IsAway : Place → Type 0
  IsAway t = t.phase ≢ Idle → t.to ≢ group

  -- a tablet in its move
  away_on : (q : List ℕ) (f : Place → Place) → ((t : Place) → (f t).pred ≡ t.pred) → (ts : List Place) → ((t : Place) → pred ≡ q → place_of ts q ≡ Some t → IsAway t → IsAway (f t)) → IfSome (place_of ts pred) IsAway → IfSome (place_of (on_place q f ts) pred) IsAway
  away_on q f k ts own away =
      subst (λ (o : Option Place). IfSome o IsAway) (sym (place_on q f k ts pred))
      (if_mapped (λ t. cond (same_text pred q) (f t) t) IsAway IsAway (place_of ts pred) (λ t is w. by t is w (same_text pred q) refl) away)
    where
      by : (t : Place) → place_of ts pred ≡ Some t → IsAway t → (v : Bool) → same_text pred q ≡ v → IsAway (cond v (f t) t)
      by t is w true e = let same : pred ≡ q = same_text-equal pred q e in own t same (ap (place_of ts) (sym same) ∙ is) w
      by t is w false e = w

  at_rest_away : (p : List ℕ) (to : ℕ) → IsAway (at_rest p to)
  at_rest_away p to ne = absurd (ne refl)

  image_lasts : (cs : List Copy) (o : Option Place) → IsSomeAnd (copy_at cs pred group) Lasts → IsSomeAnd (copy_at (with_image cs o) pred group) Lasts
  image_lasts cs None c = c
  image_lasts cs (Some t) c = some_joined (is_copy_at pred group) Lasts cs ((record { pred = t.pred; group = t.to; mark = mark_at cs t.pred t.group; until = None }) ∷ []) c

  until_lasts : (cs : List Copy) (o : Option Place) (until : ℕ) → start ≤ until → IsSomeAnd (copy_at cs pred group) Lasts → IsSomeAnd (copy_at (with_until cs o until) pred group) Lasts
  until_lasts cs None until le c = c
  until_lasts cs (Some t) until le c =
      subst (λ (o : Option Copy). IsSomeAnd o Lasts) (sym (copy_on t.pred t.group (ends until) (ends_keeps until) cs pred group))
      (is_mapped (λ d. cond (same_text pred t.pred && (group == t.group)) (ends until d) d) Lasts Lasts (copy_at cs pred group) (λ d w. by d (same_text pred t.pred && (group == t.group)) w) c)
    where
      by : (d : Copy) (v : Bool) → Lasts d → Lasts (cond v (ends until d) d)
      by d true w = le
      by d false w = w

  merged_lasts : (cs : List Copy) (q : List ℕ) (at upto : ℕ) → IsSomeAnd (copy_at cs pred group) Lasts → IsSomeAnd (copy_at (on_copy q at (merged upto) cs) pred group) Lasts
  merged_lasts cs q at upto c =
      subst (λ (o : Option Copy). IsSomeAnd o Lasts) (sym (copy_on q at (merged upto) (merged_keeps upto) cs pred group))
      (is_mapped (λ d. cond (same_text pred q && (group == at)) (merged upto d) d) Lasts Lasts (copy_at cs pred group) (λ d w. by d (same_text pred q && (group == at)) w) c)
    where
      by : (d : Copy) (v : Bool) → Lasts d → Lasts (cond v (merged upto d) d)
      by d true w = w
      by d false w = w

  -- the image that a cancelled move drops isn't this copy
  off_lasts : (ts : List Place) (cs : List Copy) (q : List ℕ) (o : Option Place) → place_of ts q ≡ o → phase_by o ≢ Idle → IfSome (place_of ts pred) IsAway → IsSomeAnd (copy_at cs pred group) Lasts → IsSomeAnd (copy_at (without_image cs o) pred group) Lasts
  off_lasts ts cs q None is ne away c = c
  off_lasts ts cs q (Some m) is ne away c = by (has_image m.phase)
    where
      both : (u v : Bool) → (u && v) ≡ true → (u ≡ true) × (v ≡ true)
      both true true e = (refl, refl)
      both true false e = absurd (cc)
      both false v e = absurd (cc)

      other : (v : Bool) → (same_text pred m.pred && (group == m.to)) ≡ v → v ≡ false
      other false e = refl
      other true e =
          let p = both (same_text pred m.pred) (group == m.to) e in
          let same : pred ≡ q = same_text-equal pred m.pred p.0 ∙ place_is_of ts q m is in
          absurd (subst (λ (u : Option Place). IfSome u IsAway) (ap (place_of ts) same ∙ is) away ne (sym (same_number group m.to p.1)))

      by : (v : Bool) → IsSomeAnd (copy_at (cond v (filter (λ d. not (is_copy_at m.pred m.to d)) cs) cs) pred group) Lasts
      by true = subst (λ (u : Option Copy). IsSomeAnd u Lasts) (sym (copy_off m.pred m.to cs pred group (other (same_text pred m.pred && (group == m.to)) refl))) c
      by false = c

  line_lasts : (cs : List Copy) (new : ℕ) → new < start → IsSomeAnd (copy_at cs pred group) Lasts → IsSomeAnd (copy_at (filter (λ d. is_kept_by new d.until) cs) pred group) Lasts
  line_lasts cs new lt c = some_passed (is_copy_at pred group) (λ d. is_kept_by new d.until) Lasts cs (λ d w. kept d.until w) c
    where
      kept : (o : Option ℕ) → IfSome o (λ until. start ≤ until) → is_kept_by new o ≡ true
      kept None w = refl
      kept (Some until) w = grind (arith, common_steps)

-- ---- by each event

abbrev phase_of : List Entry → List ℕ → Phase
phase_of g q = phase_by (place_of (tablets g) q)

module _ (n : ℕ) (g : List Entry) (author start of : ℕ) (pred : List ℕ) (group : ℕ) (l : IsLegal n g) (lt : start < next g) (s : IsShared (places g) start pred group) where
  -- a phase that comes after another
  in_move : (q : List ℕ) (old new : Phase) → old ≢ Idle → phase_of g q ≡ old → IfSome (place_of (on_place q (λ t. in_phase new t.to t) (tablets g)) pred) (IsAway start pred group)
  in_move q old new ne p =
      away_on start pred group q (λ t. in_phase new t.to t) (λ t. refl) (tablets g) (λ t same is w moving. w (subst (λ (phase : Phase). phase ≢ Idle) (sym (ap phase_by (sym is) ∙ p)) ne)) s.away

  shared_after : (event : Event) → Fits n g author event → is_active_of (active_after (active g) author event) start of ≡ true → IsShared (places_after (places g) event) start pred group
  shared_after (Alter begun newer written) f h = absurd (none (subst (λ (starts : List IsStarted). is_active_of starts start of ≡ true) f.1.none_active h))
    where
      none : false ≡ true → ⊥
      none e = cc
  shared_after (MoveStart q to) f h = record {
    copy = s.copy;
    away = away_on start pred group q (in_phase Started to) (λ t. refl) (tablets g) (λ t same is w moving here. gone same here) s.away;
  }
    where
      gone : pred ≡ q → to ≡ group → ⊥
      gone same here = subst (λ (o : Option Copy). IsSomeAnd o (Lasts start pred group)) ((λ i. copy_at (copies g) (same i) (sym here i)) ∙ f.1.no_copy) s.copy
  shared_after (MoveCopied q) f h = record {
    copy = image_lasts start pred group (copies g) (place_of (tablets g) q) s.copy;
    away = in_move q Started Copied (λ e. cc) f.1;
  }
  shared_after (MoveHold q) f h = record { copy = s.copy; away = in_move q Copied Held (λ e. cc) f.1 }
  shared_after (Flip q until) f h = record {
    copy = until_lasts start pred group (copies g) (place_of (tablets g) q) until (omega (arith, f.2)) s.copy;
    away = away_on start pred group q (λ t. at_rest t.pred t.to) (λ t. refl) (tablets g) (λ t same is w. at_rest_away start pred group t.pred t.to) s.away;
  }
  shared_after (MoveOff q) f h = record {
    copy = off_lasts start pred group (tablets g) (copies g) q (place_of (tablets g) q) refl f.1 s.away s.copy;
    away = away_on start pred group q (λ t. at_rest t.pred t.group) (λ t. refl) (tablets g) (λ t same is w. at_rest_away start pred group t.pred t.group) s.away;
  }
  shared_after (Rolled q at upto) f h = record { copy = merged_lasts start pred group (copies g) q at upto s.copy; away = s.away }
  shared_after (Line new) f h = record { copy = line_lasts start pred group (copies g) new low s.copy; away = s.away }
    where
      low : new < start
      low =
          above_low new (active g) start of
          (subst (λ (starts : List IsStarted). oracle.Ascends new (starts_of starts)) (active_push g (record { author = author; event = Line new })) (subst (λ (k : ℕ). oracle.Ascends k (starts_of (active (g ++ (record { author = author; event = Line new }) ∷ [])))) (line_push g (record { author = author; event = Line new })) (line_stays_below n (g ++ (record { author = author; event = Line new }) ∷ []) (legal_push n g (record { author = author; event = Line new }) l f)).starts))
          h
  shared_after event f h = record { copy = s.copy; away = s.away }

-- ---- by entries

-- what is shared at a start stays so while it is active
record StaysShared (g : List Entry) (start of : ℕ) (pred : List ℕ) (group : ℕ) : Type 0 where
  drawn_is : start < next g
  shared : is_active_of (active g) start of ≡ true → IsShared (places g) start pred group

stays_after : (n : ℕ) (g : List Entry) (e : Entry) (start of : ℕ) (pred : List ℕ) (group : ℕ) → IsLegal n g → Fits n g e.author e.event → StaysShared g start of pred group → StaysShared (g ++ e ∷ []) start of pred group
stays_after n g e start of pred group l f s = record {
  drawn_is = let grown = next_push g e in omega (arith, s.drawn_is);
  shared = λ h.
      let now : is_active_of (active_after (active g) e.author e.event) start of ≡ true = subst (λ (starts : List IsStarted). is_active_of starts start of ≡ true) (active_push g e) h in
      subst (λ (q : Places). IsShared q start pred group) (sym (places_push g e))
      (shared_after n g e.author start of pred group l s.drawn_is (s.shared (was_active n g e.author e.event start of f s.drawn_is now)) e.event f now);
}

-- at the begin
shared_first : (cs : List Copy) (ts : List Place) (start : ℕ) (t : Place) → place_of ts t.pred ≡ Some t → Stands cs t.pred t → IsShared (record { tablets = ts; copies = cs }) start t.pred t.group
shared_first cs ts start t is s = record {
  copy = is_with (λ (c : Copy). c.until ≡ None) (λ (c : Copy). IfSome c.until (λ until. start ≤ until)) (copy_at cs t.pred t.group) (λ c e. subst (λ (o : Option ℕ). IfSome o (λ until. start ≤ until)) (sym e) tt) s.own;
  away = subst (λ (o : Option Place). IfSome o (λ (u : Place). u.phase ≢ Idle → u.to ≢ t.group)) (sym is) (λ ne. other_group cs t.pred t.group t.to t.phase ne s.move);
}

-- what holds of the tablets of places holds of owners
all_put : {X : Type 0} (cmp : X → X → Ordering) (P : X → Type 0) (xs : List X) (x : X) → P x → AllByRecursion P xs → AllByRecursion P (with_one cmp xs x)
all_put cmp P [] x p a = (p, tt)
all_put cmp P (y ∷ ys) x p a = by (cmp x y) (all_put cmp P ys x p a.1)
  where
    by : (v : Ordering) → AllByRecursion P (with_one cmp ys x) → AllByRecursion P (placed v x y ys (with_one cmp ys x))
    by Less rest = (p, a)
    by Equal rest = a
    by Greater rest = (a.0, rest)

all_owned : (P : Tablet → Type 0) (base : List Tablet) (ts : List Place) → AllByRecursion P base → AllByRecursion (λ t. P (tablet_of t)) ts → AllByRecursion P (fold (with_one tablet_cmp) base (map tablet_of ts))
all_owned P base [] b a = b
all_owned P base (t ∷ ts) b a = all_owned P (with_one tablet_cmp base (tablet_of t)) ts (all_put tablet_cmp P base (tablet_of t) a.0 b) a.1

-- ---- the law

module _ (n : ℕ) (h more : List Entry) (author start : ℕ) (l : IsLegal n (h ++ begin_of author start ∷ more)) (is : is_active_of (active (h ++ begin_of author start ∷ more)) start author ≡ true) where
  whole : IsLegal n h × Fits n h author (Begin start)
  whole = let p = legal_parts n [] h (begin_of author start ∷ more) l in (p.0, p.1.0)

  low : line (h ++ begin_of author start ∷ more) < start
  low = above_low (line (h ++ begin_of author start ∷ more)) (active (h ++ begin_of author start ∷ more)) start author (line_stays_below n (h ++ begin_of author start ∷ more) l).starts is

  at_begin : (t : Place) → place_of (tablets h) t.pred ≡ Some t → StaysShared (h ++ begin_of author start ∷ []) start author t.pred t.group
  at_begin t found = record {
    drawn_is = let grown = next_push h (begin_of author start) in let first = whole.1.0 in omega arith;
    shared = λ _.
        subst (λ (q : Places). IsShared q start t.pred t.group) (sym (places_push h (begin_of author start)))
        (shared_first (copies h) (tablets h) start t found (subst (λ (o : Option Place). IfSome o (Stands (copies h) t.pred)) found ((in_place n h whole.0).each t.pred)));
  }

  at_end : (t : Place) → place_of (tablets h) t.pred ≡ Some t → StaysShared (h ++ begin_of author start ∷ more) start author t.pred t.group
  at_end t found =
      subst (λ (g : List Entry). StaysShared g start author t.pred t.group) (append_assoc h (begin_of author start ∷ []) more)
      (kept_from n (λ a. Unit {0}) (λ g. StaysShared g start author t.pred t.group) (λ g e o m f s. stays_after n g e start author t.pred t.group m f s) (h ++ begin_of author start ∷ []) more
      (legal_push n h (begin_of author start) whole.0 whole.1) (legal_parts n [] h (begin_of author start ∷ more) l).1.1 (anyone more) (at_begin t found))

  readable : (t : Place) → place_of (tablets h) t.pred ≡ Some t → IsSomeAnd (copy_at (copies (h ++ begin_of author start ∷ more)) t.pred t.group) (IsReadableAt start)
  readable t found =
      let marks = marks_low n (h ++ begin_of author start ∷ more) l in
      is_with (λ (c : Copy). (c.mark ≤ line (h ++ begin_of author start ∷ more)) × IfSome c.until (λ until. start ≤ until)) (IsReadableAt start) (copy_at (copies (h ++ begin_of author start ∷ more)) t.pred t.group)
      (λ c w. record { merged = omega (arith, w.0, low); lasts = w.1 })
      (found_too (is_copy_at t.pred t.group) (λ (c : Copy). c.mark ≤ line (h ++ begin_of author start ∷ more)) (λ (c : Copy). IfSome c.until (λ until. start ≤ until)) (copies (h ++ begin_of author start ∷ more)) marks ((at_end t found).shared is).copy)

  all_readable : AllByRecursion (λ (u : Tablet). IsSomeAnd (copy_at (copies (h ++ begin_of author start ∷ more)) u.pred u.group) (IsReadableAt start)) (owners h)
  all_readable =
      all_owned (λ (u : Tablet). IsSomeAnd (copy_at (copies (h ++ begin_of author start ∷ more)) u.pred u.group) (IsReadableAt start)) [] (tablets h) tt
      (all_with (λ (t : Place). place_of (tablets h) t.pred ≡ Some t) (λ (t : Place). IsSomeAnd (copy_at (copies (h ++ begin_of author start ∷ more)) t.pred t.group) (IsReadableAt start)) (tablets h) readable (found_once (tablets h) (in_place n h whole.0).once))

pub shared_copies_stay : SharedCopiesStay
shared_copies_stay n h more author start l is = all_readable n h more author start l is
