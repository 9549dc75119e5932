-- Records between two timestamps, and the next one.
use Rattle.std.proofs.Common.{◌≡◌, ◌<◌, ◌≤◌, ◌-◌, ◌∙◌, sym, ap, subst, arith, refl, ℕ, List, [], ◌∷◌, ◌++◌, Bool, true, false, cond, map, fold}
use Rattle.std.specs.Prelude.{◌&&◌, ◌||◌, nat_le, nat_lt, Some, filter, find}
use Rattle.std.specs.List.{AllByRecursion, list_any}
use Rattle.std.proofs.lemmas.Grind.{common_steps}
use Rattle.dg_sets.proofs.Sets.{all_with}
use Rattle.dg_oracle.specs.Commits.{Ascends}
use Rattle.dg_keys.specs.declared.record.Record.{Record}
use Rattle.dg_zero.specs.declared.entry.Entry.{Entry}
use Rattle.dg_zero.specs.declared.entry.Event.{Event}
use Rattle.dg_zero.specs.declared.entry.Event.TheVariants.{Commit, Alter}
use Rattle.dg_zero.specs.Worlds.{World, world_after, world_upto, world_at, empty_world, stamp}
use Rattle.dg_zero.specs.Records.{record_of, records, next_record, ts_of}
use Rattle.dg_group.specs.Stands.{NoneBetween, is_brought, has_tablet}

-- ---- none of a list passes

pub none_pass : {X : Type 0} (f : X → Bool) (xs : List X) → filter f xs ≡ [] → AllByRecursion (λ x. f x ≡ false) xs
none_pass f [] e = tt
none_pass f (x ∷ xs) e = by (f x) refl e (λ k. none_pass f xs k)
  where
    by : (v : Bool) → f x ≡ v → cond v (x ∷ filter f xs) (filter f xs) ≡ [] → (filter f xs ≡ [] → AllByRecursion (λ y. f y ≡ false) xs) → (f x ≡ false) × AllByRecursion (λ y. f y ≡ false) xs
    by true p e rest = absurd (cc)
    by false p e rest = (p, rest e)

pub pass_none : {X : Type 0} (f : X → Bool) (xs : List X) → AllByRecursion (λ x. f x ≡ false) xs → filter f xs ≡ []
pass_none f [] a = refl
pass_none f (x ∷ xs) a = rw a.0 (pass_none f xs a.1)

-- ---- fewer timestamps

fewer : (a b c d t : ℕ) → a ≤ c → d ≤ b → (nat_lt a t && nat_le t b) ≡ false → (nat_lt c t && nat_le t d) ≡ false
fewer a b c d t l m e = grind (arith, common_steps)

pub none_fewer : (h : List Entry) (a b c d : ℕ) → a ≤ c → d ≤ b → NoneBetween h a b → NoneBetween h c d
none_fewer h a b c d l m e =
    pass_none (λ r. nat_lt c r.ts && nat_le r.ts d) (records h)
    (all_with (λ r. (nat_lt a r.ts && nat_le r.ts b) ≡ false) (λ r. (nat_lt c r.ts && nat_le r.ts d) ≡ false) (records h) (λ r p. fewer a b c d r.ts l m p) (none_pass (λ r. nat_lt a r.ts && nat_le r.ts b) (records h) e))

-- none lies from a timestamp on to one that isn't above it
pub none_back : (h : List Entry) (a b : ℕ) → b ≤ a → NoneBetween h a b
none_back h a b l = pass_none (λ r. nat_lt a r.ts && nat_le r.ts b) (records h) (each (records h))
  where
    back : (t : ℕ) → (nat_lt a t && nat_le t b) ≡ false
    back t = grind (arith, common_steps)

    each : (rs : List Record) → AllByRecursion (λ r. (nat_lt a r.ts && nat_le r.ts b) ≡ false) rs
    each [] = tt
    each (r ∷ rs) = (back r.ts, each rs)

-- ---- the world where no record lies between

same_test : (a b t : ℕ) → a ≤ b → (nat_lt a t && nat_le t b) ≡ false → nat_le t b ≡ nat_le t a
same_test a b t l e = grind (arith, common_steps)

one_event : (a b : ℕ) (w : World) (event : Event) → a ≤ b → AllByRecursion (λ r. (nat_lt a r.ts && nat_le r.ts b) ≡ false) (record_of event) → cond (nat_le (stamp event) b) (world_after w event) w ≡ cond (nat_le (stamp event) a) (world_after w event) w
one_event a b w (Commit start preds keys asked written) l p = λ i. cond (same_test a b written.ts l p.0 i) (world_after w (Commit start preds keys asked written)) w
one_event a b w (Alter start newer written) l p = λ i. cond (same_test a b written.ts l p.0 i) (world_after w (Alter start newer written)) w
one_event a b w event l p = same (nat_le 0 b) (nat_le 0 a)
  where
    same : (u v : Bool) → cond u w w ≡ cond v w w
    same true true = refl
    same true false = refl
    same false true = refl
    same false false = refl

pub all_front : {X : Type 0} (P : X → Type 0) (xs ys : List X) → AllByRecursion P (xs ++ ys) → AllByRecursion P xs × AllByRecursion P ys
all_front P [] ys a = (tt, a)
all_front P (x ∷ xs) ys a = let r = all_front P xs ys a.1 in ((a.0, r.0), r.1)

world_from : (a b : ℕ) (w : World) (h : List Entry) → a ≤ b → AllByRecursion (λ r. (nat_lt a r.ts && nat_le r.ts b) ≡ false) (records h) → fold (world_upto b) w h ≡ fold (world_upto a) w h
world_from a b w [] l p = refl
world_from a b w (e ∷ h) l p =
    let parts = all_front (λ r. (nat_lt a r.ts && nat_le r.ts b) ≡ false) (record_of e.event) (records h) p in
    world_from a b (world_upto b w e) h l parts.1 ∙ ap (λ (v : World). fold (world_upto a) v h) (one_event a b w e.event l parts.0)

-- the world stays where no record lies between
pub world_same : (h : List Entry) (a b : ℕ) → a ≤ b → NoneBetween h a b → world_at h b ≡ world_at h a
world_same h a b l e = world_from a b empty_world h l (none_pass (λ r. nat_lt a r.ts && nat_le r.ts b) (records h) e)

-- ---- the next record

pub found_at : {X : Type 0} (P : X → Type 0) (f : X → Bool) (xs : List X) (x : X) → find f xs ≡ Some x → AllByRecursion P xs → P x
found_at P f [] x e a = absurd (cc)
found_at P f (y ∷ ys) x e a = by (f y) e (λ k. found_at P f ys x k a.1)
  where
    same : Some y ≡ Some x → y ≡ x
    same e = cc

    by : (v : Bool) → cond v (Some y) (find f ys) ≡ Some x → (find f ys ≡ Some x → P x) → P x
    by true e rest = subst P (same e) a.0
    by false e rest = rest e

pub found_is : {X : Type 0} (f : X → Bool) (xs : List X) (x : X) → find f xs ≡ Some x → f x ≡ true
found_is f [] x e = absurd (cc)
found_is f (y ∷ ys) x e = by (f y) refl e (λ k. found_is f ys x k)
  where
    same : Some y ≡ Some x → y ≡ x
    same e = cc

    by : (v : Bool) → f y ≡ v → cond v (Some y) (find f ys) ≡ Some x → (find f ys ≡ Some x → f x ≡ true) → f x ≡ true
    by true p e rest = sym (ap f (same e)) ∙ p
    by false p e rest = rest e

pub found_any : {X : Type 0} (f g : X → Bool) (xs : List X) (x : X) → find f xs ≡ Some x → g x ≡ true → list_any g xs ≡ true
found_any f g [] x e q = absurd (cc)
found_any f g (y ∷ ys) x e q = by (f y) e (λ k. found_any f g ys x k q)
  where
    same : Some y ≡ Some x → y ≡ x
    same e = cc

    first : (u v : Bool) → u ≡ true → (u || v) ≡ true
    first true v p = refl
    first false v p = absurd (cc)

    later : (u v : Bool) → v ≡ true → (u || v) ≡ true
    later true v p = refl
    later false v p = p

    by : (v : Bool) → cond v (Some y) (find f ys) ≡ Some x → (find f ys ≡ Some x → list_any g ys ≡ true) → (g y || list_any g ys) ≡ true
    by true e rest = first (g y) (list_any g ys) (ap g (same e) ∙ q)
    by false e rest = later (g y) (list_any g ys) (rest e)

-- records above one
later_none : (rs : List Record) (low a b : ℕ) → Ascends low (map ts_of rs) → b ≤ low → AllByRecursion (λ r. (nat_lt a r.ts && nat_le r.ts b) ≡ false) rs
later_none [] low a b s l = tt
later_none (r ∷ rs) low a b s l = (over r.ts s.0, later_none rs r.ts a b s.1 (omega (arith, s.0)))
  where
    over : (t : ℕ) → low < t → (nat_lt a t && nat_le t b) ≡ false
    over t lt = grind (arith, common_steps)

before_first : (rs : List Record) (low after : ℕ) (r : Record) → Ascends low (map ts_of rs) → find (λ s. nat_lt after s.ts) rs ≡ Some r → AllByRecursion (λ s. (nat_lt after s.ts && nat_le s.ts (r.ts - 1)) ≡ false) rs
before_first [] low after r s e = tt
before_first (x ∷ xs) low after r s e = by (nat_lt after x.ts) refl e (λ k. before_first xs x.ts after r s.1 k)
  where
    same : Some x ≡ Some r → x ≡ r
    same e = cc

    own : (t : ℕ) → low < t → (nat_lt after t && nat_le t (t - 1)) ≡ false
    own t lt = grind (arith, common_steps)

    by : (v : Bool) → nat_lt after x.ts ≡ v → cond v (Some x) (find (λ s. nat_lt after s.ts) xs) ≡ Some r → (find (λ s. nat_lt after s.ts) xs ≡ Some r → AllByRecursion (λ s. (nat_lt after s.ts && nat_le s.ts (r.ts - 1)) ≡ false) xs) → ((nat_lt after x.ts && nat_le x.ts (r.ts - 1)) ≡ false) × AllByRecursion (λ s. (nat_lt after s.ts && nat_le s.ts (r.ts - 1)) ≡ false) xs
    by true p e rest =
        subst (λ (y : Record). ((nat_lt after x.ts && nat_le x.ts (y.ts - 1)) ≡ false) × AllByRecursion (λ s. (nat_lt after s.ts && nat_le s.ts (y.ts - 1)) ≡ false) xs) (same e)
        (own x.ts s.0, later_none xs x.ts after (x.ts - 1) s.1 (omega arith))
    by false p e rest = (rw p refl, rest e)

-- what the next record is
pub record IsNext (h : List Entry) (last : ℕ) (r : Record) : Type 0 where
  pub above : last < r.ts
  pub none : NoneBetween h last (r.ts - 1)

is_above : (m n : ℕ) → nat_lt m n ≡ true → m < n
is_above m n e = grind (arith, common_steps)

pub next_is : (h : List Entry) (last : ℕ) (r : Record) → Ascends 0 (map ts_of (records h)) → next_record h last ≡ Some r → IsNext h last r
next_is h last r s e = record {
  above = is_above last r.ts (found_is (λ x. nat_lt last x.ts) (records h) r e);
  none = pass_none (λ x. nat_lt last x.ts && nat_le x.ts (r.ts - 1)) (records h) (before_first (records h) 0 last r s e);
}

-- where none lies between the last one and a timestamp, that is below the next one
pub below_next : (h : List Entry) (last : ℕ) (r : Record) (at : ℕ) → next_record h last ≡ Some r → NoneBetween h last at → at < r.ts
below_next h last r at e none =
    below r.ts (found_is (λ x. nat_lt last x.ts) (records h) r e) (found_at (λ x. (nat_lt last x.ts && nat_le x.ts at) ≡ false) (λ x. nat_lt last x.ts) (records h) r e (none_pass (λ x. nat_lt last x.ts && nat_le x.ts at) (records h) none))
  where
    below : (t : ℕ) → nat_lt last t ≡ true → (nat_lt last t && nat_le t at) ≡ false → at < t
    below t p q = grind (arith, common_steps)

-- ---- which tablets were brought

-- none of the records above one are at or below it
none_brought : (rs : List Record) (low b : ℕ) (pred : List ℕ) → Ascends low (map ts_of rs) → b ≤ low → list_any (λ r. nat_le r.ts b && has_tablet pred r.fresh) rs ≡ false
none_brought [] low b pred s l = refl
none_brought (r ∷ rs) low b pred s l = rw (over r.ts s.0, none_brought rs r.ts b pred s.1 (omega (arith, s.0))) refl
  where
    over : (t : ℕ) → low < t → nat_le t b ≡ false
    over t lt = grind (arith, common_steps)

brought_by : (rs : List Record) (low last : ℕ) (rec : Record) (pred : List ℕ) → Ascends low (map ts_of rs) → find (λ r. nat_lt last r.ts) rs ≡ Some rec → list_any (λ r. nat_le r.ts rec.ts && has_tablet pred r.fresh) rs ≡ (list_any (λ r. nat_le r.ts last && has_tablet pred r.fresh) rs || has_tablet pred rec.fresh)
brought_by [] low last rec pred s e = absurd (cc)
brought_by (x ∷ xs) low last rec pred s e = by (nat_lt last x.ts) refl e (λ k. brought_by xs x.ts last rec pred s.1 k)
  where
    same : Some x ≡ Some rec → x ≡ rec
    same e = cc

    le_itself : (t : ℕ) → nat_le t t ≡ true
    le_itself t = grind (arith, common_steps)

    not_yet : (t : ℕ) → nat_lt last t ≡ true → nat_le t last ≡ false
    not_yet t p = grind (arith, common_steps)

    already : (t : ℕ) → nat_lt last t ≡ false → nat_le t last ≡ true
    already t p = grind (arith, common_steps)

    and_later : (t u : ℕ) → nat_lt last t ≡ false → nat_lt last u ≡ true → nat_le t u ≡ true
    and_later t u p q = grind (arith, common_steps)

    turned : (a : Bool) → (a || false) ≡ (false || a)
    turned true = refl
    turned false = refl

    joined : (a b c d : Bool) → b ≡ (c || d) → (a || b) ≡ ((a || c) || d)
    joined true b c d e = refl
    joined false b c d e = e

    by : (v : Bool) → nat_lt last x.ts ≡ v → cond v (Some x) (find (λ r. nat_lt last r.ts) xs) ≡ Some rec
        → (find (λ r. nat_lt last r.ts) xs ≡ Some rec → list_any (λ r. nat_le r.ts rec.ts && has_tablet pred r.fresh) xs ≡ (list_any (λ r. nat_le r.ts last && has_tablet pred r.fresh) xs || has_tablet pred rec.fresh))
        → list_any (λ r. nat_le r.ts rec.ts && has_tablet pred r.fresh) (x ∷ xs) ≡ (list_any (λ r. nat_le r.ts last && has_tablet pred r.fresh) (x ∷ xs) || has_tablet pred rec.fresh)
    by true p e rest =
        subst (λ (y : Record). list_any (λ r. nat_le r.ts y.ts && has_tablet pred r.fresh) (x ∷ xs) ≡ (list_any (λ r. nat_le r.ts last && has_tablet pred r.fresh) (x ∷ xs) || has_tablet pred y.fresh)) (same e)
        (rw (le_itself x.ts, not_yet x.ts p, none_brought xs x.ts x.ts pred s.1 (omega arith), none_brought xs x.ts last pred s.1 (omega (arith, is_above last x.ts p))) (turned (has_tablet pred x.fresh)))
    by false p e rest =
        let q = found_is (λ r. nat_lt last r.ts) xs rec e in
        rw (and_later x.ts rec.ts p q, already x.ts p) (joined (has_tablet pred x.fresh) (list_any (λ r. nat_le r.ts rec.ts && has_tablet pred r.fresh) xs) (list_any (λ r. nat_le r.ts last && has_tablet pred r.fresh) xs) (has_tablet pred rec.fresh) (rest e))

pub brought_next : (h : List Entry) (last : ℕ) (rec : Record) (pred : List ℕ) → Ascends 0 (map ts_of (records h)) → next_record h last ≡ Some rec → is_brought h rec.ts pred ≡ (is_brought h last pred || has_tablet pred rec.fresh)
brought_next h last rec pred s e = brought_by (records h) 0 last rec pred s e
