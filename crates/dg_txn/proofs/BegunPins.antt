-- The pins of groups that are up to date hold the present graph, which is that at a start that is drawn then.
use Rattle.std.proofs.Common.{◌≡◌, ◌<◌, ◌≤◌, ◌+◌, ◌∙◌, sym, ap, subst, arith, refl, ℕ, zero, suc, List, [], ◌∷◌, ◌++◌, Bool, true, false, cond, map, fold}
use Rattle.std.specs.Prelude.{◌||◌, ◌&&◌, ◌==◌, if◌then◌else◌, nat_le, nat_lt, Option, Some, None, find, option_map, IsSomeAnd}
use Rattle.std.specs.List.{AllByRecursion, list_any}
use Rattle.std.specs.Option.{option_and_then}
use Rattle.std.specs.Ordering.{is_eq, nat_cmp}
use Rattle.std.proofs.lemmas.Grind.{common_steps}
use Rattle.std.proofs.lemmas.List.{append-nil}
use Rattle.dg_values.specs.Order.{IsOrder, same_text, text_cmp}
use Rattle.dg_values.specs.Ascending.{has, ascending}
use Rattle.dg_sets.proofs.MadeOrders.{nat_order, text_order, then_order}
use Rattle.dg_sets.proofs.Sets.{all_with, any_at, at, from_each, has_more, is_itself}
use Rattle.dg_schema.proofs.Names.{same_text-equal, same_text-itself}
use Rattle.dg_schema.specs.declared.definition.PredDef.{PredDef}
use Rattle.dg_graph.specs.declared.change.Triple.{Triple}
use Rattle.dg_graph.specs.Graphs.{after_changes, IsLawful}
use Rattle.dg_keys.specs.declared.key.Key.{Key}
use Rattle.dg_keys.specs.declared.record.Record.{Record}
use Rattle.dg_keys.specs.declared.record.Tablet.{Tablet}
use Rattle.dg_keys.specs.Keys.{pred_of}
use Rattle.dg_keys.specs.Tablets.{tablet_cmp}
use Rattle.dg_zero.specs.declared.entry.Entry.{Entry}
use Rattle.dg_zero.specs.declared.entry.Event.{Event}
use Rattle.dg_zero.specs.declared.entry.Event.TheVariants.{Alter, MoveStart, MoveCopied, MoveHold, Flip, MoveOff, Rolled, Line}
use Rattle.dg_zero.specs.declared.tablets.Phase.TheVariants.{Started, Copied, Held}
use Rattle.dg_zero.specs.declared.tablets.Place.{Place}
use Rattle.dg_zero.specs.Counters.{next, last}
use Rattle.dg_zero.specs.Worlds.{World, world, world_at, schema, schema_at, graph_at}
use Rattle.dg_zero.specs.Places.{Copy, Places, places, places_after, tablets, copies, copy_at, is_place_of, on_place, in_phase, at_rest, fresh, fresh_place, fewest, groups, owned}
use Rattle.dg_zero.specs.Records.{record_of, records, next_record}
use Rattle.dg_zero.specs.Listings.{listing}
use Rattle.dg_zero.specs.States.{owners, tablet_of}
use Rattle.dg_zero.specs.Legal.{Fits, IsLegal}
use Rattle.dg_zero.specs.TabletLaws.{begin_of, HasCopy}
use Rattle.dg_zero.proofs.DeclaredTablets.{any_on}
use Rattle.dg_zero.proofs.Histories.{next_push, places_push, records_push}
use Rattle.dg_zero.proofs.LawfulGraphs.{graphs_are_lawful}
use Rattle.dg_zero.proofs.LawsOfHistories.{kept_from, anyone, world_push, present_is_last}
use Rattle.dg_zero.proofs.TabletsAndCopies.{tablets_are_declared, owners_have_copies}
use Rattle.dg_group.specs.declared.copied.Copied as held
use Rattle.dg_group.specs.Groups.{Group, copy_of, is_copy_of, IsLaid}
use Rattle.dg_group.specs.Stands.{CopyStands, IsInStep, Standing, is_brought, has_tablet, standing_of, standing_in}
use Rattle.dg_group.proofs.Between.{found_at, found_is}
use Rattle.dg_group.proofs.Entries.{legal_last, all_joined, any_joined, or_true, last_drawn, entries_keep_in_step, all_applied_is_readable}
use Rattle.dg_txn.specs.Pins.{pin_of, pinned_copy, IsCopyOf, ArePinsOf}
use Rattle.dg_txn.specs.Laws.{AreCurrent, BegunPinsHold, PresentPinsHold}

-- ---- tablets are at groups from 1 to n

-- the number is one of the groups'
record IsNumber (n k : ℕ) : Type 0 where
  least : 1 ≤ k
  most : k ≤ n

numbers_are : (n : ℕ) → AllByRecursion (IsNumber n) (groups n)
numbers_are zero = tt
numbers_are (suc n) =
    all_joined (IsNumber (suc n)) (groups n) ((n + 1) ∷ []) (all_with (IsNumber n) (IsNumber (suc n)) (groups n) (λ k i. record { least = i.least; most = omega (arith, i.most) }) (numbers_are n)) (record { least = omega arith; most = omega arith }, tt)

number_in : (n k : ℕ) → IsNumber n k → list_any (λ m. m == k) (groups n) ≡ true
number_in zero k i = absurd (omega (arith, i.least, i.most))
number_in (suc n) k i = any_joined (λ m. m == k) (groups n) ((n + 1) ∷ []) ∙ by (nat_le k n) refl (λ j. number_in n k j)
  where
    later : (a b : Bool) → b ≡ true → (a || (b || false)) ≡ true
    later true b e = refl
    later false true e = refl
    later false false e = absurd (cc)

    by : (v : Bool) → nat_le k n ≡ v → (IsNumber n k → list_any (λ m. m == k) (groups n) ≡ true) → (list_any (λ m. m == k) (groups n) || (((n + 1) == k) || false)) ≡ true
    by true e below = or_true (list_any (λ m. m == k) (groups n)) (((n + 1) == k) || false) (below (record { least = i.least; most = within e }))
      where
        within : nat_le k n ≡ true → k ≤ n
        within q = grind (arith, common_steps)
    by false e below = later (list_any (λ m. m == k) (groups n)) ((n + 1) == k) (same e)
      where
        same : nat_le k n ≡ false → ((n + 1) == k) ≡ true
        same q = let most = i.most in grind (arith, common_steps)

fewest_is : (n : ℕ) (ts : List Place) → 1 ≤ n → IsNumber n (fewest ts (groups n))
fewest_is n ts le = over (groups n) 1 (numbers_are n) (record { least = omega arith; most = le })
  where
    either : (b : Bool) (k m : ℕ) → IsNumber n k → IsNumber n m → IsNumber n (cond b k m)
    either true k m i j = i
    either false k m i j = j

    over : (ks : List ℕ) (best : ℕ) → AllByRecursion (IsNumber n) ks → IsNumber n best → IsNumber n (fold (λ best group. cond (nat_lt (owned ts group) (owned ts best)) group best) best ks)
    over [] best a i = i
    over (k ∷ ks) best a i = over ks (cond (nat_lt (owned ts k) (owned ts best)) k best) a.1 (either (nat_lt (owned ts k) (owned ts best)) k best a.0 i)

-- the tablet's group, and the one that it goes to
record IsHoused (n : ℕ) (t : Place) : Type 0 where
  at : IsNumber n t.group
  to : IsNumber n t.to

fresh_are_housed : (n : ℕ) (ts : List Place) (newer : List PredDef) → 1 ≤ n → AllByRecursion (IsHoused n) (map fresh_place (fresh n ts newer))
fresh_are_housed n ts [] le = tt
fresh_are_housed n ts (d ∷ newer) le = by (list_any (is_place_of d.name) ts) (fresh_are_housed n ts newer le) (fresh_are_housed n (ts ++ at_rest d.name (fewest ts (groups n)) ∷ []) newer le)
  where
    first : IsNumber n (fewest ts (groups n))
    first = fewest_is n ts le

    by : (v : Bool) → AllByRecursion (IsHoused n) (map fresh_place (fresh n ts newer)) → AllByRecursion (IsHoused n) (map fresh_place (fresh n (ts ++ at_rest d.name (fewest ts (groups n)) ∷ []) newer)) → AllByRecursion (IsHoused n) (map fresh_place (cond v (fresh n ts newer) ((record { pred = d.name; group = fewest ts (groups n) }) ∷ fresh n (ts ++ at_rest d.name (fewest ts (groups n)) ∷ []) newer)))
    by true old new = old
    by false old new = (record { at = first; to = first }, new)

housed_on : (n : ℕ) (pred : List ℕ) (f : Place → Place) → ((t : Place) → IsHoused n t → IsHoused n (f t)) → (ts : List Place) → AllByRecursion (IsHoused n) ts → AllByRecursion (IsHoused n) (on_place pred f ts)
housed_on n pred f k [] a = tt
housed_on n pred f k (t ∷ ts) a = (by (is_place_of pred t), housed_on n pred f k ts a.1)
  where
    by : (v : Bool) → IsHoused n (cond v (f t) t)
    by true = k t a.0
    by false = a.0

housed_after : (n : ℕ) (g : List Entry) (author : ℕ) (event : Event) → 1 ≤ n → Fits n g author event → AllByRecursion (IsHoused n) (tablets g) → AllByRecursion (IsHoused n) (places_after (places g) event).tablets
housed_after n g author (Alter start newer written) le f a =
    all_joined (IsHoused n) (tablets g) (map fresh_place written.fresh) a
    (subst (λ (ts : List Tablet). AllByRecursion (IsHoused n) (map fresh_place ts)) (sym f.1.fresh_are) (fresh_are_housed n (tablets g) newer le))
housed_after n g author (MoveStart pred group) le f a =
    housed_on n pred (in_phase Started group) (λ t h. record { at = h.at; to = record { least = f.1.least; most = f.1.most } }) (tablets g) a
housed_after n g author (MoveCopied pred) le f a = housed_on n pred (λ t. in_phase Copied t.to t) (λ t h. record { at = h.at; to = h.to }) (tablets g) a
housed_after n g author (MoveHold pred) le f a = housed_on n pred (λ t. in_phase Held t.to t) (λ t h. record { at = h.at; to = h.to }) (tablets g) a
housed_after n g author (Flip pred until) le f a = housed_on n pred (λ t. at_rest t.pred t.to) (λ t h. record { at = h.to; to = h.to }) (tablets g) a
housed_after n g author (MoveOff pred) le f a = housed_on n pred (λ t. at_rest t.pred t.group) (λ t h. record { at = h.at; to = h.at }) (tablets g) a
housed_after n g author (Rolled pred group upto) le f a = a
housed_after n g author (Line line) le f a = a
housed_after n g author event le f a = a

are_housed : (n : ℕ) (h : List Entry) → 1 ≤ n → IsLegal n h → AllByRecursion (IsHoused n) (tablets h)
are_housed n h le l = kept_from n (λ a. Unit {0}) (λ g. AllByRecursion (IsHoused n) (tablets g)) step [] h tt l (anyone h) tt
  where
    step : (g : List Entry) (e : Entry) → Unit {0} → IsLegal n g → Fits n g e.author e.event → AllByRecursion (IsHoused n) (tablets g) → AllByRecursion (IsHoused n) (tablets (g ++ e ∷ []))
    step g e o k f a = subst (λ (s : Places). AllByRecursion (IsHoused n) s.tablets) (sym (places_push g e)) (housed_after n g e.author e.event le f a)

-- ---- each tablet was brought by a record

abbrev WasBrought : List Entry → List ℕ → Type 0
WasBrought h pred = list_any (λ (r : Record). has_tablet pred r.fresh) (records h) ≡ true

later : (a b : Bool) → b ≡ true → (a || b) ≡ true
later true b e = refl
later false b e = e

fresh_any : (pred : List ℕ) (ts : List Tablet) → list_any (is_place_of pred) (map fresh_place ts) ≡ has_tablet pred ts
fresh_any pred [] = refl
fresh_any pred (t ∷ ts) = ap (λ (b : Bool). same_text t.pred pred || b) (fresh_any pred ts)

brought_after : (n : ℕ) (g : List Entry) (event : Event) (pred : List ℕ) → (list_any (is_place_of pred) (tablets g) ≡ true → WasBrought g pred) → list_any (is_place_of pred) (places_after (places g) event).tablets ≡ true → list_any (λ (r : Record). has_tablet pred r.fresh) (records g ++ record_of event) ≡ true
brought_after n g event pred old e = any_joined (λ (r : Record). has_tablet pred r.fresh) (records g) (record_of event) ∙ by event e
  where
    was : List Record
    was = records g

    of_old : (rs : List Record) → list_any (is_place_of pred) (tablets g) ≡ true → (list_any (λ (r : Record). has_tablet pred r.fresh) was || list_any (λ (r : Record). has_tablet pred r.fresh) rs) ≡ true
    of_old rs k = or_true (list_any (λ (r : Record). has_tablet pred r.fresh) was) (list_any (λ (r : Record). has_tablet pred r.fresh) rs) (old k)

    by : (ev : Event) → list_any (is_place_of pred) (places_after (places g) ev).tablets ≡ true → (list_any (λ (r : Record). has_tablet pred r.fresh) was || list_any (λ (r : Record). has_tablet pred r.fresh) (record_of ev)) ≡ true
    by (Alter start newer written) k = split (list_any (is_place_of pred) (tablets g)) refl (sym (any_joined (is_place_of pred) (tablets g) (map fresh_place written.fresh)) ∙ k)
      where
        only : (b : Bool) → (b || false) ≡ b
        only true = refl
        only false = refl

        split : (v : Bool) → list_any (is_place_of pred) (tablets g) ≡ v → (v || list_any (is_place_of pred) (map fresh_place written.fresh)) ≡ true → (list_any (λ (r : Record). has_tablet pred r.fresh) was || (has_tablet pred written.fresh || false)) ≡ true
        split true q m = of_old (written ∷ []) q
        split false q m = later (list_any (λ (r : Record). has_tablet pred r.fresh) was) (has_tablet pred written.fresh || false) (only (has_tablet pred written.fresh) ∙ (sym (fresh_any pred written.fresh) ∙ m))
    by (MoveStart p group) k = of_old [] (sym (any_on pred p (in_phase Started group) (λ t. refl) (tablets g)) ∙ k)
    by (MoveCopied p) k = of_old [] (sym (any_on pred p (λ t. in_phase Copied t.to t) (λ t. refl) (tablets g)) ∙ k)
    by (MoveHold p) k = of_old [] (sym (any_on pred p (λ t. in_phase Held t.to t) (λ t. refl) (tablets g)) ∙ k)
    by (Flip p until) k = of_old [] (sym (any_on pred p (λ t. at_rest t.pred t.to) (λ t. refl) (tablets g)) ∙ k)
    by (MoveOff p) k = of_old [] (sym (any_on pred p (λ t. at_rest t.pred t.group) (λ t. refl) (tablets g)) ∙ k)
    by (Rolled p group upto) k = of_old [] k
    by (Line line) k = of_old [] k
    by ev k = of_old (record_of ev) k

were_brought : (n : ℕ) (h : List Entry) → IsLegal n h → (pred : List ℕ) → list_any (is_place_of pred) (tablets h) ≡ true → WasBrought h pred
were_brought n h l = kept_from n (λ a. Unit {0}) (λ g. (pred : List ℕ) → list_any (is_place_of pred) (tablets g) ≡ true → WasBrought g pred) step [] h tt l (anyone h) (λ pred e. absurd (cc))
  where
    step : (g : List Entry) (e : Entry) → Unit {0} → IsLegal n g → Fits n g e.author e.event → ((pred : List ℕ) → list_any (is_place_of pred) (tablets g) ≡ true → WasBrought g pred) → (pred : List ℕ) → list_any (is_place_of pred) (tablets (g ++ e ∷ [])) ≡ true → WasBrought (g ++ e ∷ []) pred
    step g e o k f old pred there =
        ap (list_any (λ (r : Record). has_tablet pred r.fresh)) (records_push g e)
        ∙ brought_after n g e.event pred (old pred) (sym (ap (λ (s : Places). list_any (is_place_of pred) s.tablets) (places_push g e)) ∙ there)

-- so a group that applied every record has been given it
abbrev AllBrought : ℕ → List ℕ → List Record → Type 0
AllBrought last pred rs = find (λ (r : Record). nat_lt last r.ts) rs ≡ None → list_any (λ (r : Record). has_tablet pred r.fresh) rs ≡ true → list_any (λ (r : Record). nat_le r.ts last && has_tablet pred r.fresh) rs ≡ true

all_brought : (last : ℕ) (pred : List ℕ) (rs : List Record) → find (λ (r : Record). nat_lt last r.ts) rs ≡ None → list_any (λ (r : Record). has_tablet pred r.fresh) rs ≡ true → list_any (λ (r : Record). nat_le r.ts last && has_tablet pred r.fresh) rs ≡ true
all_brought last pred [] e k = absurd (cc)
all_brought last pred (r ∷ rs) e k = by (nat_lt last r.ts) refl e (λ n m. all_brought last pred rs n m)
  where
    low : nat_lt last r.ts ≡ false → nat_le r.ts last ≡ true
    low q = grind (arith, common_steps)

    split : (v : Bool) → (v || list_any (λ (r : Record). has_tablet pred r.fresh) rs) ≡ true → find (λ (r : Record). nat_lt last r.ts) rs ≡ None → AllBrought last pred rs → (v || list_any (λ (r : Record). nat_le r.ts last && has_tablet pred r.fresh) rs) ≡ true
    split true m n rest = refl
    split false m n rest = rest n m

    by : (v : Bool) → nat_lt last r.ts ≡ v → cond v (Some r) (find (λ (r : Record). nat_lt last r.ts) rs) ≡ None → AllBrought last pred rs → ((nat_le r.ts last && has_tablet pred r.fresh) || list_any (λ (r : Record). nat_le r.ts last && has_tablet pred r.fresh) rs) ≡ true
    by true q m rest = absurd (cc)
    by false q m rest = (λ i. (low q i && has_tablet pred r.fresh) || list_any (λ (r : Record). nat_le r.ts last && has_tablet pred r.fresh) rs) ∙ split (has_tablet pred r.fresh) k m rest

-- ---- owners

tablet_order : IsOrder tablet_cmp
tablet_order = then_order (λ (t : Tablet). t.pred) (λ t. t.group) text_cmp nat_cmp text_order nat_order (λ x y e f. λ i. record { pred = e i; group = f i })

-- what holds of the tablets holds of the owners
of_tablets : (P : Tablet → Type 0) (ts : List Place) → AllByRecursion (λ (t : Place). P (tablet_of t)) ts → AllByRecursion P (map tablet_of ts)
of_tablets P [] a = tt
of_tablets P (t ∷ ts) a = (a.0, of_tablets P ts a.1)

all_owners : (P : Tablet → Type 0) (ts : List Place) → AllByRecursion (λ (t : Place). P (tablet_of t)) ts → AllByRecursion P (ascending tablet_cmp (map tablet_of ts))
all_owners P ts a =
    from_each tablet_cmp tablet_order P (ascending tablet_cmp (map tablet_of ts))
    (λ t h. at tablet_cmp tablet_order P (map tablet_of ts) t (of_tablets P ts a) (sym (has_more tablet_cmp tablet_order [] (map tablet_of ts) t) ∙ h))

-- one that passes is among them
some_of : {G : Type 0} (f : Tablet → Bool) (ts : List Tablet) → ((t : Tablet) → f t ≡ true → has tablet_cmp ts t ≡ true → G) → list_any f ts ≡ true → G
some_of f [] g e = absurd (cc)
some_of {G = G} f (t ∷ ts) g e = by (f t) refl e (λ k. some_of f ts (λ u h i. g u h (later (is_eq (tablet_cmp t u)) (has tablet_cmp ts u) i)) k)
  where
    by : (v : Bool) → f t ≡ v → (v || list_any f ts) ≡ true → (list_any f ts ≡ true → G) → G
    by true q k rest = g t q (or_true (is_eq (tablet_cmp t t)) (has tablet_cmp ts t) (is_itself tablet_cmp tablet_order t))
    by false q k rest = rest k

same_bools : (a b : Bool) → (a ≡ true → b ≡ true) → (b ≡ true → a ≡ true) → a ≡ b
same_bools true b f g = sym (f refl)
same_bools false true f g = g refl
same_bools false false f g = refl

any_owner : (f : Tablet → Bool) (xs : List Tablet) → list_any f (ascending tablet_cmp xs) ≡ list_any f xs
any_owner f xs =
    same_bools (list_any f (ascending tablet_cmp xs)) (list_any f xs)
    (some_of f (ascending tablet_cmp xs) (λ t p h. any_at tablet_cmp tablet_order f xs t p (sym (has_more tablet_cmp tablet_order [] xs t) ∙ h)))
    (some_of f xs (λ t p h. any_at tablet_cmp tablet_order f (ascending tablet_cmp xs) t p (has_more tablet_cmp tablet_order [] xs t ∙ h)))

any_of_tablets : (pred : List ℕ) (ts : List Place) → list_any (λ (t : Tablet). same_text t.pred pred) (map tablet_of ts) ≡ list_any (is_place_of pred) ts
any_of_tablets pred [] = refl
any_of_tablets pred (t ∷ ts) = ap (λ (b : Bool). same_text t.pred pred || b) (any_of_tablets pred ts)

each_there : (ts : List Place) → AllByRecursion (λ (t : Place). list_any (is_place_of t.pred) ts ≡ true) ts
each_there [] = tt
each_there (t ∷ ts) = (
  or_true (same_text t.pred t.pred) (list_any (is_place_of t.pred) ts) (same_text-itself t.pred),
  all_with (λ (u : Place). list_any (is_place_of u.pred) ts ≡ true) (λ (u : Place). list_any (is_place_of u.pred) (t ∷ ts) ≡ true) ts (λ u e. later (same_text t.pred u.pred) (list_any (is_place_of u.pred) ts) e) (each_there ts),
)

all_three : (P Q R : Place → Type 0) (ts : List Place) → AllByRecursion P ts → AllByRecursion Q ts → AllByRecursion R ts → AllByRecursion (λ t. P t × (Q t × R t)) ts
all_three P Q R [] a b c = tt
all_three P Q R (t ∷ ts) a b c = ((a.0, (b.0, c.0)), all_three P Q R ts a.1 b.1 c.1)

-- ---- what was found has what all have

-- a number that a pin has is found
numbered : (gs : List Group) (number : ℕ) → list_any (λ k. k == number) (map (λ (g : Group). g.number) gs) ≡ true → pin_of gs number ≡ None → ⊥
numbered [] number e k = cc
numbered (g ∷ gs) number e k = by (g.number == number) e k (λ e k. numbered gs number e k)
  where
    by : (v : Bool) → (v || list_any (λ k. k == number) (map (λ (g : Group). g.number) gs)) ≡ true → cond v (Some g) (pin_of gs number) ≡ None → (list_any (λ k. k == number) (map (λ (g : Group). g.number) gs) ≡ true → pin_of gs number ≡ None → ⊥) → ⊥
    by true e k rest = cc
    by false e k rest = rest e k

-- ---- pins of groups that are up to date

-- the group's copies are merged, and its records applied, up to a timestamp at most
record IsLow (at : ℕ) (g : Group) : Type 0 where
  marks : AllByRecursion (λ (c : held.Copied). c.mark ≤ at) g.copies
  last : g.last ≤ at

module _ (n : ℕ) (h : List Entry) (at : ℕ) (gs : List Group) (le : 1 ≤ n) (l : IsLegal n h) (drawn : at < next h) (present : world_at h at ≡ world h) (low : AllByRecursion (IsLow at) gs) (a : AreCurrent n h gs) where
  abbrev graph : List Triple
  graph = graph_at h at []

  listed_same : (key : Key) → listing (schema_at h at) graph key ≡ listing (schema h) graph key
  listed_same key = λ i. listing (present i).schema graph key

  abbrev IsPinned : Tablet → Type 0
  IsPinned t = IsSomeAnd (pinned_copy gs t) (IsCopyOf at (schema h) graph t.pred)

  stands_at : (c : Option held.Copied) (d : Option Copy) → IsSomeAnd d (λ c. c.until ≡ None) → option_map standing_of c ≡ option_map standing_in d → IsSomeAnd c (λ copy. copy.until ≡ None)
  stands_at None None s e = absurd (s)
  stands_at None (Some d) s e = absurd (cc)
  stands_at (Some c) None s e = absurd (s)
  stands_at (Some c) (Some d) s e = let same : standing_of c ≡ standing_in d = cc in ap (λ (s : Standing). s.until) same ∙ s

  of_copy : (pin : Group) (pred : List ℕ) (c : Option held.Copied) → copy_of pin.copies pred ≡ c → IsInStep pin h → IsLow at pin → next_record h pin.last ≡ None → IsSomeAnd c (λ copy. copy.until ≡ None) → IsSomeAnd c (IsCopyOf at (schema h) graph pred)
  of_copy pin pred None q step below none s = absurd (s)
  of_copy pin pred (Some copy) q step below none s =
      let stands = found_at (CopyStands h pin.last) (is_copy_of pred) pin.copies copy q step.stands.each in
      let mark : copy.mark ≤ at = found_at (λ (c : held.Copied). c.mark ≤ at) (is_copy_of pred) pin.copies copy q below.marks in
      let named : copy.pred ≡ pred = same_text-equal copy.pred pred (found_is (is_copy_of pred) pin.copies copy q) in
      let readable = all_applied_is_readable n h pin copy at l none s mark drawn below.last in
      record {
        pred_is = named;
        bases = all_with (λ e. IsLaid copy.mark pin.last e.1) (λ e. e.1.base_ts ≤ at) copy.store (λ e i. omega (arith, i.base, mark)) stands.kept.laid;
        lists = λ key own. stands.listed at readable key (ap (same_text (pred_of key)) named ∙ own) ∙ listed_same key;
      }

  pinned : (t : Place) → IsHoused n t → HasCopy (copies h) t.pred t.group → list_any (is_place_of t.pred) (tablets h) ≡ true → IsPinned (tablet_of t)
  pinned t house owns there = by (pin_of gs t.group) refl
    where
      numbers : list_any (λ k. k == t.group) (map (λ (g : Group). g.number) gs) ≡ true
      numbers = ap (list_any (λ k. k == t.group)) a.numbers ∙ number_in n t.group house.at

      brought : (last : ℕ) → next_record h last ≡ None → is_brought h last t.pred ≡ true
      brought last none = all_brought last t.pred (records h) none (were_brought n h l t.pred there)

      by : (o : Option Group) → pin_of gs t.group ≡ o → IsSomeAnd (option_and_then (λ (pin : Group). copy_of pin.copies t.pred) o) (IsCopyOf at (schema h) graph t.pred)
      by None q = absurd (numbered gs t.group numbers q)
      by (Some pin) q =
          let same : pin.number ≡ t.group = number_is pin (found_is (λ (g : Group). g.number == t.group) gs pin q) in
          let step : IsInStep pin h = found_at (λ (g : Group). IsInStep g h) (λ (g : Group). g.number == t.group) gs pin q a.in_step in
          let below : IsLow at pin = found_at (IsLow at) (λ (g : Group). g.number == t.group) gs pin q low in
          let none : next_record h pin.last ≡ None = found_at (λ (g : Group). next_record h g.last ≡ None) (λ (g : Group). g.number == t.group) gs pin q a.applied in
          let at_group : option_map standing_of (copy_of pin.copies t.pred) ≡ option_map standing_in (copy_at (copies h) t.pred t.group) =
          step.stands.copies_are t.pred ∙ (λ i. if brought pin.last none i then option_map standing_in (copy_at (copies h) t.pred (same i)) else None) in
          of_copy pin t.pred (copy_of pin.copies t.pred) refl step below none (stands_at (copy_of pin.copies t.pred) (copy_at (copies h) t.pred t.group) owns at_group)
        where
          number_is : (pin : Group) → (pin.number == t.group) ≡ true → pin.number ≡ t.group
          number_is pin e = grind (arith, common_steps)

  pins_hold : ArePinsOf at (schema h) (owners h) gs graph
  pins_hold = record {
    lawful = subst (λ (w : World). IsLawful w.schema graph) present (graphs_are_lawful n h at l);
    named = λ pred. any_owner (λ t. same_text t.pred pred) (map tablet_of (tablets h)) ∙ (any_of_tablets pred (tablets h) ∙ (tablets_are_declared n h l).named pred);
    held = all_owners IsPinned (tablets h)
        (all_with (λ t. IsHoused n t × (HasCopy (copies h) t.pred t.group × (list_any (is_place_of t.pred) (tablets h) ≡ true))) (λ t. IsPinned (tablet_of t)) (tablets h) (λ t f. pinned t f.0 f.1.0 f.1.1)
        (all_three (IsHoused n) (λ t. HasCopy (copies h) t.pred t.group) (λ t. list_any (is_place_of t.pred) (tablets h) ≡ true) (tablets h) (are_housed n h le l) (owners_have_copies n h l) (each_there (tablets h))));
  }

-- a group that is in step is merged and has applied records below the next timestamp
low_at : (n : ℕ) (h : List Entry) (at : ℕ) (g : Group) → IsLegal n h → next h ≤ at + 1 → IsInStep g h → IsLow at g
low_at n h at g l top step = record {
  marks = all_with (λ (c : held.Copied). c.mark < next h) (λ (c : held.Copied). c.mark ≤ at) g.copies (λ c m. omega (arith, m, top)) step.drawn;
  last = let applied : g.last < next h = last_drawn n h g.last l step.stands.applied in omega (arith, applied, top);
}

-- at present
pub present_pins_hold : PresentPinsHold
present_pins_hold n h gs le l a =
    pins_hold n h (last h) gs le l (omega arith) (present_is_last n h (last h) l (omega arith))
    (all_with (λ g. IsInStep g h) (IsLow (last h)) gs (λ g step. low_at n h (last h) g l (omega arith) step) a.in_step) a

-- at a start that is drawn then
module _ (n : ℕ) (h : List Entry) (author : ℕ) (gs : List Group) (le : 1 ≤ n) (l : IsLegal n (h ++ begin_of author (next h) ∷ [])) (a : AreCurrent n h gs) where
  abbrev begun : List Entry
  begun = h ++ begin_of author (next h) ∷ []

  before : IsLegal n h
  before = (legal_last n [] h (begin_of author (next h)) l).0

  places_same : places begun ≡ places h
  places_same = places_push h (begin_of author (next h))

  records_same : records begun ≡ records h
  records_same = records_push h (begin_of author (next h)) ∙ append-nil (records h)

  next_more : next begun ≡ next h + 1
  next_more = next_push h (begin_of author (next h))

  present_now : world_at begun (next h) ≡ world begun
  present_now = present_is_last n begun (next h) l (omega (arith, next_more))

  world_same : world begun ≡ world h
  world_same = world_push h (begin_of author (next h))

  graph_same : graph_at begun (next h) [] ≡ graph_at h (next h) []
  graph_same =
      let same : world_at begun (next h) ≡ world_at h (next h) = present_now ∙ (world_same ∙ sym (present_is_last n h (next h) before (omega arith))) in
      λ i. after_changes (same i).schema (same i).graph []

  current : AreCurrent n begun gs
  current = record {
    numbers = a.numbers;
    in_step = all_with (λ g. IsInStep g h) (λ g. IsInStep g begun) gs (λ g step. entries_keep_in_step n h (begin_of author (next h)) g l (ap (λ (s : Places). s.copies) places_same) step) a.in_step;
    applied = all_with (λ (g : Group). next_record h g.last ≡ None) (λ (g : Group). next_record begun g.last ≡ None) gs (λ g none. ap (find (λ (r : Record). nat_lt g.last r.ts)) records_same ∙ none) a.applied;
  }

  begun_hold : ArePinsOf (next h) (schema h) (owners h) gs (graph_at h (next h) [])
  begun_hold =
      let there = pins_hold n begun (next h) gs le l (omega (arith, next_more)) present_now (all_with (λ g. IsInStep g h) (IsLow (next h)) gs (λ g step. low_at n h (next h) g before (omega arith) step) a.in_step) current in
      subst (λ (w : World). ArePinsOf (next h) w.schema (owners h) gs (graph_at h (next h) [])) world_same
      (subst (λ (s : Places). ArePinsOf (next h) (schema begun) (ascending tablet_cmp (map tablet_of s.tablets)) gs (graph_at h (next h) [])) places_same
      (subst (ArePinsOf (next h) (schema begun) (owners begun) gs) graph_same there))

pub begun_pins_hold : BegunPinsHold
begun_pins_hold n h author gs le l a = begun_hold n h author gs le l a
