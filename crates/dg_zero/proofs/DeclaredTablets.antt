-- The predicates that have tablets are those that are declared, so new tablets are of predicates that were declared at no
-- timestamp.
use Rattle.std.proofs.Common.{◌≡◌, ◌∙◌, sym, ap, subst, refl, ℕ, zero, suc, ◌<◌, length, get_or, take, arith, List, [], ◌∷◌, ◌++◌, Bool, true, false, cond, map, append_assoc}
use Rattle.std.specs.Prelude.{◌||◌, nat_le, Option, Some, None, is_some}
use Rattle.std.specs.List.{AllByRecursion, list_any}
use Rattle.std.proofs.lemmas.Bool.{both_ways}
use Rattle.std.proofs.lemmas.List.Folds.{list_any-append}
use Rattle.dg_values.specs.Order.{same_text}
use Rattle.dg_sets.proofs.Sets.{all_with}
use Rattle.dg_schema.specs.declared.definition.PredDef.{PredDef}
use Rattle.dg_schema.specs.Definitions.{AreDistinct, definition_of, is_declared, is_named, with_definition, with_definitions}
use Rattle.dg_schema.proofs.Joining.{definition_with}
use Rattle.dg_schema.proofs.Names.{same_text-equal, same_text-turned}
use Rattle.dg_keys.specs.declared.record.Tablet.{Tablet}
use Rattle.dg_zero.specs.declared.entry.Entry.{Entry}
use Rattle.dg_zero.specs.declared.entry.Event.{Event}
use Rattle.dg_zero.specs.declared.entry.Event.TheVariants.{Commit, Alter, MoveStart, MoveCopied, MoveHold, Flip, MoveOff, Rolled, Line}
use Rattle.dg_zero.specs.declared.tablets.Phase.TheVariants.{Started, Copied, Held}
use Rattle.dg_zero.specs.declared.tablets.Place.{Place}
use Rattle.dg_zero.specs.ExactLaws.{AltersAreExact}
use Rattle.dg_zero.specs.Worlds.{World, world, world_after, world_at, stamp, schema, schema_at}
use Rattle.dg_zero.specs.Places.{Places, places, places_after, tablets, is_place_of, on_place, in_phase, at_rest, fresh, fresh_place, fewest, groups}
use Rattle.dg_zero.specs.Legal.{Fits, IsLegal}
use Rattle.dg_zero.proofs.Histories.{places_push}
use Rattle.dg_zero.proofs.LawsOfHistories.{kept_from, anyone, world_push, world_at_push}

-- ---- new definitions

declared_one : (schema : List PredDef) (d : PredDef) (p : List ℕ) → is_declared (with_definition schema d) p ≡ (is_named p d || is_declared schema p)
declared_one schema d p = ap is_some (definition_with schema d p) ∙ by (same_text d.name p)
  where
    by : (v : Bool) → is_some (cond v (Some d) (definition_of schema p)) ≡ (v || is_declared schema p)
    by true = refl
    by false = refl

declared_more : (schema newer : List PredDef) (p : List ℕ) → is_declared (with_definitions schema newer) p ≡ (is_declared schema p || list_any (is_named p) newer)
declared_more schema [] p = none (is_declared schema p)
  where
    none : (b : Bool) → b ≡ (b || false)
    none true = refl
    none false = refl
declared_more schema (d ∷ newer) p = declared_more (with_definition schema d) newer p ∙ (ap (λ (b : Bool). b || list_any (is_named p) newer) (declared_one schema d p) ∙ moved (is_named p d) (is_declared schema p) (list_any (is_named p) newer))
  where
    moved : (a b c : Bool) → ((a || b) || c) ≡ (b || (a || c))
    moved true true c = refl
    moved true false c = refl
    moved false b c = refl

-- ---- new tablets

-- they are of the new definitions that had none
pub any_fresh : (n : ℕ) (ts : List Place) (newer : List PredDef) (p : List ℕ) → list_any (is_place_of p) (ts ++ map fresh_place (fresh n ts newer)) ≡ (list_any (is_place_of p) ts || list_any (is_named p) newer)
any_fresh n ts [] p = list_any-append (is_place_of p) ts []
any_fresh n ts (d ∷ newer) p = by (list_any (is_place_of d.name) ts) refl (any_fresh n ts newer p) (any_fresh n (ts ++ at_rest d.name (fewest ts (groups n)) ∷ []) newer p)
  where
    new : Place
    new = at_rest d.name (fewest ts (groups n))

    among : (a b : Bool) → (is_named p d ≡ true → a ≡ true) → (a || b) ≡ (a || (is_named p d || b))
    among true b f = refl
    among false b f = apart (is_named p d) f
      where
        apart : (v : Bool) → (v ≡ true → false ≡ true) → b ≡ (v || b)
        apart true g = let no : false ≡ true = g refl in absurd (cc)
        apart false g = refl

    joined : (a b c : Bool) → ((a || (b || false)) || c) ≡ (a || (b || c))
    joined true b c = refl
    joined false true c = refl
    joined false false c = refl

    by : (v : Bool) → list_any (is_place_of d.name) ts ≡ v
        → list_any (is_place_of p) (ts ++ map fresh_place (fresh n ts newer)) ≡ (list_any (is_place_of p) ts || list_any (is_named p) newer)
        → list_any (is_place_of p) ((ts ++ at_rest d.name (fewest ts (groups n)) ∷ []) ++ map fresh_place (fresh n (ts ++ at_rest d.name (fewest ts (groups n)) ∷ []) newer)) ≡ (list_any (is_place_of p) (ts ++ at_rest d.name (fewest ts (groups n)) ∷ []) || list_any (is_named p) newer)
        → list_any (is_place_of p) (ts ++ map fresh_place (cond v (fresh n ts newer) ((record { pred = d.name; group = fewest ts (groups n) }) ∷ fresh n (ts ++ at_rest d.name (fewest ts (groups n)) ∷ []) newer))) ≡ (list_any (is_place_of p) ts || (is_named p d || list_any (is_named p) newer))
    by true there old more =
        old ∙ among (list_any (is_place_of p) ts) (list_any (is_named p) newer) (λ named. ap (λ (q : List ℕ). list_any (is_place_of q) ts) (sym (same_text-equal d.name p named)) ∙ there)
    by false none old more =
        ap (list_any (is_place_of p)) (sym (append_assoc ts (at_rest d.name (fewest ts (groups n)) ∷ []) (map fresh_place (fresh n (ts ++ at_rest d.name (fewest ts (groups n)) ∷ []) newer))))
        ∙ (more
        ∙ (ap (λ (b : Bool). b || list_any (is_named p) newer) (list_any-append (is_place_of p) ts (at_rest d.name (fewest ts (groups n)) ∷ []))
        ∙ joined (list_any (is_place_of p) ts) (same_text d.name p) (list_any (is_named p) newer)))

-- and they are new
fresh_new : (n : ℕ) (ts : List Place) (newer : List PredDef) → AllByRecursion (λ (t : Tablet). list_any (is_place_of t.pred) ts ≡ false) (fresh n ts newer)
fresh_new n ts [] = tt
fresh_new n ts (d ∷ newer) = by (list_any (is_place_of d.name) ts) refl (fresh_new n ts newer) (fresh_new n (ts ++ at_rest d.name (fewest ts (groups n)) ∷ []) newer)
  where
    front : (a b : Bool) → (a || b) ≡ false → a ≡ false
    front true b e = absurd (cc)
    front false b e = refl

    by : (v : Bool) → list_any (is_place_of d.name) ts ≡ v → AllByRecursion (λ (t : Tablet). list_any (is_place_of t.pred) ts ≡ false) (fresh n ts newer) → AllByRecursion (λ (t : Tablet). list_any (is_place_of t.pred) (ts ++ at_rest d.name (fewest ts (groups n)) ∷ []) ≡ false) (fresh n (ts ++ at_rest d.name (fewest ts (groups n)) ∷ []) newer) → AllByRecursion (λ (t : Tablet). list_any (is_place_of t.pred) ts ≡ false) (cond v (fresh n ts newer) ((record { pred = d.name; group = fewest ts (groups n) }) ∷ fresh n (ts ++ at_rest d.name (fewest ts (groups n)) ∷ []) newer))
    by true q old new = old
    by false q old new =
        (q, all_with (λ (t : Tablet). list_any (is_place_of t.pred) (ts ++ at_rest d.name (fewest ts (groups n)) ∷ []) ≡ false) (λ (t : Tablet). list_any (is_place_of t.pred) ts ≡ false) (fresh n (ts ++ at_rest d.name (fewest ts (groups n)) ∷ []) newer) (λ t e. front (list_any (is_place_of t.pred) ts) (list_any (is_place_of t.pred) (at_rest d.name (fewest ts (groups n)) ∷ [])) (sym (list_any-append (is_place_of t.pred) ts (at_rest d.name (fewest ts (groups n)) ∷ [])) ∙ e)) new)

-- ---- an event leaves tablets, or brings more

pub any_on : (p pred : List ℕ) (f : Place → Place) → ((t : Place) → (f t).pred ≡ t.pred) → (ts : List Place) → list_any (is_place_of p) (on_place pred f ts) ≡ list_any (is_place_of p) ts
any_on p pred f k [] = refl
any_on p pred f k (t ∷ ts) = λ i. by (is_place_of pred t) i || any_on p pred f k ts i
  where
    by : (v : Bool) → is_place_of p (cond v (f t) t) ≡ is_place_of p t
    by true = ap (λ (n : List ℕ). same_text n p) (k t)
    by false = refl

-- the definitions that an event brings
abbrev newer_of : Event → List PredDef
newer_of (Alter start newer written) = newer
newer_of event = []

or_none : (b : Bool) → b ≡ (b || false)
or_none true = refl
or_none false = refl

pub any_after : (n : ℕ) (g : List Entry) (author : ℕ) (event : Event) (p : List ℕ) → Fits n g author event → list_any (is_place_of p) (places_after (places g) event).tablets ≡ (list_any (is_place_of p) (tablets g) || list_any (is_named p) (newer_of event))
any_after n g author (Alter start newer written) p f = (λ i. list_any (is_place_of p) (tablets g ++ map fresh_place (f.1.fresh_are i))) ∙ any_fresh n (tablets g) newer p
any_after n g author (MoveStart pred group) p f = any_on p pred (in_phase Started group) (λ t. refl) (tablets g) ∙ or_none (list_any (is_place_of p) (tablets g))
any_after n g author (MoveCopied pred) p f = any_on p pred (λ t. in_phase Copied t.to t) (λ t. refl) (tablets g) ∙ or_none (list_any (is_place_of p) (tablets g))
any_after n g author (MoveHold pred) p f = any_on p pred (λ t. in_phase Held t.to t) (λ t. refl) (tablets g) ∙ or_none (list_any (is_place_of p) (tablets g))
any_after n g author (Flip pred until) p f = any_on p pred (λ t. at_rest t.pred t.to) (λ t. refl) (tablets g) ∙ or_none (list_any (is_place_of p) (tablets g))
any_after n g author (MoveOff pred) p f = any_on p pred (λ t. at_rest t.pred t.group) (λ t. refl) (tablets g) ∙ or_none (list_any (is_place_of p) (tablets g))
any_after n g author (Rolled pred group upto) p f = or_none (list_any (is_place_of p) (tablets g))
any_after n g author (Line line) p f = or_none (list_any (is_place_of p) (tablets g))
any_after n g author event p f = or_none (list_any (is_place_of p) (tablets g))

declared_after : (w : World) (event : Event) (p : List ℕ) → is_declared (world_after w event).schema p ≡ (is_declared w.schema p || list_any (is_named p) (newer_of event))
declared_after w (Alter start newer written) p = declared_more w.schema newer p
declared_after w (Commit start preds keys asked written) p = or_none (is_declared w.schema p)
declared_after w event p = or_none (is_declared w.schema p)

-- ---- at present

abbrev AreOfSchema : List Entry → Type 0
AreOfSchema h = (p : List ℕ) → list_any (is_place_of p) (tablets h) ≡ is_declared (schema h) p

pub tablets_named : (n : ℕ) (h : List Entry) → IsLegal n h → AreOfSchema h
tablets_named n h l = kept_from n (λ a. Unit {0}) AreOfSchema step [] h tt l (anyone h) (λ p. refl)
  where
    step : (g : List Entry) (e : Entry) → Unit {0} → IsLegal n g → Fits n g e.author e.event → AreOfSchema g → AreOfSchema (g ++ e ∷ [])
    step g e o l f same p =
        ap (λ (s : Places). list_any (is_place_of p) s.tablets) (places_push g e)
        ∙ (any_after n g e.author e.event p f
        ∙ (ap (λ (b : Bool). b || list_any (is_named p) (newer_of e.event)) (same p)
        ∙ (sym (declared_after (world g) e.event p)
        ∙ ap (λ (w : World). is_declared w.schema p) (sym (world_push g e)))))

-- ---- at each timestamp

-- what was declared at a timestamp has a tablet
abbrev AreNamed : List Entry → Type 0
AreNamed h = (at : ℕ) (p : List ℕ) → is_declared (schema_at h at) p ≡ true → list_any (is_place_of p) (tablets h) ≡ true

named_after : (event : Event) (w : World) (p : List ℕ) (v there : Bool) → (is_declared w.schema p ≡ true → there ≡ true) → is_declared (cond v (world_after w event) w).schema p ≡ true → (there || list_any (is_named p) (newer_of event)) ≡ true
named_after event w p false there old e = front there (list_any (is_named p) (newer_of event)) (old e)
  where
    front : (a b : Bool) → a ≡ true → (a || b) ≡ true
    front true b q = refl
    front false b q = absurd (cc)
named_after event w p true there old e = by (is_declared w.schema p) there (list_any (is_named p) (newer_of event)) old (sym (declared_after w event p) ∙ e)
  where
    by : (a b c : Bool) → (a ≡ true → b ≡ true) → (a || c) ≡ true → (b || c) ≡ true
    by true true c f q = refl
    by true false c f q = let no : false ≡ true = f refl in absurd (cc)
    by false true c f q = refl
    by false false c f q = q

are_named : (n : ℕ) (h : List Entry) → IsLegal n h → AreNamed h
are_named n h l = kept_from n (λ a. Unit {0}) AreNamed step [] h tt l (anyone h) (λ at p e. absurd (cc))
  where
    step : (g : List Entry) (e : Entry) → Unit {0} → IsLegal n g → Fits n g e.author e.event → AreNamed g → AreNamed (g ++ e ∷ [])
    step g e o l f old at p d =
        ap (λ (s : Places). list_any (is_place_of p) s.tablets) (places_push g e)
        ∙ (any_after n g e.author e.event p f
        ∙ named_after e.event (world_at g at) p (nat_le (stamp e.event) at) (list_any (is_place_of p) (tablets g)) (old at p) ((λ i. is_declared (sym (world_at_push g e at) i).schema p) ∙ d))

nowhere : (n : ℕ) (h : List Entry) → IsLegal n h → (t : Tablet) → list_any (is_place_of t.pred) (tablets h) ≡ false → (at : ℕ) → definition_of (schema_at h at) t.pred ≡ None
nowhere n h l t e at = by (definition_of (schema_at h at) t.pred) (are_named n h l at t.pred)
  where
    by : (o : Option PredDef) → (is_some o ≡ true → list_any (is_place_of t.pred) (tablets h) ≡ true) → o ≡ None
    by None f = refl
    by (Some d) f = absurd (both_ways (list_any (is_place_of t.pred) (tablets h)) e (f refl))

pub alters_are_exact : AltersAreExact
alters_are_exact n h author start newer written l f =
    subst (λ (ts : List Tablet). AllByRecursion (λ t. (at : ℕ) → definition_of (schema_at h at) t.pred ≡ None) ts) (sym f.1.fresh_are)
    (all_with (λ t. list_any (is_place_of t.pred) (tablets h) ≡ false) (λ t. (at : ℕ) → definition_of (schema_at h at) t.pred ≡ None) (fresh n (tablets h) newer) (λ t e. nowhere n h l t e) (fresh_new n (tablets h) newer))

-- ---- while tablets are made

-- no definition before a place has the name of the one there
front_other : (newer : List PredDef) (i : ℕ) (d : PredDef) → AreDistinct newer → i < length newer → get_or newer i d ≡ d → list_any (is_named d.name) (take i newer) ≡ false
front_other [] i d a lt is = absurd (omega arith)
front_other (x ∷ newer) zero d a lt is = refl
front_other (x ∷ newer) (suc i) d a lt is = both (other newer i a.0 (omega arith) is) (front_other newer i d a.1 (omega arith) is)
  where
    other : (more : List PredDef) (j : ℕ) → AllByRecursion (λ y. is_named x.name y ≡ false) more → j < length more → get_or more j d ≡ d → is_named d.name x ≡ false
    other [] j a lt is = absurd (omega arith)
    other (y ∷ more) zero a lt is = same_text-turned x.name d.name ∙ subst (λ (z : PredDef). is_named x.name z ≡ false) is a.0
    other (y ∷ more) (suc j) a lt is = other more j a.1 (omega arith) is

    both : is_named d.name x ≡ false → list_any (is_named d.name) (take i newer) ≡ false → (is_named d.name x || list_any (is_named d.name) (take i newer)) ≡ false
    both p q = rw p q

-- behind the tablets of those before, a predicate has a tablet where it was declared before them
pub named_still : (n : ℕ) (places : List Place) (made : List Tablet) (newer : List PredDef) (i : ℕ) (d : PredDef) (declared : Bool) → AreDistinct newer → i < length newer → get_or newer i d ≡ d → made ≡ fresh n places (take i newer)
    → list_any (is_place_of d.name) places ≡ declared → list_any (is_place_of d.name) (places ++ map fresh_place made) ≡ declared
named_still n places made newer i d declared a lt is e known =
    ap (λ (ts : List Tablet). list_any (is_place_of d.name) (places ++ map fresh_place ts)) e
    ∙ (any_fresh n places (take i newer) d.name
    ∙ (ap (λ (b : Bool). list_any (is_place_of d.name) places || b) (front_other newer i d a lt is) ∙ (sym (or_none (list_any (is_place_of d.name) places)) ∙ known)))
