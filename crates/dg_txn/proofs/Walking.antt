-- How the keys of a span are gone through, each by the least above the one before.
use Rattle.std.proofs.Common.{◌≡◌, ◌<◌, ◌≤◌, ◌∙◌, sym, ap, refl, arith, ℕ, Bool, true, false, cond, List, [], ◌∷◌, ◌++◌, Option, Some, None, length}
use Rattle.std.specs.Prelude.{◌||◌, IfSome, find, filter}
use Rattle.std.specs.declared.cmp.Ordering.{Ordering}
use Rattle.std.specs.declared.cmp.Ordering.TheVariants.{Less, Equal, Greater}
use Rattle.std.specs.Ordering.{nat_cmp, ordering_reverse, is_eq, is_le, is_lt, is_gt}
use Rattle.dg_values.specs.Ascending.{Ascends, has}
use Rattle.dg_values.specs.declared.value.Posting.{Posting}
use Rattle.dg_sets.proofs.MadeOrders.{nat_order}
use Rattle.dg_sets.proofs.Sets.{is_one, is_itself, has_joined, above}
use Rattle.dg_keys.specs.declared.key.Key.{Key}
use Rattle.dg_keys.specs.declared.key.Key.TheVariants.{Data, Index, Reverse, Count, RCount}
use Rattle.dg_keys.specs.Keys.{key_cmp}
use Rattle.dg_keys.specs.KeyOrder.{key_order}
use Rattle.dg_txn.specs.declared.span.Span.{Span}
use Rattle.dg_txn.specs.Spans.{place, IsStart}
use Rattle.dg_txn.specs.Walks.{shown, shown_at, reaches, IsLeast, NoneElse, Shows, AreShown}
use Rattle.dg_txn.proofs.SpanLaws.{place_past}

-- ---- the least key

pub key_same : (a b : Key) → is_eq (key_cmp a b) ≡ true → a ≡ b
key_same a b e = is_one key_cmp key_order a b e

key_itself : (a : Key) → is_le (key_cmp a a) ≡ true
key_itself a = ap is_le (key_order.itself a)

-- the first that passes, of keys that ascend
pub least_found : (passes : Key → Bool) (keys : List Key) → Ascends key_cmp keys → IsLeast passes keys (find passes keys)
least_found passes [] a = record { passes_too = tt; one = tt; least = λ key p h. absurd (cc) }
least_found passes (x ∷ keys) a = by (passes x) refl (least_found passes keys a.1)
  where
    more : (o : Option Key) → IfSome o (λ key. has key_cmp keys key ≡ true) → IfSome o (λ key. has key_cmp (x ∷ keys) key ≡ true)
    more None h = tt
    more (Some key) h = either (is_eq (key_cmp x key)) h
      where
        either : (v : Bool) → has key_cmp keys key ≡ true → (v || has key_cmp keys key) ≡ true
        either true e = refl
        either false e = e

    of_rest : passes x ≡ false → IsLeast passes keys (find passes keys) → (key : Key) → passes key ≡ true → (v : Bool) → is_eq (key_cmp x key) ≡ v → (v || has key_cmp keys key) ≡ true → reaches (find passes keys) key ≡ true
    of_rest q rest key p true e h = let is : passes x ≡ true = ap passes (key_same x key e) ∙ p in absurd (cc)
    of_rest q rest key p false e h = rest.least key p h

    of_first : (key : Key) → (v : Bool) → is_eq (key_cmp x key) ≡ v → (v || has key_cmp keys key) ≡ true → is_le (key_cmp x key) ≡ true
    of_first key true e h = ap (λ k. is_le (key_cmp x k)) (sym (key_same x key e)) ∙ key_itself x
    of_first key false e h = ap is_le (above key_cmp key_order x key keys a.0 h)

    by : (v : Bool) → passes x ≡ v → IsLeast passes keys (find passes keys) → IsLeast passes (x ∷ keys) (cond v (Some x) (find passes keys))
    by true q rest = record {
      passes_too = q;
      one = ap (λ (b : Bool). b || has key_cmp keys x) (is_itself key_cmp key_order x);
      least = λ key p h. of_first key (is_eq (key_cmp x key)) refl h;
    }
    by false q rest = record {
      passes_too = rest.passes_too;
      one = more (find passes keys) rest.one;
      least = λ key p h. of_rest q rest key p (is_eq (key_cmp x key)) refl h;
    }

pub or_left : (a b : Bool) → a ≡ true → (a || b) ≡ true
or_left true b e = refl
or_left false b e = absurd (cc)

pub or_right : (a b : Bool) → b ≡ true → (a || b) ≡ true
or_right true b e = refl
or_right false b e = e

pub from_or : {G : Type 0} (a b : Bool) → (a || b) ≡ true → (a ≡ true → G) → (b ≡ true → G) → G
from_or true b e f g = f refl
from_or false b e f g = g e

le_then : (a b c : Key) → is_le (key_cmp a b) ≡ true → is_le (key_cmp b c) ≡ true → is_le (key_cmp a c) ≡ true
le_then a b c = by (key_cmp a b) refl (key_cmp b c) refl
  where
    by : (o : Ordering) → key_cmp a b ≡ o → (p : Ordering) → key_cmp b c ≡ p → is_le o ≡ true → is_le p ≡ true → is_le (key_cmp a c) ≡ true
    by Less e Less f le lf = ap is_le (key_order.trans a b c e f)
    by Less e Equal f le lf = ap is_le (ap (key_cmp a) (sym (key_order.same b c f)) ∙ e)
    by Less e Greater f le lf = absurd (cc)
    by Equal e p f le lf = ap is_le (ap (λ k. key_cmp k c) (key_order.same a b e) ∙ f) ∙ lf
    by Greater e p f le lf = absurd (cc)

-- ---- on the way

pub nothing_shown : (key : Key) (list : List Posting) → list ≡ [] → shown key list ≡ []
nothing_shown key list e = ap (shown key) e ∙ of key
  where
    of : (key : Key) → shown key [] ≡ []
    of (Data p s) = refl
    of (Index p t) = refl
    of (Reverse p o) = refl
    of (Count p n) = refl
    of (RCount p n) = refl

-- what was found so far is shown by keys of the span, and what those below the next one show was found
pub record Walked (span : Span) (lists : Key → List Posting) (keys : List Key) (next : Option Key) (found : List ℕ) : Type 0 where
  pub else_none : NoneElse span lists keys
  pub one : IfSome next (λ key. has key_cmp keys key ≡ true)
  pub sound : (n : ℕ) → has nat_cmp found n ≡ true → Shows span lists n
  pub done : (key : Key) (n : ℕ) → place span key ≡ Equal → has nat_cmp (shown key (lists key)) n ≡ true → reaches next key ≡ false → has nat_cmp found n ≡ true

module _ (span : Span) (lists : Key → List Posting) (keys : List Key) where
  -- a key that shows a node stands among the keys
  stands : NoneElse span lists keys → (key : Key) (n : ℕ) → place span key ≡ Equal → has nat_cmp (shown key (lists key)) n ≡ true → has key_cmp keys key ≡ true
  stands else_none key n p h = by (has key_cmp keys key) refl
    where
      by : (v : Bool) → has key_cmp keys key ≡ v → v ≡ true
      by true e = refl
      by false e =
          let is : has nat_cmp (shown key (lists key)) n ≡ false = ap (λ (ns : List ℕ). has nat_cmp ns n) (nothing_shown key (lists key) (else_none key p e)) in
          absurd (cc)

  pub begun : (start : Key) (next : Option Key) → NoneElse span lists keys → IsStart span start → IsLeast (λ key. is_le (key_cmp start key)) keys next → Walked span lists keys next []
  begun start next else_none from l = record {
    else_none = else_none;
    one = l.one;
    sound = λ n h. absurd (cc);
    done = λ key n p h r. let is = l.least key (from key p) (stands else_none key n p h) in absurd (cc);
  }

  pub gone_on : (key : Key) (next : Option Key) (found : List ℕ) (c : Ordering) → place span key ≡ c → Walked span lists keys (Some key) found → IsLeast (λ other. is_lt (key_cmp key other)) keys next → Walked span lists keys next (found ++ shown_at c key (lists key))
  gone_on key next found c at w l = record {
    else_none = w.else_none;
    one = l.one;
    sound = λ n h. from_or (has nat_cmp found n) (has nat_cmp (shown_at c key (lists key)) n) (sym (has_joined nat_cmp nat_order found (shown_at c key (lists key)) n) ∙ h) (λ i. w.sound n i) (λ i. here c at n i);
    done = λ other n p h r. has_joined nat_cmp nat_order found (shown_at c key (lists key)) n ∙ by (key_cmp key other) other refl n p h r;
  }
    where
      here : (c : Ordering) → place span key ≡ c → (n : ℕ) → has nat_cmp (shown_at c key (lists key)) n ≡ true → Shows span lists n
      here Less e n h = absurd (cc)
      here Equal e n h = (key, e, h)
      here Greater e n h = absurd (cc)

      by : (o : Ordering) → (other : Key) → key_cmp key other ≡ o → (n : ℕ) → place span other ≡ Equal → has nat_cmp (shown other (lists other)) n ≡ true → reaches next other ≡ false → (has nat_cmp found n || has nat_cmp (shown_at c key (lists key)) n) ≡ true
      by o other f n p h r = of o f
        where
          of : (o : Ordering) → key_cmp key other ≡ o → (has nat_cmp found n || has nat_cmp (shown_at c key (lists key)) n) ≡ true
          of Less e = let is = l.least other (ap is_lt e) (stands w.else_none other n p h) in absurd (cc)
          of Equal e =
              let same : other ≡ key = sym (key_order.same key other e) in
              let is : Equal ≡ c = sym p ∙ (ap (place span) same ∙ at) in
              let here_too : has nat_cmp (shown_at c key (lists key)) n ≡ true = (λ i. has nat_cmp (shown_at (sym is i) key (lists key)) n) ∙ ((λ i. has nat_cmp (shown (sym same i) (lists (sym same i))) n) ∙ h) in
              or_right (has nat_cmp found n) (has nat_cmp (shown_at c key (lists key)) n) here_too
          of Greater e = or_left (has nat_cmp found n) (has nat_cmp (shown_at c key (lists key)) n) (w.done other n p h (ap is_le e))

  pub none_left : (found : List ℕ) → Walked span lists keys None found → AreShown span lists found
  none_left found w = record { sound = w.sound; all = λ key n p h. w.done key n p h refl }

  pub past : (key : Key) (found : List ℕ) → Walked span lists keys (Some key) found → place span key ≡ Greater → AreShown span lists found
  past key found w at = record { sound = w.sound; all = λ other n p h. by other n p h (key_cmp key other) refl }
    where
      by : (other : Key) (n : ℕ) → place span other ≡ Equal → has nat_cmp (shown other (lists other)) n ≡ true → (o : Ordering) → key_cmp key other ≡ o → has nat_cmp found n ≡ true
      by other n p h Less e = let is = place_past span key other at e in absurd (cc)
      by other n p h Equal e = let is : place span other ≡ Greater = ap (place span) (sym (key_order.same key other e)) ∙ at in absurd (cc)
      by other n p h Greater e = w.done other n p h (ap is_le e)

-- ---- how many are left

-- the keys from one on
abbrev pub left_from : List Key → Option Key → ℕ
left_from keys None = 0
left_from keys (Some key) = length (filter (λ other. is_le (key_cmp key other)) keys)

no_more : (keys : List Key) (a b : Key) → key_cmp a b ≡ Less → left_from keys (Some b) ≤ left_from keys (Some a)
no_more [] a b l = omega arith
no_more (x ∷ keys) a b l = by (is_le (key_cmp b x)) refl (is_le (key_cmp a x)) refl (no_more keys a b l)
  where
    by : (v : Bool) → is_le (key_cmp b x) ≡ v → (w : Bool) → is_le (key_cmp a x) ≡ w → left_from keys (Some b) ≤ left_from keys (Some a)
        → length (cond v (x ∷ filter (λ other. is_le (key_cmp b other)) keys) (filter (λ other. is_le (key_cmp b other)) keys)) ≤ length (cond w (x ∷ filter (λ other. is_le (key_cmp a other)) keys) (filter (λ other. is_le (key_cmp a other)) keys))
    by true e true f rest = omega (arith, rest)
    by true e false f rest = let is = le_then a b x (ap is_le l) e in absurd (cc)
    by false e true f rest = omega (arith, rest)
    by false e false f rest = rest

some_more : (keys : List Key) (a b : Key) → key_cmp a b ≡ Less → has key_cmp keys a ≡ true → left_from keys (Some b) < left_from keys (Some a)
some_more [] a b l h = absurd (cc)
some_more (x ∷ keys) a b l h = by (is_eq (key_cmp x a)) refl h (λ k. some_more keys a b l k)
  where
    all : (v w : Bool) → left_from keys (Some b) < left_from keys (Some a) → is_le (key_cmp b x) ≡ v → is_le (key_cmp a x) ≡ w
        → length (cond v (x ∷ filter (λ other. is_le (key_cmp b other)) keys) (filter (λ other. is_le (key_cmp b other)) keys)) < length (cond w (x ∷ filter (λ other. is_le (key_cmp a other)) keys) (filter (λ other. is_le (key_cmp a other)) keys))
    all true true rest e f = omega (arith, rest)
    all true false rest e f = let is = le_then a b x (ap is_le l) e in absurd (cc)
    all false true rest e f = omega (arith, rest)
    all false false rest e f = rest

    first : (v w : Bool) → left_from keys (Some b) ≤ left_from keys (Some a) → v ≡ false → w ≡ true
        → length (cond v (x ∷ filter (λ other. is_le (key_cmp b other)) keys) (filter (λ other. is_le (key_cmp b other)) keys)) < length (cond w (x ∷ filter (λ other. is_le (key_cmp a other)) keys) (filter (λ other. is_le (key_cmp a other)) keys))
    first true w rest e f = absurd (cc)
    first false true rest e f = omega (arith, rest)
    first false false rest e f = absurd (cc)

    by : (v : Bool) → is_eq (key_cmp x a) ≡ v → (v || has key_cmp keys a) ≡ true → (has key_cmp keys a ≡ true → left_from keys (Some b) < left_from keys (Some a)) → left_from (x ∷ keys) (Some b) < left_from (x ∷ keys) (Some a)
    by true e k rest =
        let same : x ≡ a = key_same x a e in
        first (is_le (key_cmp b x)) (is_le (key_cmp a x)) (no_more keys a b l) (ap (λ y. is_le (key_cmp b y)) same ∙ ap is_le (key_order.antisymm b a ∙ ap ordering_reverse l)) (ap (λ y. is_le (key_cmp a y)) same ∙ key_itself a)
    by false e k rest = all (is_le (key_cmp b x)) (is_le (key_cmp a x)) (rest k) refl refl

some_left : (keys : List Key) (a : Key) → has key_cmp keys a ≡ true → 0 < left_from keys (Some a)
some_left [] a h = absurd (cc)
some_left (x ∷ keys) a h = by (is_eq (key_cmp x a)) refl h (λ k. some_left keys a k)
  where
    of : (w : Bool) → 0 < left_from keys (Some a) → 0 < length (cond w (x ∷ filter (λ other. is_le (key_cmp a other)) keys) (filter (λ other. is_le (key_cmp a other)) keys))
    of true rest = omega arith
    of false rest = rest

    first : (w : Bool) → w ≡ true → 0 < length (cond w (x ∷ filter (λ other. is_le (key_cmp a other)) keys) (filter (λ other. is_le (key_cmp a other)) keys))
    first true e = omega arith
    first false e = absurd (cc)

    by : (v : Bool) → is_eq (key_cmp x a) ≡ v → (v || has key_cmp keys a) ≡ true → (has key_cmp keys a ≡ true → 0 < left_from keys (Some a)) → 0 < left_from (x ∷ keys) (Some a)
    by true e k rest = first (is_le (key_cmp a x)) (ap (λ y. is_le (key_cmp a y)) (key_same x a e) ∙ key_itself a)
    by false e k rest = of (is_le (key_cmp a x)) (rest k)

pub from_gt : (o : Ordering) → is_gt o ≡ true → o ≡ Greater
from_gt Less e = absurd (cc)
from_gt Equal e = absurd (cc)
from_gt Greater e = refl

from_lt : (o : Ordering) → is_lt o ≡ true → o ≡ Less
from_lt Less e = refl
from_lt Equal e = absurd (cc)
from_lt Greater e = absurd (cc)

pub fewer_left : (keys : List Key) (key : Key) (next : Option Key) → has key_cmp keys key ≡ true → IsLeast (λ other. is_lt (key_cmp key other)) keys next → left_from keys next < left_from keys (Some key)
fewer_left keys key None h l = some_left keys key h
fewer_left keys key (Some other) h l = some_more keys key other (from_lt (key_cmp key other) l.passes_too) h
