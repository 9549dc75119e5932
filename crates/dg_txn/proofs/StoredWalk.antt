-- What is shown by the entries of a store, of which the first above a key are gone through at a time.
use Rattle.std.proofs.Common.{◌≡◌, ◌<◌, ◌≤◌, ◌-◌, ◌∙◌, sym, ap, subst, refl, arith, ℕ, zero, suc, Bool, true, false, cond, List, [], ◌∷◌, ◌++◌, Option, Some, None, get_or, length, length-append, append_assoc}
use Rattle.std.specs.Prelude.{◌||◌, flat_map, is_some, slice_get, unwrap_or}
use Rattle.std.specs.List.{AllByRecursion}
use Rattle.std.specs.Arc.{arc_value}
use Rattle.std.specs.declared.sync.Arc.{Arc}
use Rattle.std.specs.declared.alloc.Global.{Global}
use Rattle.std.specs.declared.cmp.Ordering.{Ordering}
use Rattle.std.specs.declared.cmp.Ordering.TheVariants.{Less, Equal, Greater}
use Rattle.std.specs.Ordering.{nat_cmp, is_eq, is_le, is_lt}
use Rattle.dg_values.specs.Ascending.{has}
use Rattle.dg_values.specs.declared.value.Posting.{Posting}
use Rattle.dg_sets.proofs.MadeOrders.{nat_order}
use Rattle.dg_sets.proofs.Sets.{back, has_joined, all_passed, all_with}
use Rattle.dg_keys.specs.declared.key.Key.{Key}
use Rattle.dg_keys.specs.declared.record.Part.{Part}
use Rattle.dg_keys.specs.Keys.{key_cmp}
use Rattle.dg_keys.specs.KeyOrder.{key_order}
use Rattle.dg_list.specs.Lists.{Layered, reading}
use Rattle.dg_pages.specs.Entries.{IsMap, AreFirst, entry, entries_of, entries_above}
use Rattle.dg_store.specs.Stores.{Lists, list_under, no_list}
use Rattle.dg_txn.specs.declared.span.Span.{Span}
use Rattle.dg_txn.specs.Spans.{place, IsStart}
use Rattle.dg_txn.specs.Walks.{shown, is_changed, other_lists, changed_lists, entry_shows, entry_with, entries_from, HoldsAll, ReadsAs, Shows, AreShown}
use Rattle.dg_txn.proofs.SpanLaws.{place_past, in_span}
use Rattle.dg_txn.proofs.StandingKeys.{under_has}
use Rattle.dg_txn.proofs.Walking.{nothing_shown, from_or, or_left, or_right, key_same}

-- ---- the entries above the last of some

abbrev behind_first : Lists → Lists
behind_first [] = []
behind_first (y ∷ ys) = ys

all_last_one : {X : Type 0} (P : X → Type 0) (init rest : List X) (e : X) → AllByRecursion P (init ++ (e ∷ rest)) → P e
all_last_one P [] rest e a = a.0
all_last_one P (x ∷ init) rest e a = all_last_one P init rest e a.1

at_end : {X : Type 0} (run : List X) (i : ℕ) (e : X) → suc i ≡ length run → slice_get run i ≡ Some e → (init : List X) × (run ≡ init ++ (e ∷ []))
at_end [] i e l g = absurd (omega (arith, l))
at_end (x ∷ []) zero e l g = ([], ap (λ o. unwrap_or o x ∷ []) g)
at_end (x ∷ []) (suc i) e l g = absurd (omega (arith, l))
at_end (x ∷ y ∷ ys) zero e l g = absurd (omega (arith, l))
at_end (x ∷ y ∷ ys) (suc i) e l g = let more = at_end (y ∷ ys) i e (omega (arith, l)) g in (x ∷ more.0, ap (λ zs. x ∷ zs) more.1)

all_are_above : (k : Key) (es : Lists) → AllByRecursion (λ e. key_cmp k e.0 ≡ Less) es → entries_above key_cmp k es ≡ es
all_are_above k [] a = refl
all_are_above k (e ∷ es) a = ap (λ t. cond (is_lt t) (e ∷ entries_above key_cmp k es) (entries_above key_cmp k es)) a.0 ∙ ap (λ others. e ∷ others) (all_are_above k es a.1)

-- of entries above a key those above one of them are the ones behind it
above_next : (k : Key) (es init rest : Lists) (e : Key × Layered) → IsMap key_cmp es → entries_above key_cmp k es ≡ init ++ (e ∷ rest) → entries_above key_cmp e.0 es ≡ rest
above_next k [] [] rest e m is = absurd (cc)
above_next k [] (y ∷ init) rest e m is = absurd (cc)
above_next k (x ∷ es) init rest e m is = by (key_cmp k x.0) refl init is (λ front i. above_next k es front rest e m.1 i)
  where
    -- one that stands behind the first isn't below it
    not_it : (init : Lists) → entries_above key_cmp k es ≡ init ++ (e ∷ rest) → entries_above key_cmp e.0 es ≡ rest → entries_above key_cmp e.0 (x ∷ es) ≡ rest
    not_it init is more =
        let behind : key_cmp x.0 e.0 ≡ Less = all_last_one (λ y. key_cmp x.0 y.0 ≡ Less) init rest e (subst (AllByRecursion (λ y. key_cmp x.0 y.0 ≡ Less)) is (all_passed (λ y. key_cmp x.0 y.0 ≡ Less) (λ y. is_lt (key_cmp k y.0)) es m.0)) in
        ap (λ t. cond (is_lt t) (x ∷ entries_above key_cmp e.0 es) (entries_above key_cmp e.0 es)) (back key_cmp key_order x.0 e.0 behind) ∙ more

    first : key_cmp k x.0 ≡ Less → (init : Lists) → x ∷ entries_above key_cmp k es ≡ init ++ (e ∷ rest) → ((front : Lists) → entries_above key_cmp k es ≡ front ++ (e ∷ rest) → entries_above key_cmp e.0 es ≡ rest) → entries_above key_cmp e.0 (x ∷ es) ≡ rest
    first l [] is more =
        let one : x ≡ e = ap (λ (l : Lists). unwrap_or (slice_get l 0) x) is in
        let behind : entries_above key_cmp k es ≡ rest = ap behind_first is in
        ap (λ (y : Key × Layered). entries_above key_cmp y.0 (x ∷ es)) (sym one)
        ∙ (ap (λ t. cond (is_lt t) (x ∷ entries_above key_cmp x.0 es) (entries_above key_cmp x.0 es)) (key_order.itself x.0)
        ∙ (all_are_above x.0 es m.0 ∙ (sym (all_are_above k es (all_with (λ y. key_cmp x.0 y.0 ≡ Less) (λ y. key_cmp k y.0 ≡ Less) es (λ y b. key_order.trans k x.0 y.0 l b) m.0)) ∙ behind)))
    first l (y ∷ init) is more = not_it init (ap behind_first is) (more init (ap behind_first is))

    by : (o : Ordering) → key_cmp k x.0 ≡ o → (init : Lists) → cond (is_lt o) (x ∷ entries_above key_cmp k es) (entries_above key_cmp k es) ≡ init ++ (e ∷ rest) → ((front : Lists) → entries_above key_cmp k es ≡ front ++ (e ∷ rest) → entries_above key_cmp e.0 es ≡ rest) → entries_above key_cmp e.0 (x ∷ es) ≡ rest
    by Less l init is more = first l init is more
    by Equal l init is more = not_it init is (more init is)
    by Greater l init is more = not_it init is (more init is)

-- what is known of a run: the entries above its last are the others above
pub record IsRunOf (k : Key) (es run : Lists) (e : Key × Layered) (rest : Lists) : Type 0 where
  pub are : entries_above key_cmp k es ≡ run ++ rest
  pub next : entries_above key_cmp e.0 es ≡ rest
  pub above : AllByRecursion (λ y. key_cmp e.0 y.0 ≡ Less) rest
  pub fewer : length rest < length (entries_above key_cmp k es)

above_are_above : (k : Key) (es : Lists) → AllByRecursion (λ y. key_cmp k y.0 ≡ Less) (entries_above key_cmp k es)
above_are_above k [] = tt
above_are_above k (e ∷ es) = by (key_cmp k e.0) refl (above_are_above k es)
  where
    by : (o : Ordering) → key_cmp k e.0 ≡ o → AllByRecursion (λ y. key_cmp k y.0 ≡ Less) (entries_above key_cmp k es) → AllByRecursion (λ y. key_cmp k y.0 ≡ Less) (cond (is_lt o) (e ∷ entries_above key_cmp k es) (entries_above key_cmp k es))
    by Less l a = (l, a)
    by Equal l a = a
    by Greater l a = a

entries_joined : (ps qs : List (Arc Key Global × Arc Layered Global)) → entries_of (ps ++ qs) ≡ entries_of ps ++ entries_of qs
entries_joined [] qs = refl
entries_joined (p ∷ ps) qs = ap (λ es. entry p ∷ es) (entries_joined ps qs)

pub run_of : (k : Key) (es : Lists) (run : List (Arc Key Global × Arc Layered Global)) (p : Arc Key Global × Arc Layered Global) → IsMap key_cmp es → (first : AreFirst (entries_of run) (entries_above key_cmp k es)) → Some p ≡ slice_get run (length run - 1) → IsRunOf k es (entries_of run) (entry p) first.front.0
run_of k es [] p m first g = absurd (cc)
run_of k es (q ∷ run) p m first g =
    let rest = first.front.0 in
    let ends = at_end (q ∷ run) (length (q ∷ run) - 1) p (omega arith) (sym g) in
    let parted : entries_above key_cmp k es ≡ entries_of ends.0 ++ (entry p ∷ rest) = first.front.1 ∙ (ap (λ l. l ++ rest) (ap (λ ps. entries_of ps) ends.1 ∙ entries_joined ends.0 (p ∷ [])) ∙ append_assoc (entries_of ends.0) (entry p ∷ []) rest) in
    let next = above_next k es (entries_of ends.0) rest (entry p) m parted in
    record {
      are = first.front.1;
      next = next;
      above = subst (AllByRecursion (λ y. key_cmp (arc_value p.0) y.0 ≡ Less)) next (above_are_above (arc_value p.0) es);
      fewer = let long = ap (λ (l : Lists). length l) first.front.1 in omega (arith, long, length-append (entries_of (q ∷ run)) rest);
    }

-- ---- the bases of lists

pub based_at : (at : ℕ) (ps : List (Arc Key Global × Arc Layered Global)) (i : ℕ) (p : Arc Key Global × Arc Layered Global) → AllByRecursion (λ e. e.1.base_ts ≤ at) (entries_of ps) → i < length ps → p ≡ get_or ps i p → (arc_value p.1).base_ts ≤ at
based_at at [] i p a l is = absurd (omega (arith, l))
based_at at (q ∷ ps) zero p a l is = subst (λ (r : Arc Key Global × Arc Layered Global). (arc_value r.1).base_ts ≤ at) (sym is) a.0
based_at at (q ∷ ps) (suc i) p a l is = based_at at ps i p a.1 (omega (arith, l)) is

all_front : {X : Type 0} (P : X → Type 0) (xs ys : List X) → AllByRecursion P (xs ++ ys) → AllByRecursion P xs
all_front P [] ys a = tt
all_front P (x ∷ xs) ys a = (a.0, all_front P xs ys a.1)

pub run_based : (at : ℕ) (k : Key) (es run : Lists) → AllByRecursion (λ e. e.1.base_ts ≤ at) es → AreFirst run (entries_above key_cmp k es) → AllByRecursion (λ e. e.1.base_ts ≤ at) run
run_based at k es run a first = all_front (λ e. e.1.base_ts ≤ at) run first.front.0 (subst (AllByRecursion (λ e. e.1.base_ts ≤ at)) first.front.1 (all_passed (λ e. e.1.base_ts ≤ at) (λ e. is_lt (key_cmp k e.0)) es a))

-- ---- what entries show

pub append_none : {X : Type 0} (xs : List X) → xs ++ [] ≡ xs
append_none [] = refl
append_none (x ∷ xs) = ap (λ ys. x ∷ ys) (append_none xs)

pub flat_joined : {X : Type 0} (f : X → List ℕ) (xs ys : List X) → flat_map f (xs ++ ys) ≡ flat_map f xs ++ flat_map f ys
flat_joined f [] ys = refl
flat_joined f (x ∷ xs) ys = ap (λ l. f x ++ l) (flat_joined f xs ys) ∙ sym (append_assoc (f x) (flat_map f xs) (flat_map f ys))

module _ (span : Span) (at : ℕ) (parts : List Part) where
  abbrev f : Key × Layered → List ℕ
  f = entry_shows span at parts

  none_past : (es : Lists) → AllByRecursion (λ e. place span e.0 ≡ Greater) es → flat_map f es ≡ []
  none_past [] a = refl
  none_past (e ∷ es) a = ap (λ t. cond (is_eq t) (cond (is_changed parts e.0) [] (shown e.0 (reading e.1 at))) [] ++ flat_map f es) a.0 ∙ none_past es a.1

  -- on the way: what was found, and what those above the last one show
  abbrev pub IsOnWay : Lists → List ℕ → Key → Key → List ℕ → Type 0
  IsOnWay es before start after found = found ++ flat_map f (entries_above key_cmp after es) ≡ before ++ flat_map f (entries_above key_cmp start es)

  pub gone_on : (es : Lists) (before : List ℕ) (start after : Key) (found : List ℕ) (run : Lists) (e : Key × Layered) (rest : Lists) → IsRunOf after es run e rest → IsOnWay es before start after found → IsOnWay es before start e.0 (found ++ flat_map f run)
  gone_on es before start after found run e rest r w =
      ap (λ l. (found ++ flat_map f run) ++ flat_map f l) r.next
      ∙ (append_assoc found (flat_map f run) (flat_map f rest)
      ∙ (ap (λ l. found ++ l) (sym (flat_joined f run rest) ∙ ap (flat_map f) (sym r.are)) ∙ w))

  pub ended : (es : Lists) (before : List ℕ) (start after : Key) (found : List ℕ) → entries_above key_cmp after es ≡ [] → IsOnWay es before start after found → found ≡ before ++ flat_map f (entries_above key_cmp start es)
  ended es before start after found none w = sym (append_none found) ∙ (ap (λ l. found ++ flat_map f l) (sym none) ∙ w)

  pub past_it : (es : Lists) (before : List ℕ) (start after : Key) (found : List ℕ) (run : Lists) (e : Key × Layered) (rest : Lists) → IsRunOf after es run e rest → place span e.0 ≡ Greater → IsOnWay es before start after found → found ++ flat_map f run ≡ before ++ flat_map f (entries_above key_cmp start es)
  past_it es before start after found run e rest r p w =
      let none : flat_map f (entries_above key_cmp e.0 es) ≡ [] = ap (flat_map f) r.next ∙ none_past rest (all_with (λ y. key_cmp e.0 y.0 ≡ Less) (λ y. place span y.0 ≡ Greater) rest (λ y l. place_past span e.0 y.0 p l) r.above) in
      sym (append_none (found ++ flat_map f run))
      ∙ (ap (λ l. (found ++ flat_map f run) ++ l) (sym none) ∙ gone_on es before start after found run e rest r w)

-- ---- which nodes these are

flat_gives : {G : Type 0} (P : Key × Layered → Type 0) (g : Key × Layered → List ℕ) (es : Lists) (n : ℕ) → AllByRecursion P es → ((e : Key × Layered) → P e → has nat_cmp (g e) n ≡ true → G) → has nat_cmp (flat_map g es) n ≡ true → G
flat_gives P g [] n a k h = absurd (cc)
flat_gives P g (e ∷ es) n a k h = from_or (has nat_cmp (g e) n) (has nat_cmp (flat_map g es) n) (sym (has_joined nat_cmp nat_order (g e) (flat_map g es) n) ∙ h) (λ i. k e a.0 i) (λ i. flat_gives P g es n a.1 k i)

flat_takes : (g : Key × Layered → List ℕ) (es : Lists) (key : Key) (list : Layered) (n : ℕ) → list_under key es ≡ Some list → has nat_cmp (g (key, list)) n ≡ true → has nat_cmp (flat_map g es) n ≡ true
flat_takes g [] key list n u h = absurd (cc)
flat_takes g (e ∷ es) key list n u h = has_joined nat_cmp nat_order (g e) (flat_map g es) n ∙ by (is_eq (key_cmp key e.0)) refl u (λ i. flat_takes g es key list n i h)
  where
    by : (v : Bool) → is_eq (key_cmp key e.0) ≡ v → cond v (Some e.1) (list_under key es) ≡ Some list → (list_under key es ≡ Some list → has nat_cmp (flat_map g es) n ≡ true) → (has nat_cmp (g e) n || has nat_cmp (flat_map g es) n) ≡ true
    by true q i more =
        let one : key ≡ e.0 = key_same key e.0 q in
        let own : e.1 ≡ list = ap (λ (o : Option Layered). unwrap_or o list) i in
        or_left (has nat_cmp (g e) n) (has nat_cmp (flat_map g es) n) ((λ i. has nat_cmp (g (sym one i, own i)) n) ∙ h)
    by false q i more = or_right (has nat_cmp (g e) n) (has nat_cmp (flat_map g es) n) (more i)

above_under : (start key : Key) (es : Lists) → key_cmp start key ≡ Less → list_under key (entries_above key_cmp start es) ≡ list_under key es
above_under start key [] l = refl
above_under start key (e ∷ es) l = by (is_eq (key_cmp key e.0)) refl (above_under start key es l)
  where
    kept : (v : Bool) → list_under key (entries_above key_cmp start es) ≡ list_under key es → is_eq (key_cmp key e.0) ≡ false → list_under key (cond v (e ∷ entries_above key_cmp start es) (entries_above key_cmp start es)) ≡ list_under key (e ∷ es)
    kept true rest q = ap (λ o. cond (is_eq (key_cmp key e.0)) (Some e.1) o) rest
    kept false rest q = rest ∙ sym (ap (λ (b : Bool). cond b (Some e.1) (list_under key es)) q)

    by : (v : Bool) → is_eq (key_cmp key e.0) ≡ v → list_under key (entries_above key_cmp start es) ≡ list_under key es → list_under key (cond (is_lt (key_cmp start e.0)) (e ∷ entries_above key_cmp start es) (entries_above key_cmp start es)) ≡ list_under key (e ∷ es)
    by true q rest =
        let over : is_lt (key_cmp start e.0) ≡ true = ap (λ k. is_lt (key_cmp start k)) (sym (key_same key e.0 q)) ∙ ap is_lt l in
        ap (λ (b : Bool). list_under key (cond b (e ∷ entries_above key_cmp start es) (entries_above key_cmp start es))) over
        ∙ (ap (λ (b : Bool). cond b (Some e.1) (list_under key (entries_above key_cmp start es))) q ∙ sym (ap (λ (b : Bool). cond b (Some e.1) (list_under key es)) q))
    by false q rest = kept (is_lt (key_cmp start e.0)) rest q

from_takes : (g : Key × Layered → List ℕ) (es : Lists) (start key : Key) (list : Layered) (n : ℕ) → is_le (key_cmp start key) ≡ true → list_under key es ≡ Some list → has nat_cmp (g (key, list)) n ≡ true → has nat_cmp (flat_map g (entries_from start es)) n ≡ true
from_takes g es start key list n le u h =
    ap (λ (l : List ℕ). has nat_cmp l n) (flat_joined g (entry_with start (list_under start es)) (entries_above key_cmp start es))
    ∙ (has_joined nat_cmp nat_order (flat_map g (entry_with start (list_under start es))) (flat_map g (entries_above key_cmp start es)) n ∙ by (key_cmp start key) refl le)
  where
    first : List ℕ
    first = flat_map g (entry_with start (list_under start es))

    more : List ℕ
    more = flat_map g (entries_above key_cmp start es)

    by : (o : Ordering) → key_cmp start key ≡ o → is_le o ≡ true → (has nat_cmp first n || has nat_cmp more n) ≡ true
    by Less l e = or_right (has nat_cmp first n) (has nat_cmp more n) (flat_takes g (entries_above key_cmp start es) key list n (above_under start key es l ∙ u) h)
    by Equal l e =
        let one : start ≡ key = key_order.same start key l in
        let own : list_under start es ≡ Some list = ap (λ k. list_under k es) one ∙ u in
        or_left (has nat_cmp first n) (has nat_cmp more n)
        (ap (λ (o : Option Layered). has nat_cmp (flat_map g (entry_with start o)) n) own
        ∙ (has_joined nat_cmp nat_order (g (start, list)) [] n ∙ or_left (has nat_cmp (g (start, list)) n) false (ap (λ k. has nat_cmp (g (k, list)) n) one ∙ h)))
    by Greater l e = absurd (cc)

all_two : {X : Type 0} (P Q R : X → Type 0) (xs : List X) → ((x : X) → P x → Q x → R x) → AllByRecursion P xs → AllByRecursion Q xs → AllByRecursion R xs
all_two P Q R [] f a b = tt
all_two P Q R (x ∷ xs) f a b = (f x a.0 b.0, all_two P Q R xs f a.1 b.1)

-- each entry of a map has its own list
all_own : (es : Lists) → IsMap key_cmp es → AllByRecursion (λ e. list_under e.0 es ≡ Some e.1) es
all_own [] m = tt
all_own (x ∷ es) m = (
  ap (λ o. cond (is_eq o) (Some x.1) (list_under x.0 es)) (key_order.itself x.0),
  all_two (λ y. key_cmp x.0 y.0 ≡ Less) (λ e. list_under e.0 es ≡ Some e.1) (λ e. list_under e.0 (x ∷ es) ≡ Some e.1) es (λ e l u. ap (λ o. cond (is_eq o) (Some x.1) (list_under e.0 es)) (back key_cmp key_order x.0 e.0 l) ∙ u) m.0 (all_own es m.1),
)

all_joined : {X : Type 0} (P : X → Type 0) (xs ys : List X) → AllByRecursion P xs → AllByRecursion P ys → AllByRecursion P (xs ++ ys)
all_joined P [] ys a b = b
all_joined P (x ∷ xs) ys a b = (a.0, all_joined P xs ys a.1 b)

from_own : (start : Key) (es : Lists) → IsMap key_cmp es → AllByRecursion (λ e. list_under e.0 es ≡ Some e.1) (entries_from start es)
from_own start es m =
    all_joined (λ e. list_under e.0 es ≡ Some e.1) (entry_with start (list_under start es)) (entries_above key_cmp start es) (first (list_under start es) refl) (all_passed (λ e. list_under e.0 es ≡ Some e.1) (λ e. is_lt (key_cmp start e.0)) es (all_own es m))
  where
    first : (o : Option Layered) → list_under start es ≡ o → AllByRecursion (λ e. list_under e.0 es ≡ Some e.1) (entry_with start o)
    first None u = tt
    first (Some list) u = (u, tt)

no_node : (key : Key) (list : List Posting) (n : ℕ) → list ≡ [] → has nat_cmp (shown key list) n ≡ true → true ≡ false
no_node key list n e h = sym h ∙ ap (λ (ns : List ℕ). has nat_cmp ns n) (nothing_shown key list e)

module _ (span : Span) (at : ℕ) (parts : List Part) (lists : Key → List Posting) where
  pub none_stored : HoldsAll span.pred None lists → AreShown span (other_lists lists parts) []
  none_stored holds = record { sound = λ n h. absurd (cc); all = λ key n p h. by key n p (is_changed parts key) refl h }
    where
      by : (key : Key) (n : ℕ) → place span key ≡ Equal → (v : Bool) → is_changed parts key ≡ v → has nat_cmp (shown key (cond v [] (lists key))) n ≡ true → false ≡ true
      by key n p true c h = let bad = no_node key [] n refl h in absurd (cc)
      by key n p false c h = let bad = no_node key (lists key) n (holds key (in_span span key p).pred refl) h in absurd (cc)

  pub stored_shown : (start : Key) (es : Lists) → IsStart span start → IsMap key_cmp es → ReadsAs at span.pred lists es → HoldsAll span.pred (Some es) lists → AreShown span (other_lists lists parts) (flat_map (entry_shows span at parts) (entries_from start es))
  stored_shown start es starts m reads holds = record {
    sound = λ n h. flat_gives (λ e. list_under e.0 es ≡ Some e.1) (entry_shows span at parts) (entries_from start es) n (from_own start es m) (λ e u i. shows n e u (place span e.0) refl (is_changed parts e.0) refl i) h;
    all = λ key n p h. by key n p (is_changed parts key) refl h (list_under key es) refl;
  }
    where
      read_is : (key : Key) (list : Layered) → place span key ≡ Equal → list_under key es ≡ Some list → reading list at ≡ lists key
      read_is key list p u = ap (λ (o : Option Layered). reading (unwrap_or o no_list) at) (sym u) ∙ reads.read key (in_span span key p).pred

      shows : (n : ℕ) (e : Key × Layered) → list_under e.0 es ≡ Some e.1 → (o : Ordering) → place span e.0 ≡ o → (v : Bool) → is_changed parts e.0 ≡ v → has nat_cmp (cond (is_eq o) (cond v [] (shown e.0 (reading e.1 at))) []) n ≡ true → Shows span (other_lists lists parts) n
      shows n e u Less p v c h = absurd (cc)
      shows n e u Greater p v c h = absurd (cc)
      shows n e u Equal p true c h = absurd (cc)
      shows n e u Equal p false c h = (e.0, p, ((λ i. has nat_cmp (shown e.0 (cond (c i) [] (lists e.0))) n) ∙ (ap (λ (l : List Posting). has nat_cmp (shown e.0 l) n) (sym (read_is e.0 e.1 p u)) ∙ h)))

      by : (key : Key) (n : ℕ) → place span key ≡ Equal → (v : Bool) → is_changed parts key ≡ v → has nat_cmp (shown key (cond v [] (lists key))) n ≡ true → (o : Option Layered) → list_under key es ≡ o → has nat_cmp (flat_map (entry_shows span at parts) (entries_from start es)) n ≡ true
      by key n p true c h o u = let bad = no_node key [] n refl h in absurd (cc)
      by key n p false c h None u =
          let bad = no_node key (lists key) n (holds key (in_span span key p).pred (sym (under_has key es) ∙ ap is_some u)) h in
          absurd (cc)
      by key n p false c h (Some list) u =
          from_takes (entry_shows span at parts) es start key list n (starts key p) u
          ((λ i. has nat_cmp (cond (is_eq (p i)) (cond (c i) [] (shown key (reading list at))) []) n) ∙ (ap (λ (l : List Posting). has nat_cmp (shown key l) n) (read_is key list p u) ∙ h))

-- what keys with own changes show, and what the others do, is what all show
pub both_shown : (span : Span) (parts : List Part) (seen listed : Key → List Posting) (a b : List ℕ) → AreShown span (changed_lists seen parts) a → AreShown span (other_lists listed parts) b → ((key : Key) → is_changed parts key ≡ false → seen key ≡ listed key) → AreShown span seen (a ++ b)
both_shown span parts seen listed a b first second same = record {
  sound = λ n h. from_or (has nat_cmp a n) (has nat_cmp b n) (sym (has_joined nat_cmp nat_order a b n) ∙ h) (λ i. own n (first.sound n i)) (λ i. other n (second.sound n i));
  all = λ key n p h. has_joined nat_cmp nat_order a b n ∙ by key n p (is_changed parts key) refl h;
}
  where
    own_at : (n : ℕ) (key : Key) → place span key ≡ Equal → (v : Bool) → is_changed parts key ≡ v → has nat_cmp (shown key (cond v (seen key) [])) n ≡ true → Shows span seen n
    own_at n key p true c h = (key, p, h)
    own_at n key p false c h = let bad = no_node key [] n refl h in absurd (cc)

    own : (n : ℕ) → Shows span (changed_lists seen parts) n → Shows span seen n
    own n s = own_at n s.0 s.1 (is_changed parts s.0) refl s.2

    other_at : (n : ℕ) (key : Key) → place span key ≡ Equal → (v : Bool) → is_changed parts key ≡ v → has nat_cmp (shown key (cond v [] (listed key))) n ≡ true → Shows span seen n
    other_at n key p true c h = let bad = no_node key [] n refl h in absurd (cc)
    other_at n key p false c h = (key, p, (ap (λ (l : List Posting). has nat_cmp (shown key l) n) (same key c) ∙ h))

    other : (n : ℕ) → Shows span (other_lists listed parts) n → Shows span seen n
    other n s = other_at n s.0 s.1 (is_changed parts s.0) refl s.2

    by : (key : Key) (n : ℕ) → place span key ≡ Equal → (v : Bool) → is_changed parts key ≡ v → has nat_cmp (shown key (seen key)) n ≡ true → (has nat_cmp a n || has nat_cmp b n) ≡ true
    by key n p true c h = or_left (has nat_cmp a n) (has nat_cmp b n) (first.all key n p ((λ i. has nat_cmp (shown key (cond (c i) (seen key) [])) n) ∙ h))
    by key n p false c h = or_right (has nat_cmp a n) (has nat_cmp b n) (second.all key n p ((λ i. has nat_cmp (shown key (cond (c i) [] (listed key))) n) ∙ (ap (λ (l : List Posting). has nat_cmp (shown key l) n) (sym (same key c)) ∙ h)))
