-- How the lists of a predicate's subjects are gone through in a store, each by the next key.
use Rattle.std.proofs.Common.{◌≡◌, ◌<◌, ◌∙◌, sym, ap, subst, refl, arith, ℕ, zero, suc, Bool, true, false, cond, List, [], ◌∷◌, ◌++◌, length, Option, Some, None}
use Rattle.std.specs.Prelude.{◌||◌, ◌&&◌, nat_lt, find}
use Rattle.std.specs.List.{AllByRecursion, list_any}
use Rattle.std.specs.Cmp.{nat_cmp_is}
use Rattle.std.specs.declared.cmp.Ordering.{Ordering}
use Rattle.std.specs.declared.cmp.Ordering.TheVariants.{Less, Equal, Greater}
use Rattle.std.specs.Ordering.{is_eq, is_le, is_lt, nat_cmp, ordering_then, ordering_reverse}
use Rattle.dg_values.specs.Order.{same_text, text_cmp}
use Rattle.dg_sets.proofs.MadeOrders.{text_order}
use Rattle.dg_sets.proofs.Sets.{is_itself}
use Rattle.dg_schema.proofs.Names.{same_text-equal, same_text-itself}
use Rattle.dg_keys.specs.declared.key.Key.{Key}
use Rattle.dg_keys.specs.declared.key.Key.TheVariants.{Data, Index, Reverse, Count, RCount}
use Rattle.dg_keys.specs.Keys.{key_cmp, field_cmp, kind_rank, pred_of}
use Rattle.dg_keys.specs.KeyOrder.{key_order}
use Rattle.dg_list.specs.Lists.{Layered, reading}
use Rattle.dg_pages.specs.Entries.{IsMap, entry_from, entry_above}
use Rattle.dg_store.specs.Stores.{Lists}
use Rattle.dg_group.proofs.Entries.{any_joined}
use Rattle.dg_txn.specs.Existing.{is_data_of, lists_some}

abbrev Entry : Type 0
Entry = Key × Layered

-- ---- what is found first

abbrev first_of : Lists → Option Entry
first_of [] = None
first_of (e ∷ es) = Some e

-- the first of these passes, where there is one
abbrev FirstPasses : (Entry → Bool) → Lists → Type 0
FirstPasses f [] = Unit {0}
FirstPasses f (e ∷ es) = f e ≡ true

record Split (f : Entry → Bool) (es : Lists) : Type 0 where
  pre : Lists
  post : Lists
  is : pre ++ post ≡ es
  found : find f es ≡ first_of post
  passes : FirstPasses f post
  before : AllByRecursion (λ e. f e ≡ false) pre

split_at_found : (f : Entry → Bool) (es : Lists) → Split f es
split_at_found f [] = record { pre = []; post = []; is = refl; found = refl; passes = tt; before = tt }
split_at_found f (e ∷ es) = by (f e) refl (split_at_found f es)
  where
    by : (v : Bool) → f e ≡ v → Split f es → Split f (e ∷ es)
    by true q s = record { pre = []; post = e ∷ es; is = refl; found = ap (λ (b : Bool). cond b (Some e) (find f es)) q; passes = q; before = tt }
    by false q s = record {
      pre = e ∷ s.pre;
      post = s.post;
      is = ap (λ (rest : Lists). e ∷ rest) s.is;
      found = ap (λ (b : Bool). cond b (Some e) (find f es)) q ∙ s.found;
      passes = s.passes;
      before = (q, s.before);
    }

passed_over : (f : Entry → Bool) (pre post : Lists) → AllByRecursion (λ e. f e ≡ false) pre → find f (pre ++ post) ≡ find f post
passed_over f [] post a = refl
passed_over f (e ∷ pre) post a = ap (λ (b : Bool). cond b (Some e) (find f (pre ++ post))) a.0 ∙ passed_over f pre post a.1

first_found : (f : Entry → Bool) (post : Lists) → AllByRecursion (λ e. f e ≡ true) post → find f post ≡ first_of post
first_found f [] a = refl
first_found f (e ∷ post) a = ap (λ (b : Bool). cond b (Some e) (find f post)) a.0

append_one : (pre : Lists) (e : Entry) (post : Lists) → (pre ++ e ∷ []) ++ post ≡ pre ++ e ∷ post
append_one [] e post = refl
append_one (x ∷ pre) e post = ap (λ (rest : Lists). x ∷ rest) (append_one pre e post)

-- ---- keys that ascend

turned : (a b : Key) → key_cmp a b ≡ Less → key_cmp b a ≡ Greater
turned a b e = key_order.antisymm b a ∙ ap ordering_reverse e

all_below : (pre : Lists) (e : Entry) (post : Lists) → IsMap key_cmp (pre ++ e ∷ post) → AllByRecursion (λ x. key_cmp x.0 e.0 ≡ Less) pre
all_below [] e post a = tt
all_below (x ∷ pre) e post a = (behind pre a.0, all_below pre e post a.1)
  where
    behind : (more : Lists) → AllByRecursion (λ y. key_cmp x.0 y.0 ≡ Less) (more ++ e ∷ post) → key_cmp x.0 e.0 ≡ Less
    behind [] b = b.0
    behind (y ∷ more) b = behind more b.1

all_above : (pre : Lists) (e : Entry) (post : Lists) → IsMap key_cmp (pre ++ e ∷ post) → AllByRecursion (λ x. key_cmp e.0 x.0 ≡ Less) post
all_above [] e post a = a.0
all_above (x ∷ pre) e post a = all_above pre e post a.1

each : (P Q : Entry → Type 0) (es : Lists) → ((e : Entry) → P e → Q e) → AllByRecursion P es → AllByRecursion Q es
each P Q [] f a = tt
each P Q (e ∷ es) f a = (f e a.0, each P Q es f a.1)

below_then : (a b c : Key) → is_le (key_cmp a b) ≡ true → key_cmp b c ≡ Less → is_le (key_cmp a c) ≡ true
below_then a b c le lt = by (key_cmp a b) refl le
  where
    by : (o : Ordering) → key_cmp a b ≡ o → is_le o ≡ true → is_le (key_cmp a c) ≡ true
    by Less e l = ap is_le (key_order.trans a b c e lt)
    by Equal e l = ap is_le (ap (λ (k : Key). key_cmp k c) (key_order.same a b e) ∙ lt)
    by Greater e l = absurd (cc)

-- ---- keys of subjects

module _ (pred : List ℕ) (at : ℕ) where
  abbrev least : Key
  least = Data pred 0

  abbrev shows : Entry → Bool
  shows e = lists_some pred at e

  none_shows : (es : Lists) → AllByRecursion (λ e. is_data_of pred e.0 ≡ false) es → list_any shows es ≡ false
  none_shows [] a = refl
  none_shows (e ∷ es) a = (λ i. (a.0 i && nat_lt 0 (length (reading e.1 at))) || list_any shows es) ∙ none_shows es a.1

  from_least : (s : ℕ) → is_le (key_cmp least (Data pred s)) ≡ true
  from_least s = ap (λ (o : Ordering). is_le (ordering_then o (nat_cmp 0 s))) (text_order.itself pred) ∙ some s
    where
      some : (n : ℕ) → is_le (nat_cmp 0 n) ≡ true
      some zero = refl
      some (suc n) = ap is_le (sym (nat_cmp_is 0 (suc n) Less (omega arith)))

  -- a key below the least of a subject is none of a subject
  low : (key : Key) → is_le (key_cmp least key) ≡ false → is_data_of pred key ≡ false
  low (Data p s) e = by (same_text p pred) refl
    where
      by : (v : Bool) → same_text p pred ≡ v → v ≡ false
      by true q =
          let is : is_le (key_cmp least (Data p s)) ≡ true = ap (λ (r : List ℕ). is_le (key_cmp least (Data r s))) (same_text-equal p pred q) ∙ from_least s in
          absurd (cc)
      by false q = refl
  low (Index p t) e = refl
  low (Reverse p o) e = refl
  low (Count p n) e = refl
  low (RCount p n) e = refl

  -- above one that is none of a subject, and not below the least, there is none of a subject
  beyond : (key after : Key) → is_le (key_cmp least key) ≡ true → is_data_of pred key ≡ false → key_cmp key after ≡ Less → is_data_of pred after ≡ false
  beyond key (Data p s) le other lt = by (same_text p pred) refl
    where
      -- the key has the same predicate
      same : (k : Key) → pred_of k ≡ pred → is_data_of pred k ≡ false → key_cmp k (Data pred s) ≡ Less → ⊥
      same (Data q r) e o l = let is : same_text q pred ≡ true = ap (λ (x : List ℕ). same_text x pred) e ∙ same_text-itself pred in cc
      same (Index q t) e o l =
          let is : key_cmp (Index q t) (Data pred s) ≡ Greater = ap (λ (c : Ordering). ordering_then c Greater) (ap (λ (x : List ℕ). text_cmp x pred) e ∙ text_order.itself pred) in
          cc
      same (Reverse q o2) e o l =
          let is : key_cmp (Reverse q o2) (Data pred s) ≡ Greater = ap (λ (c : Ordering). ordering_then c Greater) (ap (λ (x : List ℕ). text_cmp x pred) e ∙ text_order.itself pred) in
          cc
      same (Count q n) e o l =
          let is : key_cmp (Count q n) (Data pred s) ≡ Greater = ap (λ (c : Ordering). ordering_then c Greater) (ap (λ (x : List ℕ). text_cmp x pred) e ∙ text_order.itself pred) in
          cc
      same (RCount q n) e o l =
          let is : key_cmp (RCount q n) (Data pred s) ≡ Greater = ap (λ (c : Ordering). ordering_then c Greater) (ap (λ (x : List ℕ). text_cmp x pred) e ∙ text_order.itself pred) in
          cc

      none : (c : Ordering) → text_cmp pred (pred_of key) ≡ c → key_cmp key (Data pred s) ≡ Less → ⊥
      none Less e l =
          let up : text_cmp (pred_of key) pred ≡ Greater = text_order.antisymm (pred_of key) pred ∙ ap ordering_reverse e in
          let is : key_cmp key (Data pred s) ≡ Greater = ap (λ (c : Ordering). ordering_then c (ordering_then (nat_cmp (kind_rank key) 1) (field_cmp key (Data pred s)))) up in
          cc
      none Equal e l = same key (sym (text_order.same pred (pred_of key) e)) other l
      none Greater e l =
          let is : is_le (key_cmp least key) ≡ false = ap (λ (c : Ordering). is_le (ordering_then c (ordering_then (nat_cmp 1 (kind_rank key)) (field_cmp least key)))) e in
          cc

      by : (v : Bool) → same_text p pred ≡ v → v ≡ false
      by true q = absurd (none (text_cmp pred (pred_of key)) refl (ap (λ (r : List ℕ). key_cmp key (Data r s)) (sym (same_text-equal p pred q)) ∙ lt))
      by false q = refl
  beyond key (Index p t) le other lt = refl
  beyond key (Reverse p o) le other lt = refl
  beyond key (Count p n) le other lt = refl
  beyond key (RCount p n) le other lt = refl

  -- ---- on the way

  -- what was passed shows nothing, and `next` is the first of what is left, which isn't below the least key
  pub record Scanned (store : Lists) (next : Option Entry) : Type 0 where
    pre : Lists
    post : Lists
    is : pre ++ post ≡ store
    next_is : next ≡ first_of post
    none : list_any shows pre ≡ false
    from : AllByRecursion (λ e. is_le (key_cmp least e.0) ≡ true) post
    map : IsMap key_cmp store

  pub begun : (store : Lists) → IsMap key_cmp store → Scanned store (entry_from key_cmp least store)
  begun store m = of (split_at_found (λ e. is_le (key_cmp least e.0)) store)
    where
      rest : (pre post : Lists) → IsMap key_cmp (pre ++ post) → FirstPasses (λ e. is_le (key_cmp least e.0)) post → AllByRecursion (λ e. is_le (key_cmp least e.0) ≡ true) post
      rest pre [] a p = tt
      rest pre (e ∷ post) a p = (p, each (λ x. key_cmp e.0 x.0 ≡ Less) (λ x. is_le (key_cmp least x.0) ≡ true) post (λ x l. below_then least e.0 x.0 p l) (all_above pre e post a))

      of : Split (λ e. is_le (key_cmp least e.0)) store → Scanned store (entry_from key_cmp least store)
      of s = record {
        pre = s.pre;
        post = s.post;
        is = s.is;
        next_is = s.found;
        none = none_shows s.pre (each (λ e. is_le (key_cmp least e.0) ≡ false) (λ e. is_data_of pred e.0 ≡ false) s.pre (λ e l. low e.0 l) s.before);
        from = rest s.pre s.post (subst (IsMap key_cmp) (sym s.is) m) s.passes;
        map = m;
      }

  -- the first of what is left is at hand
  record At (store : Lists) (e : Entry) : Type 0 where
    pre : Lists
    post : Lists
    is : pre ++ e ∷ post ≡ store
    none : list_any shows pre ≡ false
    here : is_le (key_cmp least e.0) ≡ true
    from : AllByRecursion (λ x. is_le (key_cmp least x.0) ≡ true) post
    map : IsMap key_cmp (pre ++ e ∷ post)

  at_hand : (store : Lists) (e : Entry) → Scanned store (Some e) → At store e
  at_hand store e s = of s.post s.is s.next_is s.from
    where
      of : (post : Lists) → s.pre ++ post ≡ store → Some e ≡ first_of post → AllByRecursion (λ x. is_le (key_cmp least x.0) ≡ true) post → At store e
      of [] is n f = absurd (cc)
      of (x ∷ post) is n f =
          let same : x ≡ e = cc in
          let whole : s.pre ++ e ∷ post ≡ store = ap (λ (y : Entry). s.pre ++ y ∷ post) (sym same) ∙ is in
          record { pre = s.pre; post = post; is = whole; none = s.none; here = subst (λ (y : Entry). is_le (key_cmp least y.0) ≡ true) same f.0; from = f.1; map = subst (IsMap key_cmp) (sym whole) s.map }

  above_is : (store : Lists) (e : Entry) (h : At store e) → entry_above key_cmp e.0 store ≡ first_of h.post
  above_is store e h =
      ap (entry_above key_cmp e.0) (sym h.is)
      ∙ (passed_over (λ x. is_lt (key_cmp e.0 x.0)) h.pre (e ∷ h.post) (each (λ x. key_cmp x.0 e.0 ≡ Less) (λ x. is_lt (key_cmp e.0 x.0) ≡ false) h.pre (λ x l. ap is_lt (turned x.0 e.0 l)) (all_below h.pre e h.post h.map))
      ∙ (ap (λ (o : Ordering). cond (is_lt o) (Some e) (find (λ x. is_lt (key_cmp e.0 x.0)) h.post)) (key_order.itself e.0)
      ∙ first_found (λ x. is_lt (key_cmp e.0 x.0)) h.post (each (λ x. key_cmp e.0 x.0 ≡ Less) (λ x. is_lt (key_cmp e.0 x.0) ≡ true) h.post (λ x l. ap is_lt l) (all_above h.pre e h.post h.map))))

  pub gone_on : (store : Lists) (e : Entry) → Scanned store (Some e) → shows e ≡ false → Scanned store (entry_above key_cmp e.0 store)
  gone_on store e s nothing =
      let h = at_hand store e s in
      record {
        pre = h.pre ++ e ∷ [];
        post = h.post;
        is = append_one h.pre e h.post ∙ h.is;
        next_is = above_is store e h;
        none = any_joined shows h.pre (e ∷ []) ∙ (λ i. h.none i || (nothing i || false));
        from = h.from;
        map = s.map;
      }

  pub none_left : (store : Lists) → Scanned store None → false ≡ list_any shows store
  none_left store s = of s.post s.is s.next_is
    where
      of : (post : Lists) → s.pre ++ post ≡ store → None ≡ first_of post → false ≡ list_any shows store
      of [] is n = sym (ap (list_any shows) (sym is) ∙ (any_joined shows s.pre [] ∙ ap (λ (b : Bool). b || false) s.none))
      of (x ∷ post) is n = absurd (cc)

  pub others_left : (store : Lists) (e : Entry) → Scanned store (Some e) → is_data_of pred e.0 ≡ false → false ≡ list_any shows store
  others_left store e s other =
      let h = at_hand store e s in
      let rest = each (λ x. key_cmp e.0 x.0 ≡ Less) (λ x. is_data_of pred x.0 ≡ false) h.post (λ x l. beyond e.0 x.0 h.here other l) (all_above h.pre e h.post h.map) in
      sym (ap (list_any shows) (sym h.is) ∙ (any_joined shows h.pre (e ∷ h.post) ∙ (λ i. h.none i || none_shows (e ∷ h.post) (other, rest) i)))

  pub one_shows : (store : Lists) (e : Entry) → Scanned store (Some e) → shows e ≡ true → true ≡ list_any shows store
  one_shows store e s some =
      let h = at_hand store e s in
      sym (ap (list_any shows) (sym h.is) ∙ (any_joined shows h.pre (e ∷ h.post) ∙ (λ i. h.none i || (some i || list_any shows h.post))))

  -- the entry at hand is one of the store's
  pub is_one_of : (P : Entry → Type 0) (store : Lists) (e : Entry) → Scanned store (Some e) → AllByRecursion P store → P e
  is_one_of P store e s a = of (at_hand store e s)
    where
      behind : (pre post : Lists) → AllByRecursion P (pre ++ e ∷ post) → P e
      behind [] post b = b.0
      behind (x ∷ pre) post b = behind pre post b.1

      of : At store e → P e
      of h = behind h.pre h.post (subst (AllByRecursion P) (sym h.is) a)

-- ---- how many are left

-- the entries from one on
abbrev pub left_from : Lists → Option Entry → ℕ
left_from store None = 0
left_from [] (Some e) = 0
left_from (x ∷ store) (Some e) = cond (is_eq (key_cmp x.0 e.0)) (suc (length store)) (left_from store (Some e))

left_is : (pre : Lists) (e : Entry) (post : Lists) → AllByRecursion (λ x. key_cmp x.0 e.0 ≡ Less) pre → left_from (pre ++ e ∷ post) (Some e) ≡ suc (length post)
left_is [] e post a = ap (λ (b : Bool). cond b (suc (length post)) (left_from post (Some e))) (is_itself key_cmp key_order e.0)
left_is (x ∷ pre) e post a = ap (λ (o : Ordering). cond (is_eq o) (suc (length (pre ++ e ∷ post))) (left_from (pre ++ e ∷ post) (Some e))) a.0 ∙ left_is pre e post a.1

pub fewer_left : (pred : List ℕ) (at : ℕ) (store : Lists) (e : Entry) → Scanned pred at store (Some e) → left_from store (entry_above key_cmp e.0 store) < left_from store (Some e)
fewer_left pred at store e s =
    let h = at_hand pred at store e s in
    let now : left_from store (Some e) ≡ suc (length h.post) = ap (λ (l : Lists). left_from l (Some e)) (sym h.is) ∙ left_is h.pre e h.post (all_below h.pre e h.post h.map) in
    let after : left_from store (entry_above key_cmp e.0 store) ≡ length h.post = ap (left_from store) (above_is pred at store e h) ∙ rest h.pre h.post h.is h.map in
    omega (arith, now, after)
  where
    rest : (pre post : Lists) → pre ++ e ∷ post ≡ store → IsMap key_cmp (pre ++ e ∷ post) → left_from store (first_of post) ≡ length post
    rest pre [] is m = refl
    rest pre (x ∷ post) is m =
        let whole : (pre ++ e ∷ []) ++ x ∷ post ≡ store = append_one pre e (x ∷ post) ∙ is in
        ap (λ (l : Lists). left_from l (Some x)) (sym whole) ∙ left_is (pre ++ e ∷ []) x post (all_below (pre ++ e ∷ []) x post (subst (IsMap key_cmp) (sym (append_one pre e (x ∷ post))) m))
