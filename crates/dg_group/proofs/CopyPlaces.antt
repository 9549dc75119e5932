-- The place of a predicate among copies.
use Rattle.std.proofs.Common.{◌≡◌, ◌<◌, ◌≤◌, ◌+◌, ◌∙◌, sym, ap, subst, arith, refl, ℕ, zero, suc, List, [], ◌∷◌, ◌++◌, Bool, true, false, cond, map, fold, length, get_or, slice_set, take}
use Rattle.std.specs.Prelude.{◌==◌, Some, None, filter}
use Rattle.std.specs.List.{AllByRecursion, AllWithin, insert}
use Rattle.std.specs.List.Sorted.{IsPartitionedBy}
use Rattle.std.proofs.lemmas.List.{take_more, map-append, get_or_default}
use Rattle.std.proofs.lemmas.List.Sums.{fold-append}
use Rattle.std.specs.declared.cmp.Ordering.{Ordering}
use Rattle.std.specs.declared.cmp.Ordering.TheVariants.{Less, Equal, Greater}
use Rattle.std.specs.Ordering.{is_eq, is_lt}
use Rattle.dg_values.specs.Ascending.{Ascends, with_one}
use Rattle.dg_values.specs.Order.{text_cmp}
use Rattle.dg_sets.proofs.MadeOrders.{text_order}
use Rattle.dg_sets.proofs.Sets.{back, forth, eq_turn}
use Rattle.dg_keys.specs.Keys.{pred_of}
use Rattle.dg_keys.specs.declared.record.Part.{Part}
use Rattle.dg_keys.specs.declared.record.Record.{Record}
use Rattle.dg_keys.specs.declared.record.Tablet.{Tablet}
use Rattle.dg_list.specs.Lists.{newest_ts}
use Rattle.dg_store.specs.Stores.{Lists, list_at, after_part}
use Rattle.dg_group.specs.declared.copied.Copied.{Copied}
use Rattle.dg_group.specs.Groups.{copied_cmp, copy_of, is_copy_of, copy_after, is_open_at, new_copy, with_fresh, IsOnly}
use Rattle.dg_group.proofs.Lists.{all_at}

abbrev pub below : List ℕ → Copied → Bool
below pred c = is_lt (text_cmp c.pred pred)

less : (a b : List ℕ) → is_lt (text_cmp a b) ≡ true → text_cmp a b ≡ Less
less a b e = by (text_cmp a b) e
  where
    by : (v : Ordering) → is_lt v ≡ true → v ≡ Less
    by Less e = refl
    by Equal e = absurd (cc)
    by Greater e = absurd (cc)

each_at : (P : Copied → Type 0) (cs : List Copied) (j : ℕ) (d : Copied) → j < length cs → AllByRecursion P cs → P (get_or cs j d)
each_at P [] j d lt a = absurd (omega arith)
each_at P (c ∷ cs) zero d lt a = a.0
each_at P (c ∷ cs) (suc j) d lt a = each_at P cs j d (omega arith) a.1

-- those below a predicate come first
pub parted : (pred : List ℕ) (cs : List Copied) → Ascends copied_cmp cs → IsPartitionedBy (below pred) cs
parted pred [] a i j d le lt e = absurd (omega arith)
parted pred (c ∷ cs) a zero zero d le lt e = e
parted pred (c ∷ cs) a zero (suc j) d le lt e =
    ap is_lt (text_order.trans c.pred (get_or cs j d).pred pred (each_at (λ z. copied_cmp c z ≡ Less) cs j d (omega arith) a.0) (less (get_or cs j d).pred pred e))
parted pred (c ∷ cs) a (suc i) zero d le lt e = absurd (omega arith)
parted pred (c ∷ cs) a (suc i) (suc j) d le lt e = parted pred cs a.1 i j d (omega arith) (omega arith) e

-- ---- a copy of a predicate that is there isn't put in

equal : (v : Ordering) → is_eq v ≡ true → v ≡ Equal
equal Less e = absurd (cc)
equal Equal e = refl
equal Greater e = absurd (cc)

turned : (a b : List ℕ) → text_cmp a b ≡ Equal → text_cmp b a ≡ Equal
turned a b e = equal (text_cmp b a) (eq_turn text_cmp text_order b a ∙ ap is_eq e)

pub there : (c : Copied) (cs : List Copied) (i : ℕ) (d : Copied) → i < length cs → AllWithin (λ y. below c.pred y ≡ true) cs 0 i → is_copy_of c.pred (get_or cs i d) ≡ true → with_one copied_cmp cs c ≡ cs
there c [] i d lt f e = absurd (omega arith)
there c (y ∷ cs) zero d lt f e = rw (turned y.pred c.pred (equal (text_cmp y.pred c.pred) e)) refl
there c (y ∷ cs) (suc i) d lt f e =
    rw (back text_cmp text_order y.pred c.pred (less y.pred c.pred (f zero y (omega arith) (omega arith))))
    (λ j. y ∷ there c cs i d (omega arith) (λ k b p q. f (suc k) b (omega arith) (omega arith)) e j)

-- and another is put in at its place
above : (v : Ordering) → is_lt v ≡ false → is_eq v ≡ false → v ≡ Greater
above Less e h = absurd (cc)
above Equal e h = absurd (cc)
above Greater e h = refl

pub put : (c : Copied) (cs : List Copied) (i : ℕ) → i ≤ length cs → AllWithin (λ y. below c.pred y ≡ true) cs 0 i → AllWithin (λ y. below c.pred y ≡ false) cs i (length cs) → ((d : Copied) → i < length cs → is_copy_of c.pred (get_or cs i d) ≡ false) → insert cs i c ≡ with_one copied_cmp cs c
put c [] zero le f b n = refl
put c [] (suc i) le f b n = absurd (omega arith)
put c (y ∷ cs) zero le f b n =
    rw (forth text_cmp text_order y.pred c.pred (above (text_cmp y.pred c.pred) (b zero y (omega arith) (omega arith)) (n y (omega arith)))) refl
put c (y ∷ cs) (suc i) le f b n =
    rw (back text_cmp text_order y.pred c.pred (less y.pred c.pred (f zero y (omega arith) (omega arith))))
    (λ j. y ∷ put c cs i (omega arith) (λ k d p q. f (suc k) d (omega arith) (omega arith)) (λ k d p q. b (suc k) d (omega arith) (omega arith)) (λ d p. n d (omega arith)) j)

-- ---- lists that are older than a record

pub all_newer : (ts : ℕ) (store : Lists) (parts : List Part) → 0 < ts → AllByRecursion (λ e. newest_ts e.1 < ts) store → AllByRecursion (λ part. newest_ts (list_at part.key store) < ts) parts
all_newer ts store [] lt a = tt
all_newer ts store (part ∷ parts) lt a = (all_at (λ l. newest_ts l < ts) part.key store lt a, all_newer ts store parts lt a)

-- the copy that is found by halves is the one of the predicate

not_it : (v : Ordering) → is_lt v ≡ true → is_eq v ≡ false
not_it Less e = refl
not_it Equal e = absurd (cc)
not_it Greater e = absurd (cc)

none_above : (pred : List ℕ) (p : List ℕ) (cs : List Copied) → text_cmp pred p ≡ Less → AllByRecursion (λ c. text_cmp p c.pred ≡ Less) cs → copy_of cs pred ≡ None
none_above pred p [] e a = refl
none_above pred p (c ∷ cs) e a =
    let apart : is_copy_of pred c ≡ false = ap is_eq (back text_cmp text_order pred c.pred (text_order.trans pred p c.pred e a.0)) in
    rw apart (none_above pred p cs e a.1)

pub found : (pred : List ℕ) (cs : List Copied) (i : ℕ) (d : Copied) → i < length cs → AllWithin (λ y. below pred y ≡ true) cs 0 i → is_copy_of pred (get_or cs i d) ≡ true → copy_of cs pred ≡ Some (get_or cs i d)
found pred [] i d lt f e = absurd (omega arith)
found pred (y ∷ cs) zero d lt f e = rw e refl
found pred (y ∷ cs) (suc i) d lt f e =
    rw (not_it (text_cmp y.pred pred) (f zero y (omega arith) (omega arith)))
    (found pred cs i d (omega arith) (λ k b p q. f (suc k) b (omega arith) (omega arith)) e)

pub missing : (pred : List ℕ) (cs : List Copied) (i : ℕ) → i ≤ length cs → Ascends copied_cmp cs → AllWithin (λ y. below pred y ≡ true) cs 0 i → AllWithin (λ y. below pred y ≡ false) cs i (length cs) → ((d : Copied) → i < length cs → is_copy_of pred (get_or cs i d) ≡ false) → copy_of cs pred ≡ None
missing pred [] i le a f b n = refl
missing pred (y ∷ cs) zero le a f b n =
    let over : text_cmp y.pred pred ≡ Greater = above (text_cmp y.pred pred) (b zero y (omega arith) (omega arith)) (n y (omega arith)) in
    rw (n y (omega arith)) (none_above pred y.pred cs (forth text_cmp text_order y.pred pred over) a.0)
missing pred (y ∷ cs) (suc i) le a f b n =
    rw (not_it (text_cmp y.pred pred) (f zero y (omega arith) (omega arith)))
    (missing pred cs i (omega arith) a.1 (λ k d p q. f (suc k) d (omega arith) (omega arith)) (λ k d p q. b (suc k) d (omega arith) (omega arith)) (λ d p. n d (omega arith)))

-- ---- the tablets up to a place

filter_joined : (test : Tablet → Bool) (xs ys : List Tablet) → filter test (xs ++ ys) ≡ filter test xs ++ filter test ys
filter_joined test [] ys = refl
filter_joined test (x ∷ xs) ys = by (test x) (filter_joined test xs ys)
  where
    by : (v : Bool) → filter test (xs ++ ys) ≡ filter test xs ++ filter test ys → cond v (x ∷ filter test (xs ++ ys)) (filter test (xs ++ ys)) ≡ cond v (x ∷ filter test xs) (filter test xs) ++ filter test ys
    by true e = ap (λ zs. x ∷ zs) e
    by false e = e

pub fresh_more : (cs : List Copied) (number : ℕ) (ts : List Tablet) (i : ℕ) (t : Tablet) → i < length ts → get_or ts i t ≡ t → with_fresh (with_fresh cs (filter (λ t. t.group == number) (take i ts))) (filter (λ t. t.group == number) (t ∷ [])) ≡ with_fresh cs (filter (λ t. t.group == number) (take (i + 1) ts))
fresh_more cs number ts i t lt is =
    let one : take (i + 1) ts ≡ take i ts ++ t ∷ [] = take_more ts i t lt ∙ λ j. take i ts ++ is j ∷ [] in
    let a = filter (λ (t : Tablet). t.group == number) (take i ts) in
    let b = filter (λ (t : Tablet). t.group == number) (t ∷ []) in
    sym (fold-append (with_one copied_cmp) cs (map new_copy a) (map new_copy b))
    ∙ ap (fold (with_one copied_cmp) cs) (sym (map-append new_copy a b))
    ∙ ap (with_fresh cs) (sym (filter_joined (λ t. t.group == number) (take i ts) (t ∷ [])))
    ∙ ap (λ (us : List Tablet). with_fresh cs (filter (λ t. t.group == number) us)) (sym one)

-- ---- a record of one part

others_same : (pred : List ℕ) (f : Copied → Copied) → ((c : Copied) → is_copy_of pred c ≡ false → f c ≡ c) → (cs : List Copied) → AllByRecursion (λ c. is_copy_of pred c ≡ false) cs → map f cs ≡ cs
others_same pred f h [] a = refl
others_same pred f h (c ∷ cs) a = λ i. h c a.0 i ∷ others_same pred f h cs a.1 i

all_apart : (pred p : List ℕ) (cs : List Copied) → text_cmp pred p ≡ Equal → AllByRecursion (λ c. text_cmp p c.pred ≡ Less) cs → AllByRecursion (λ c. is_copy_of pred c ≡ false) cs
all_apart pred p [] e a = tt
all_apart pred p (c ∷ cs) e a = (ap is_eq (back text_cmp text_order pred c.pred (subst (λ q. text_cmp q c.pred ≡ Less) (sym (text_order.same pred p e)) a.0)), all_apart pred p cs e a.1)

alone : (pred : List ℕ) (cs : List Copied) (i : ℕ) (d : Copied) → i < length cs → Ascends copied_cmp cs → AllWithin (λ y. below pred y ≡ true) cs 0 i → is_copy_of pred (get_or cs i d) ≡ true → (f : Copied → Copied) → ((c : Copied) → is_copy_of pred c ≡ false → f c ≡ c) → (x : Copied) → map f cs ≡ slice_set cs i (f (get_or cs i x))
alone pred [] i d lt a b e f h x = absurd (omega arith)
alone pred (y ∷ cs) zero d lt a b e f h x = λ j. f y ∷ others_same pred f h cs (all_apart pred y.pred cs (turned y.pred pred (equal (text_cmp y.pred pred) e)) a.0) j
alone pred (y ∷ cs) (suc i) d lt a b e f h x =
    λ j. h y (not_it (text_cmp y.pred pred) (b zero y (omega arith) (omega arith))) j ∷ alone pred cs i d (omega arith) a.1 (λ k z p q. b (suc k) z (omega arith) (omega arith)) e f h x j

pub only : (pred : List ℕ) (cs : List Copied) (i : ℕ) (d : Copied) → i < length cs → Ascends copied_cmp cs → AllWithin (λ y. below pred y ≡ true) cs 0 i → is_copy_of pred (get_or cs i d) ≡ true → IsOnly pred cs i
only pred cs i d lt a b e = record {
  within = lt;
  own = λ x. ap (is_copy_of pred) (get_or_default cs i x d lt) ∙ e;
  others = alone pred cs i d lt a b e;
}

none_of : (pred : List ℕ) (cs : List Copied) → copy_of cs pred ≡ None → AllByRecursion (λ c. is_copy_of pred c ≡ false) cs
none_of pred [] e = tt
none_of pred (c ∷ cs) e = by (is_copy_of pred c) refl e (λ n. none_of pred cs n)
  where
    by : (v : Bool) → is_copy_of pred c ≡ v → cond v (Some c) (copy_of cs pred) ≡ None → (copy_of cs pred ≡ None → AllByRecursion (λ k. is_copy_of pred k ≡ false) cs) → AllByRecursion (λ k. is_copy_of pred k ≡ false) (c ∷ cs)
    by true is n more = absurd (cc)
    by false is n more = (is, more n)

untouched : (rec : Record) (part : Part) → rec.parts ≡ part ∷ [] → (c : Copied) → is_copy_of (pred_of part.key) c ≡ false → copy_after rec c ≡ c
untouched rec part e c n = rw (e, n) (by (is_open_at c.until rec.ts))
  where
    by : (v : Bool) → record { pred = c.pred; mark = c.mark; until = c.until; store = cond v c.store c.store } ≡ c
    by true = refl
    by false = refl

-- a copy that is read still has one more layer, and one that isn't stays
pub put_open : (rec : Record) (part : Part) (c : Copied) (store : Lists) → rec.parts ≡ part ∷ [] → is_copy_of (pred_of part.key) c ≡ true → is_open_at c.until rec.ts ≡ true → store ≡ after_part rec.ts c.store part → record { pred = c.pred; mark = c.mark; until = c.until; store = store } ≡ copy_after rec c
put_open rec part c store e n o s = rw (e, n, o) (λ i. record { pred = c.pred; mark = c.mark; until = c.until; store = s i })

pub put_closed : (rec : Record) (c : Copied) → is_open_at c.until rec.ts ≡ false → c ≡ copy_after rec c
put_closed rec c o = rw o refl

-- all copies after such a record, where one is of its predicate, and where none is
pub one_after : (rec : Record) (part : Part) (cs : List Copied) (i : ℕ) (d : Copied) → rec.parts ≡ part ∷ [] → IsOnly (pred_of part.key) cs i → slice_set cs i (copy_after rec (get_or cs i d)) ≡ map (copy_after rec) cs
one_after rec part cs i d e o = sym (o.others (copy_after rec) (untouched rec part e) d)

pub none_after : (rec : Record) (part : Part) (cs : List Copied) → rec.parts ≡ part ∷ [] → copy_of cs (pred_of part.key) ≡ None → cs ≡ map (copy_after rec) cs
none_after rec part cs e n = sym (others_same (pred_of part.key) (copy_after rec) (untouched rec part e) cs (none_of (pred_of part.key) cs n))

-- and its lists are older
pub newer_at : (ts : ℕ) (part : Part) (cs : List Copied) (i : ℕ) (c : Copied) → 0 < ts → i < length cs → get_or cs i c ≡ c → AllByRecursion (λ k. AllByRecursion (λ e. newest_ts e.1 < ts) k.store) cs → newest_ts (list_at part.key c.store) < ts
newer_at ts part cs i c some lt is a = (all_newer ts c.store (part ∷ []) some (subst (λ (k : Copied). AllByRecursion (λ e. newest_ts e.1 < ts) k.store) is (each_at (λ k. AllByRecursion (λ e. newest_ts e.1 < ts) k.store) cs i c lt a))).0
