-- The place of a predicate among tablets that ascend by predicate.
use Rattle.std.proofs.Common.{◌≡◌, ◌<◌, ◌≤◌, ◌∙◌, sym, ap, arith, refl, ℕ, zero, suc, List, [], ◌∷◌, Bool, true, false, length, get_or}
use Rattle.std.specs.Prelude.{Some, None, find}
use Rattle.std.specs.List.{AllByRecursion, AllWithin}
use Rattle.std.specs.List.Sorted.{IsPartitionedBy}
use Rattle.std.specs.declared.cmp.Ordering.{Ordering}
use Rattle.std.specs.declared.cmp.Ordering.TheVariants.{Less, Equal, Greater}
use Rattle.std.specs.Ordering.{is_eq, is_lt, ordering_then, nat_cmp}
use Rattle.dg_values.specs.Ascending.{Ascends}
use Rattle.dg_values.specs.Order.{text_cmp, same_text}
use Rattle.dg_sets.proofs.MadeOrders.{text_order}
use Rattle.dg_sets.proofs.Sets.{back, forth}
use Rattle.dg_keys.specs.declared.record.Tablet.{Tablet}
use Rattle.dg_keys.specs.Tablets.{tablet_cmp}

abbrev pub below : List ℕ → Tablet → Bool
below pred t = is_lt (text_cmp t.pred pred)

less : (v : Ordering) → is_lt v ≡ true → v ≡ Less
less Less e = refl
less Equal e = absurd (cc)
less Greater e = absurd (cc)

not_it : (v : Ordering) → is_lt v ≡ true → is_eq v ≡ false
not_it Less e = refl
not_it Equal e = absurd (cc)
not_it Greater e = absurd (cc)

greater : (v : Ordering) → is_lt v ≡ false → is_eq v ≡ false → v ≡ Greater
greater Less e h = absurd (cc)
greater Equal e h = absurd (cc)
greater Greater e h = refl

-- a tablet before another is below what that is below
also_below : (t u : Tablet) (pred : List ℕ) → tablet_cmp t u ≡ Less → text_cmp u.pred pred ≡ Less → is_lt (text_cmp t.pred pred) ≡ true
also_below t u pred e l = by (text_cmp t.pred u.pred) refl e
  where
    by : (v : Ordering) → text_cmp t.pred u.pred ≡ v → ordering_then v (nat_cmp t.group u.group) ≡ Less → is_lt (text_cmp t.pred pred) ≡ true
    by Less q f = ap is_lt (text_order.trans t.pred u.pred pred q l)
    by Equal q f = ap (λ (p : List ℕ). is_lt (text_cmp p pred)) (text_order.same t.pred u.pred q) ∙ ap is_lt l
    by Greater q f = absurd (cc)

each_at : (P : Tablet → Type 0) (ts : List Tablet) (j : ℕ) (d : Tablet) → j < length ts → AllByRecursion P ts → P (get_or ts j d)
each_at P [] j d lt a = absurd (omega arith)
each_at P (t ∷ ts) zero d lt a = a.0
each_at P (t ∷ ts) (suc j) d lt a = each_at P ts j d (omega arith) a.1

-- those below a predicate come first
pub parted : (pred : List ℕ) (ts : List Tablet) → Ascends tablet_cmp ts → IsPartitionedBy (below pred) ts
parted pred [] a i j d le lt e = absurd (omega arith)
parted pred (t ∷ ts) a zero zero d le lt e = e
parted pred (t ∷ ts) a zero (suc j) d le lt e =
    also_below t (get_or ts j d) pred (each_at (λ u. tablet_cmp t u ≡ Less) ts j d (omega arith) a.0) (less (text_cmp (get_or ts j d).pred pred) e)
parted pred (t ∷ ts) a (suc i) zero d le lt e = absurd (omega arith)
parted pred (t ∷ ts) a (suc i) (suc j) d le lt e = parted pred ts a.1 i j d (omega arith) (omega arith) e

abbrev pub is_tablet_of : List ℕ → Tablet → Bool
is_tablet_of pred t = same_text t.pred pred

pub found : (pred : List ℕ) (ts : List Tablet) (i : ℕ) (d : Tablet) → i < length ts → AllWithin (λ t. below pred t ≡ true) ts 0 i → is_tablet_of pred (get_or ts i d) ≡ true → find (is_tablet_of pred) ts ≡ Some (get_or ts i d)
found pred [] i d lt f e = absurd (omega arith)
found pred (t ∷ ts) zero d lt f e = rw e refl
found pred (t ∷ ts) (suc i) d lt f e =
    rw (not_it (text_cmp t.pred pred) (f zero t (omega arith) (omega arith)))
    (found pred ts i d (omega arith) (λ k b p q. f (suc k) b (omega arith) (omega arith)) e)

-- above a predicate none is of it
none_above : (pred : List ℕ) (t : Tablet) (ts : List Tablet) → text_cmp pred t.pred ≡ Less → AllByRecursion (λ u. tablet_cmp t u ≡ Less) ts → find (is_tablet_of pred) ts ≡ None
none_above pred t [] l a = refl
none_above pred t (u ∷ ts) l a = rw (apart (text_cmp t.pred u.pred) refl a.0) (none_above pred t ts l a.1)
  where
    apart : (v : Ordering) → text_cmp t.pred u.pred ≡ v → ordering_then v (nat_cmp t.group u.group) ≡ Less → is_tablet_of pred u ≡ false
    apart Less q f = ap is_eq (back text_cmp text_order pred u.pred (text_order.trans pred t.pred u.pred l q))
    apart Equal q f = ap is_eq (back text_cmp text_order pred u.pred (ap (text_cmp pred) (sym (text_order.same t.pred u.pred q)) ∙ l))
    apart Greater q f = absurd (cc)

pub missing : (pred : List ℕ) (ts : List Tablet) (i : ℕ) → i ≤ length ts → Ascends tablet_cmp ts → AllWithin (λ t. below pred t ≡ true) ts 0 i → AllWithin (λ t. below pred t ≡ false) ts i (length ts) → ((d : Tablet) → i < length ts → is_tablet_of pred (get_or ts i d) ≡ false) → find (is_tablet_of pred) ts ≡ None
missing pred [] i le a f b n = refl
missing pred (t ∷ ts) zero le a f b n =
    let over : text_cmp t.pred pred ≡ Greater = greater (text_cmp t.pred pred) (b zero t (omega arith) (omega arith)) (n t (omega arith)) in
    rw (n t (omega arith)) (none_above pred t ts (forth text_cmp text_order t.pred pred over) a.0)
missing pred (t ∷ ts) (suc i) le a f b n =
    rw (not_it (text_cmp t.pred pred) (f zero t (omega arith) (omega arith)))
    (missing pred ts i (omega arith) a.1 (λ k d p q. f (suc k) d (omega arith) (omega arith)) (λ k d p q. b (suc k) d (omega arith) (omega arith)) (λ d p. n d (omega arith)))
