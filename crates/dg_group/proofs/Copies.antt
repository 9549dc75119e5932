-- Which copies a group has after new tablets.
use Rattle.std.proofs.Common.{◌≡◌, ◌∙◌, sym, ap, subst, refl, ℕ, List, [], ◌∷◌, Bool, true, false, cond, map}
use Rattle.std.specs.Prelude.{◌==◌, ◌||◌, Option, Some, None, filter, find, option_map}
use Rattle.std.specs.List.{AllByRecursion}
use Rattle.std.specs.Option.{option_or}
use Rattle.std.specs.declared.cmp.Ordering.{Ordering}
use Rattle.std.specs.declared.cmp.Ordering.TheVariants.{Less, Equal, Greater}
use Rattle.std.specs.Ordering.{is_eq}
use Rattle.dg_values.specs.Ascending.{Ascends, placed, with_one}
use Rattle.dg_values.specs.Order.{text_cmp, same_text}
use Rattle.dg_sets.proofs.MadeOrders.{text_order}
use Rattle.dg_sets.proofs.Sets.{is_one, back, forth, all_with}
use Rattle.dg_keys.specs.declared.record.Record.{Record}
use Rattle.dg_keys.specs.declared.record.Tablet.{Tablet}
use Rattle.dg_zero.specs.declared.entry.Entry.{Entry}
use Rattle.dg_zero.specs.Places.{copies, copy_at, fresh_copy}
use Rattle.dg_group.specs.declared.copied.Copied.{Copied}
use Rattle.dg_group.specs.Groups.{copied_cmp, is_copy_of, copy_of, new_copy, copy_after, with_fresh}
use Rattle.dg_group.specs.Stands.{standing_of, standing_in, has_tablet, IsAsItCame}

-- ---- a copy put in

-- what holds of all copies, and of the one that is put in
pub all_with_one : (P : Copied → Type 0) (cs : List Copied) (c : Copied) → P c → AllByRecursion P cs → AllByRecursion P (with_one copied_cmp cs c)
all_with_one P [] c p a = (p, tt)
all_with_one P (d ∷ cs) c p a = by (copied_cmp c d) (all_with_one P cs c p a.1)
  where
    by : (v : Ordering) → AllByRecursion P (with_one copied_cmp cs c) → AllByRecursion P (placed v c d cs (with_one copied_cmp cs c))
    by Less rest = (p, a)
    by Equal rest = a
    by Greater rest = (a.0, rest)

pub all_with_fresh : (P : Copied → Type 0) (cs : List Copied) (ts : List Tablet) → AllByRecursion (λ t. P (new_copy t)) ts → AllByRecursion P cs → AllByRecursion P (with_fresh cs ts)
all_with_fresh P cs [] f a = a
all_with_fresh P cs (t ∷ ts) f a = all_with_fresh P (with_one copied_cmp cs (new_copy t)) ts f.1 (all_with_one P cs (new_copy t) f.0 a)

pub copies_ascend : (cs : List Copied) (c : Copied) → Ascends copied_cmp cs → Ascends copied_cmp (with_one copied_cmp cs c)
copies_ascend [] c a = (tt, tt)
copies_ascend (d ∷ cs) c a = by (copied_cmp c d) refl (copies_ascend cs c a.1)
  where
    by : (v : Ordering) → copied_cmp c d ≡ v → Ascends copied_cmp (with_one copied_cmp cs c) → Ascends copied_cmp (placed v c d cs (with_one copied_cmp cs c))
    by Less e rest = ((e, all_with (λ w. copied_cmp d w ≡ Less) (λ w. copied_cmp c w ≡ Less) cs (λ w l. text_order.trans c.pred d.pred w.pred e l) a.0), a)
    by Equal e rest = a
    by Greater e rest = (all_with_one (λ w. copied_cmp d w ≡ Less) cs c (forth text_cmp text_order c.pred d.pred e) a.0, rest)

pub fresh_ascend : (cs : List Copied) (ts : List Tablet) → Ascends copied_cmp cs → Ascends copied_cmp (with_fresh cs ts)
fresh_ascend cs [] a = a
fresh_ascend cs (t ∷ ts) a = fresh_ascend (with_one copied_cmp cs (new_copy t)) ts (copies_ascend cs (new_copy t) a)

-- ---- which copy is found

-- none of those above a copy is of its predicate
none_of_it : (c : Copied) (cs : List Copied) → AllByRecursion (λ w. copied_cmp c w ≡ Less) cs → copy_of cs c.pred ≡ None
none_of_it c [] a = refl
none_of_it c (d ∷ cs) a =
    let no : is_copy_of c.pred d ≡ false = ap is_eq (back text_cmp text_order c.pred d.pred a.0) in
    rw no (none_of_it c cs a.1)

or_none : (o : Option Copied) → option_or None o ≡ o
or_none o = refl

pub found_with : (cs : List Copied) (c : Copied) (pred : List ℕ) → Ascends copied_cmp cs → copy_of (with_one copied_cmp cs c) pred ≡ option_or (copy_of cs pred) (cond (is_copy_of pred c) (Some c) None)
found_with [] c pred a = refl
found_with (d ∷ cs) c pred a = by (copied_cmp c d) refl (found_with cs c pred a.1)
  where
    first : (u v : Bool) → is_copy_of pred c ≡ u → is_copy_of pred d ≡ v → copied_cmp c d ≡ Less → cond u (Some c) (cond v (Some d) (copy_of cs pred)) ≡ option_or (cond v (Some d) (copy_of cs pred)) (cond u (Some c) None)
    first true v p q e =
        let mine : c.pred ≡ pred = is_one text_cmp text_order c.pred pred p in
        let above : AllByRecursion (λ w. copied_cmp c w ≡ Less) (d ∷ cs) = (e, all_with (λ w. copied_cmp d w ≡ Less) (λ w. copied_cmp c w ≡ Less) cs (λ w l. text_order.trans c.pred d.pred w.pred e l) a.0) in
        let none : copy_of (d ∷ cs) pred ≡ None = subst (λ (n : List ℕ). copy_of (d ∷ cs) n ≡ None) mine (none_of_it c (d ∷ cs) above) in
        let same : cond v (Some d) (copy_of cs pred) ≡ None = (λ i. cond (sym q i) (Some d) (copy_of cs pred)) ∙ none in
        sym (λ i. option_or (same i) (Some c))
    first false true p q e = refl
    first false false p q e = last (copy_of cs pred)
      where
        last : (o : Option Copied) → o ≡ option_or o None
        last None = refl
        last (Some x) = refl

    equal : (u v : Bool) → u ≡ v → cond v (Some d) (copy_of cs pred) ≡ option_or (cond v (Some d) (copy_of cs pred)) (cond u (Some c) None)
    equal true true e = refl
    equal true false e = absurd (cc)
    equal false true e = absurd (cc)
    equal false false e = last (copy_of cs pred)
      where
        last : (o : Option Copied) → o ≡ option_or o None
        last None = refl
        last (Some x) = refl

    later : (v : Bool) → copy_of (with_one copied_cmp cs c) pred ≡ option_or (copy_of cs pred) (cond (is_copy_of pred c) (Some c) None) → cond v (Some d) (copy_of (with_one copied_cmp cs c) pred) ≡ option_or (cond v (Some d) (copy_of cs pred)) (cond (is_copy_of pred c) (Some c) None)
    later true rest = refl
    later false rest = rest

    by : (v : Ordering) → copied_cmp c d ≡ v → copy_of (with_one copied_cmp cs c) pred ≡ option_or (copy_of cs pred) (cond (is_copy_of pred c) (Some c) None) → copy_of (placed v c d cs (with_one copied_cmp cs c)) pred ≡ option_or (copy_of (d ∷ cs) pred) (cond (is_copy_of pred c) (Some c) None)
    by Less e rest = first (is_copy_of pred c) (is_copy_of pred d) refl refl e
    by Equal e rest = equal (is_copy_of pred c) (is_copy_of pred d) (ap (λ n. same_text n pred) (text_order.same c.pred d.pred e))
    by Greater e rest = later (is_copy_of pred d) rest

or_assoc : (a b c : Option Copied) → option_or (option_or a b) c ≡ option_or a (option_or b c)
or_assoc None b c = refl
or_assoc (Some x) b c = refl

pub found_fresh : (cs : List Copied) (ts : List Tablet) (pred : List ℕ) → Ascends copied_cmp cs → copy_of (with_fresh cs ts) pred ≡ option_or (copy_of cs pred) (option_map new_copy (find (λ t. same_text t.pred pred) ts))
found_fresh cs [] pred a = last (copy_of cs pred)
  where
    last : (o : Option Copied) → o ≡ option_or o None
    last None = refl
    last (Some x) = refl
found_fresh cs (t ∷ ts) pred a =
    found_fresh (with_one copied_cmp cs (new_copy t)) ts pred (copies_ascend cs (new_copy t) a)
    ∙ ap (λ o. option_or o (option_map new_copy (find (λ t. same_text t.pred pred) ts))) (found_with cs (new_copy t) pred a)
    ∙ or_assoc (copy_of cs pred) (cond (same_text t.pred pred) (Some (new_copy t)) None) (option_map new_copy (find (λ t. same_text t.pred pred) ts))
    ∙ ap (option_or (copy_of cs pred)) (by (same_text t.pred pred))
  where
    by : (v : Bool) → option_or (cond v (Some (new_copy t)) None) (option_map new_copy (find (λ t. same_text t.pred pred) ts)) ≡ option_map new_copy (cond v (Some t) (find (λ t. same_text t.pred pred) ts))
    by true = refl
    by false = refl

-- a record leaves which copies there are
pub found_after : (rec : Record) (cs : List Copied) (pred : List ℕ) → option_map standing_of (copy_of (map (copy_after rec) cs) pred) ≡ option_map standing_of (copy_of cs pred)
found_after rec [] pred = refl
found_after rec (c ∷ cs) pred = by (is_copy_of pred c) (found_after rec cs pred)
  where
    by : (v : Bool) → option_map standing_of (copy_of (map (copy_after rec) cs) pred) ≡ option_map standing_of (copy_of cs pred) → option_map standing_of (cond v (Some (copy_after rec c)) (copy_of (map (copy_after rec) cs) pred)) ≡ option_map standing_of (cond v (Some c) (copy_of cs pred))
    by true rest = refl
    by false rest = rest

after_above : (rec : Record) (c : Copied) (cs : List Copied) → AllByRecursion (λ w. copied_cmp c w ≡ Less) cs → AllByRecursion (λ w. copied_cmp (copy_after rec c) w ≡ Less) (map (copy_after rec) cs)
after_above rec c [] a = tt
after_above rec c (d ∷ cs) a = (a.0, after_above rec c cs a.1)

pub after_ascend : (rec : Record) (cs : List Copied) → Ascends copied_cmp cs → Ascends copied_cmp (map (copy_after rec) cs)
after_ascend rec [] a = tt
after_ascend rec (c ∷ cs) a = (after_above rec c cs a.0, after_ascend rec cs a.1)

pub all_after : (P Q : Copied → Type 0) (rec : Record) (cs : List Copied) → ((c : Copied) → P c → Q (copy_after rec c)) → AllByRecursion P cs → AllByRecursion Q (map (copy_after rec) cs)
all_after P Q rec [] f a = tt
all_after P Q rec (c ∷ cs) f a = (f c a.0, all_after P Q rec cs f a.1)

-- ---- the copies of new tablets

module _ (h : List Entry) (number : ℕ) (pred : List ℕ) where
  abbrev here : Tablet → Bool
  here t = t.group == number

  abbrev mine : Tablet → Bool
  mine t = same_text t.pred pred

  came_at : (t : Tablet) → IsAsItCame h number t → mine t ≡ true → copy_at (copies h) pred number ≡ cond (here t) (Some (fresh_copy t)) None
  came_at t a e = subst (λ (n : List ℕ). copy_at (copies h) n number ≡ cond (here t) (Some (fresh_copy t)) None) (is_one text_cmp text_order t.pred pred e) a

  -- where the history has no copy there, none is given
  pub none_given : (ts : List Tablet) → AllByRecursion (IsAsItCame h number) ts → copy_at (copies h) pred number ≡ None → find mine (filter here ts) ≡ None
  none_given [] a e = refl
  none_given (t ∷ ts) a e = by (here t) (mine t) refl refl (none_given ts a.1 e)
    where
      by : (v w : Bool) → here t ≡ v → mine t ≡ w → find mine (filter here ts) ≡ None → find mine (cond v (t ∷ filter here ts) (filter here ts)) ≡ None
      by true true p q rest =
          let is : copy_at (copies h) pred number ≡ Some (fresh_copy t) = came_at t a.0 q ∙ (λ i. cond (p i) (Some (fresh_copy t)) None) in
          absurd (cc)
      by true false p q rest = (λ i. cond (q i) (Some t) (find mine (filter here ts))) ∙ rest
      by false w p q rest = rest

  -- where a new tablet is of the predicate, its copy is given as the history has it
  pub given : (ts : List Tablet) → AllByRecursion (IsAsItCame h number) ts → has_tablet pred ts ≡ true → option_map standing_of (option_map new_copy (find mine (filter here ts))) ≡ option_map standing_in (copy_at (copies h) pred number)
  given [] a e = absurd (cc)
  given (t ∷ ts) a e = by (here t) (mine t) refl refl e (λ k. given ts a.1 k)
    where
      by : (v w : Bool) → here t ≡ v → mine t ≡ w → (w || has_tablet pred ts) ≡ true → (has_tablet pred ts ≡ true → option_map standing_of (option_map new_copy (find mine (filter here ts))) ≡ option_map standing_in (copy_at (copies h) pred number)) → option_map standing_of (option_map new_copy (find mine (cond v (t ∷ filter here ts) (filter here ts)))) ≡ option_map standing_in (copy_at (copies h) pred number)
      by true true p q k rest =
          (λ i. option_map standing_of (option_map new_copy (cond (q i) (Some t) (find mine (filter here ts)))))
          ∙ sym (ap (option_map standing_in) (came_at t a.0 q ∙ (λ i. cond (p i) (Some (fresh_copy t)) None)))
      by true false p q k rest = (λ i. option_map standing_of (option_map new_copy (cond (q i) (Some t) (find mine (filter here ts))))) ∙ rest k
      by false true p q k rest =
          let is : copy_at (copies h) pred number ≡ None = came_at t a.0 q ∙ (λ i. cond (p i) (Some (fresh_copy t)) None) in
          (λ i. option_map standing_of (option_map new_copy (none_given ts a.1 is i))) ∙ sym (ap (option_map standing_in) is)
      by false false p q k rest = rest k

  -- where no new tablet is of the predicate, none is given
  pub not_given : (ts : List Tablet) → has_tablet pred ts ≡ false → find mine (filter here ts) ≡ None
  not_given [] e = refl
  not_given (t ∷ ts) e = by (here t) (mine t) refl e (λ k. not_given ts k)
    where
      by : (v w : Bool) → mine t ≡ w → (w || has_tablet pred ts) ≡ false → (has_tablet pred ts ≡ false → find mine (filter here ts) ≡ None) → find mine (cond v (t ∷ filter here ts) (filter here ts)) ≡ None
      by v true q k rest = absurd (cc)
      by true false q k rest = (λ i. cond (q i) (Some t) (find mine (filter here ts))) ∙ rest k
      by false false q k rest = rest k
