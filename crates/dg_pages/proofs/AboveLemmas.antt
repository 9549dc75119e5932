-- The first key above one.
use Rattle.std.proofs.Common.{◌≡◌, ◌∙◌, sym, ap, refl, arith, ℕ, zero, suc, ◌<◌, ◌≤◌, List, [], ◌∷◌, ◌++◌, true, false, cond, get_or, length}
use Rattle.std.specs.Prelude.{Some, None}
use Rattle.std.specs.Arc.{arc_value}
use Rattle.std.specs.declared.sync.Arc.{Arc}
use Rattle.std.specs.declared.alloc.Global.{Global}
use Rattle.std.specs.declared.cmp.Ordering.{Ordering}
use Rattle.std.specs.declared.cmp.Ordering.TheVariants.{Less, Greater}
use Rattle.std.specs.Ordering.{is_lt, is_le}
use Rattle.std.specs.Cmp.{IsTotalOrder}
use Rattle.std.specs.List.{AllByRecursion}
use Rattle.std.specs.List.Sorted.{IsPartitionedBy, IsPartitionPoint}
use Rattle.std.specs.Option.{option_or}
use Rattle.std.proofs.lemmas.Cmp.{tied_back}
use Rattle.std.proofs.lemmas.List.Folds.{find-append}
use Rattle.dg_sets.proofs.Merges.{all_at, turned, turned_back}
use Rattle.dg_pages.specs.Entries.{entry, entries_of, entry_above, IsMap}
use Rattle.dg_pages.specs.Paged.{joined, Part}
use Rattle.dg_pages.proofs.Cases.{by_order}
use Rattle.dg_pages.proofs.JoinLemmas.{joined-append, all_below}

module _ {K : Type 0} {R : K → K → Ordering} (o : IsTotalOrder R) where
  upto_below : (x y k : K) → R x y ≡ Less → is_le (R y k) ≡ true → is_le (R x k) ≡ true
  upto_below x y k l u =
      by_order (R y k)
      (λ p. ap is_le (o.trans x y k l p))
      (λ p. let z = turned_back R o k x (o.congr k y x (tied_back o y k p) ∙ turned R o x y l) in ap is_le z)
      (λ p. let bad : false ≡ true = rw p at u in cc)

  pub not_above : (q k : K) → is_le (R q k) ≡ true → is_lt (R k q) ≡ false
  not_above q k u =
      by_order (R q k)
      (λ p. ap is_lt (turned R o q k p))
      (λ p. ap is_lt (tied_back o q k p))
      (λ p. let bad : false ≡ true = rw p at u in cc)

  pub is_above : (q k : K) → is_le (R q k) ≡ false → is_lt (R k q) ≡ true
  is_above q k n =
      by_order (R q k)
      (λ p. let bad : true ≡ false = rw p at n in cc)
      (λ p. let bad : true ≡ false = rw p at n in cc)
      (λ p. ap is_lt (turned_back R o q k p))

module _ {K V : Type 0} {R : K → K → Ordering} (o : IsTotalOrder R) where
  all_pairs : (k : K) (ps : List (Arc K Global × Arc V Global)) → AllByRecursion (λ e. R k e.0 ≡ Less) (entries_of ps) → AllByRecursion (λ p. R k (arc_value p.0) ≡ Less) ps
  all_pairs k [] a = tt
  all_pairs k (p ∷ ps) a = (a.0, all_pairs k ps a.1)

  pub upto_parted : (ps : List (Arc K Global × Arc V Global)) (k : K) → IsMap R (entries_of ps) → IsPartitionedBy (λ p. is_le (R (arc_value p.0) k)) ps
  upto_parted [] k s i j d le lt e = absurd (omega arith)
  upto_parted (p ∷ ps) k s zero zero d le lt e = e
  upto_parted (p ∷ ps) k s zero (suc j) d le lt e =
      upto_below o (arc_value p.0) (arc_value (get_or ps j d).0) k (all_at (λ q. R (arc_value p.0) (arc_value q.0) ≡ Less) ps j d (all_pairs (arc_value p.0) ps s.0) (omega arith)) e
  upto_parted (p ∷ ps) k s (suc i) zero d le lt e = absurd (omega arith)
  upto_parted (p ∷ ps) k s (suc i) (suc j) d le lt e = upto_parted ps k s.1 i j d (omega arith) (omega arith) e

  abbrev pub Parts : List (Arc K Global × Arc V Global) → K → ℕ → Type 0
  Parts ps k i = IsPartitionPoint (λ p. is_le (R (arc_value p.0) k) ≡ true) (λ p. is_le (R (arc_value p.0) k) ≡ false) ps i

  skip_upto : (p : Arc K Global × Arc V Global) (ps : List (Arc K Global × Arc V Global)) (k : K) → is_le (R (arc_value p.0) k) ≡ true → entry_above R k (entries_of (p ∷ ps)) ≡ entry_above R k (entries_of ps)
  skip_upto p ps k u = ap (λ b. cond b (Some (entry p)) (entry_above R k (entries_of ps))) (not_above o (arc_value p.0) k u)

  pub above_at : (ps : List (Arc K Global × Arc V Global)) (k : K) (i : ℕ) (p : Arc K Global × Arc V Global) → Parts ps k i → i < length ps → p ≡ get_or ps i p → entry_above R k (entries_of ps) ≡ Some (entry p)
  above_at [] k i p w h is = absurd (omega arith)
  above_at (q ∷ ps) k zero p w h is =
      ap (λ b. cond b (Some (entry q)) (entry_above R k (entries_of ps))) (is_above o (arc_value q.0) k (w.1 0 q (omega arith) (omega arith))) ∙ ap (λ (x : Arc K Global × Arc V Global). Some (entry x)) (sym is)
  above_at (q ∷ ps) k (suc i) p w h is =
      skip_upto q ps k (w.0 0 q (omega arith) (omega arith))
      ∙ above_at ps k i p ((λ j d low high. w.0 (suc j) d (omega arith) (omega arith)), (λ j d low high. w.1 (suc j) d (omega arith) (omega arith))) (omega arith) is

  pub above_none : (ps : List (Arc K Global × Arc V Global)) (k : K) (i : ℕ) → Parts ps k i → length ps ≤ i → entry_above R k (entries_of ps) ≡ None
  above_none [] k i w h = refl
  above_none (q ∷ ps) k zero w h = absurd (omega arith)
  above_none (q ∷ ps) k (suc i) w h =
      skip_upto q ps k (w.0 0 q (omega arith) (omega arith))
      ∙ above_none ps k i ((λ j d low high. w.0 (suc j) d (omega arith) (omega arith)), (λ j d low high. w.1 (suc j) d (omega arith) (omega arith))) (omega arith)

  -- ---- on both sides of a fork

  above_behind : (k : K) (l r : List (K × V)) → AllByRecursion (λ e. R k e.0 ≡ Greater) l → entry_above R k r ≡ entry_above R k (l ++ r)
  above_behind k [] r a = refl
  above_behind k (e ∷ l) r a = above_behind k l r a.1 ∙ sym (ap (λ t. cond (is_lt t) (Some e) (entry_above R k (l ++ r))) a.0)

  pub above_both : (k : K) (a b : List (List (K × V))) → option_or (entry_above R k (joined a)) (entry_above R k (joined b)) ≡ entry_above R k (joined (a ++ b))
  above_both k a b = sym (find-append (λ e. is_lt (R k e.0)) (joined a) (joined b)) ∙ ap (entry_above R k) (sym (joined-append a b))

  pub above_high : (k m : K) (a b : List (List (K × V))) → is_lt (R k m) ≡ false → Part R m (joined a) (joined b) → entry_above R k (joined b) ≡ entry_above R k (joined (a ++ b))
  above_high k m a b n p = above_behind k (joined a) (joined b) (all_below o k m (joined a) n p.below) ∙ ap (entry_above R k) (sym (joined-append a b))
