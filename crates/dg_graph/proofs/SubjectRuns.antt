-- The triples of a subject stand together in a list that ascends.
use Rattle.std.proofs.Common.{◌≡◌, ℕ, zero, suc, ◌<◌, ◌≤◌, ◌-◌, ◌⊎◌, inl, inr, Bool, true, false, List, [], ◌∷◌, length, get_or, refl, ap, sym, ◌∙◌, arith}
use Rattle.std.specs.List.{AllByRecursion, AllWithin}
use Rattle.std.specs.List.Sorted.{IsPartitionedBy}
use Rattle.std.specs.declared.cmp.Ordering.{Ordering}
use Rattle.std.specs.declared.cmp.Ordering.TheVariants.{Less, Equal, Greater}
use Rattle.std.specs.Ordering.{nat_cmp, ordering_then, is_eq, is_lt, is_le}
use Rattle.dg_values.specs.Order.{text_cmp, posting_cmp, IsOrder}
use Rattle.dg_values.specs.Ascending.{Ascends}
use Rattle.dg_values.specs.declared.value.Posting.{Posting}
use Rattle.dg_sets.proofs.MadeOrders.{nat_order, text_order, then_order, then_parts}
use Rattle.dg_sets.proofs.Sets.{back, forth}
use Rattle.dg_graph.specs.Graphs.{triple_cmp, is_of_subject}
use Rattle.dg_graph.specs.Subjects.{subject_cmp, IsRun}
use Rattle.dg_graph.specs.declared.change.Triple.{Triple}
use Rattle.dg_graph.proofs.GraphLaws.{triple_order, same_subject, of_subject}

-- ---- orders, one behind the other

joined : (x y z : Ordering) → ordering_then x (ordering_then y z) ≡ ordering_then (ordering_then x y) z
joined Less y z = refl
joined Equal y z = refl
joined Greater y z = refl

then_less : (x y z : Ordering) → ordering_then x y ≡ Less → ordering_then x (ordering_then y z) ≡ Less
then_less x y z e = joined x y z ∙ ap (λ (v : Ordering). ordering_then v z) e

then_greater : (x y z : Ordering) → ordering_then x y ≡ Greater → ordering_then x (ordering_then y z) ≡ Greater
then_greater x y z e = joined x y z ∙ ap (λ (v : Ordering). ordering_then v z) e

-- a predicate and a subject
abbrev key_cmp : List ℕ × ℕ → List ℕ × ℕ → Ordering
key_cmp a b = ordering_then (text_cmp a.0 b.0) (nat_cmp a.1 b.1)

key_order : IsOrder key_cmp
key_order = then_order (λ (a : List ℕ × ℕ). a.0) (λ a. a.1) text_cmp nat_cmp text_order nat_order (λ x y e f. λ i. (e i, f i))

-- what comes before comes before by predicate and subject, or has the same
key_rises : (t u : Triple) → triple_cmp t u ≡ Less → (v : Ordering) → key_cmp (t.p, t.s) (u.p, u.s) ≡ v → (v ≡ Less) ⊎ (v ≡ Equal)
key_rises t u e Less f = inl refl
key_rises t u e Equal f = inr refl
key_rises t u e Greater f = absurd (let g = then_greater (text_cmp t.p u.p) (nat_cmp t.s u.s) (posting_cmp t.o u.o) f in cc)

module _ (p : List ℕ) (s : ℕ) where
  abbrev pub is_before : Triple → Bool
  is_before t = is_lt (subject_cmp p s t)

  abbrev pub isnt_behind : Triple → Bool
  isnt_behind t = is_le (subject_cmp p s t)

  -- what comes before a triple that comes before the subject's comes before them too
  before_before : (t u : Triple) → triple_cmp t u ≡ Less → is_before u ≡ true → is_before t ≡ true
  before_before t u e b = by (key_cmp (t.p, t.s) (u.p, u.s)) refl (key_rises t u e (key_cmp (t.p, t.s) (u.p, u.s)) refl) (subject_cmp p s u) refl b
    where
      by : (v : Ordering) → key_cmp (t.p, t.s) (u.p, u.s) ≡ v → (v ≡ Less) ⊎ (v ≡ Equal) → (w : Ordering) → subject_cmp p s u ≡ w → is_lt w ≡ true → is_lt (subject_cmp p s t) ≡ true
      by v f (inl l) Less g h = ap is_lt (key_order.trans (t.p, t.s) (u.p, u.s) (p, s) (f ∙ l) g)
      by v f (inr l) Less g h = ap (λ (k : List ℕ × ℕ). is_lt (key_cmp k (p, s))) (key_order.same (t.p, t.s) (u.p, u.s) (f ∙ l)) ∙ ap is_lt g
      by v f c Equal g h = absurd (cc)
      by v f c Greater g h = absurd (cc)

  before_not_behind : (t u : Triple) → triple_cmp t u ≡ Less → isnt_behind u ≡ true → isnt_behind t ≡ true
  before_not_behind t u e b = by (key_cmp (t.p, t.s) (u.p, u.s)) refl (key_rises t u e (key_cmp (t.p, t.s) (u.p, u.s)) refl) (subject_cmp p s u) refl b
    where
      by : (v : Ordering) → key_cmp (t.p, t.s) (u.p, u.s) ≡ v → (v ≡ Less) ⊎ (v ≡ Equal) → (w : Ordering) → subject_cmp p s u ≡ w → is_le w ≡ true → is_le (subject_cmp p s t) ≡ true
      by v f (inl l) Less g h = ap is_le (key_order.trans (t.p, t.s) (u.p, u.s) (p, s) (f ∙ l) g)
      by v f (inl l) Equal g h = ap (λ (k : List ℕ × ℕ). is_le (key_cmp (t.p, t.s) k)) (sym (key_order.same (u.p, u.s) (p, s) g)) ∙ ap is_le (f ∙ l)
      by v f (inr l) w g h = ap (λ (k : List ℕ × ℕ). is_le (key_cmp k (p, s))) (key_order.same (t.p, t.s) (u.p, u.s) (f ∙ l)) ∙ b
      by v f (inl l) Greater g h = absurd (cc)

  -- one of all
  all_at : (P : Triple → Type 0) (ts : List Triple) (j : ℕ) (d : Triple) → j < length ts → AllByRecursion P ts → P (get_or ts j d)
  all_at P [] j d lt a = absurd (omega arith)
  all_at P (t ∷ ts) zero d lt a = a.0
  all_at P (t ∷ ts) (suc j) d lt a = all_at P ts j d (omega arith) a.1

  parted : (f : Triple → Bool) → ((t u : Triple) → triple_cmp t u ≡ Less → f u ≡ true → f t ≡ true) → (ts : List Triple) → Ascends triple_cmp ts → IsPartitionedBy f ts
  parted f down [] a i j d le lt e = absurd (omega arith)
  parted f down (t ∷ ts) a zero zero d le lt e = e
  parted f down (t ∷ ts) a zero (suc j) d le lt e =
      down t (get_or ts j d) (all_at (λ u. triple_cmp t u ≡ Less) ts j d (omega arith) a.0) e
  parted f down (t ∷ ts) a (suc i) zero d le lt e = absurd (omega arith)
  parted f down (t ∷ ts) a (suc i) (suc j) d le lt e = parted f down ts a.1 i j d (omega arith) (omega arith) e

  pub parted_before : (ts : List Triple) → Ascends triple_cmp ts → IsPartitionedBy is_before ts
  parted_before = parted is_before before_before

  pub parted_behind : (ts : List Triple) → Ascends triple_cmp ts → IsPartitionedBy isnt_behind ts
  parted_behind = parted isnt_behind before_not_behind

  -- ---- a triple before those of the subject, of it, and behind them

  own_key : (t : Triple) → is_of_subject p s t ≡ true → subject_cmp p s t ≡ Equal
  own_key t e =
      let both = same_subject p s t e in
      ap (λ (k : List ℕ × ℕ). key_cmp k (p, s)) (λ i. (both.0 i, both.1 i)) ∙ key_order.itself (p, s)

  foreign : (t : Triple) (v : Ordering) → subject_cmp p s t ≡ v → is_eq v ≡ false → is_of_subject p s t ≡ false
  foreign t v e f = by (is_of_subject p s t) refl
    where
      by : (b : Bool) → is_of_subject p s t ≡ b → b ≡ false
      by true g = absurd (let k = own_key t g in cc)
      by false g = refl

  own : (t : Triple) → subject_cmp p s t ≡ Equal → is_of_subject p s t ≡ true
  own t e =
      let both = then_parts (text_cmp t.p p) (nat_cmp t.s s) e in
      of_subject p s t (text_order.same t.p p both.0) (nat_order.same t.s s both.1)

  after_lesser : (t : Triple) (o : Posting) → subject_cmp p s t ≡ Less → triple_cmp (record { s = s; p = p; o = o }) t ≡ Greater
  after_lesser t o e = back triple_cmp triple_order t (record { s = s; p = p; o = o }) (then_less (text_cmp t.p p) (nat_cmp t.s s) (posting_cmp t.o o) e)

  before_greater : (t : Triple) (o : Posting) → subject_cmp p s t ≡ Greater → triple_cmp (record { s = s; p = p; o = o }) t ≡ Less
  before_greater t o e = forth triple_cmp triple_order t (record { s = s; p = p; o = o }) (then_greater (text_cmp t.p p) (nat_cmp t.s s) (posting_cmp t.o o) e)

  -- ---- the run

  run_behind : (t : Triple) (ts : List Triple) (i j : ℕ) → subject_cmp p s t ≡ Less → IsRun p s ts i j → IsRun p s (t ∷ ts) (suc i) (suc j)
  run_behind t ts i j e r =
      let no : is_of_subject p s t ≡ false = foreign t Less e refl in
      let len : suc j - suc i ≡ j - i = omega arith in
      record {
        order = omega (arith, r.order);
        within = omega (arith, r.within);
        together = rw no (rw len r.together);
        others = rw no (ap (λ (us : List Triple). t ∷ us) r.others);
        replaced = λ o. let g : triple_cmp (record { s = s; p = p; o = o }) t ≡ Greater = after_lesser t o e in rw no (rw g (ap (λ (us : List Triple). t ∷ us) (r.replaced o)));
      }

  run_longer : (t : Triple) (ts : List Triple) (j : ℕ) → subject_cmp p s t ≡ Equal → IsRun p s ts 0 j → IsRun p s (t ∷ ts) 0 (suc j)
  run_longer t ts j e r =
      let yes : is_of_subject p s t ≡ true = own t e in
      let len : suc j - 0 ≡ suc j = omega arith in
      let rest : j - 0 ≡ j = omega arith in
      record {
        order = omega arith;
        within = omega (arith, r.within);
        together = rw yes (rw len (ap (λ (us : List Triple). t ∷ us) (r.together ∙ rw rest refl)));
        others = rw yes r.others;
        replaced = λ o. rw yes (r.replaced o);
      }

  run_none : (t : Triple) (ts : List Triple) → subject_cmp p s t ≡ Greater → IsRun p s ts 0 0 → IsRun p s (t ∷ ts) 0 0
  run_none t ts e r =
      let no : is_of_subject p s t ≡ false = foreign t Greater e refl in
      record {
        order = omega arith;
        within = omega arith;
        together = rw no r.together;
        others = rw no (ap (λ (us : List Triple). t ∷ us) r.others);
        replaced = λ o. let l : triple_cmp (record { s = s; p = p; o = o }) t ≡ Less = before_greater t o e in rw no (rw l (ap (λ (us : List Triple). (record { s = s; p = p; o = o }) ∷ t ∷ us) r.others));
      }

  pub run : (ts : List Triple) (i j : ℕ) → i ≤ length ts → j ≤ length ts → AllWithin (λ t. is_before t ≡ true) ts 0 i → AllWithin (λ t. is_before t ≡ false) ts i (length ts) → AllWithin (λ t. isnt_behind t ≡ true) ts 0 j → AllWithin (λ t. isnt_behind t ≡ false) ts j (length ts) → IsRun p s ts i j
  run [] zero zero li lj a b c d = record { order = omega arith; within = omega arith; together = refl; others = refl; replaced = λ o. refl }
  run [] zero (suc j) li lj a b c d = absurd (omega arith)
  run [] (suc i) j li lj a b c d = absurd (omega arith)
  run (t ∷ ts) (suc i) (suc j) li lj a b c d =
      run_behind t ts i j (less (subject_cmp p s t) (a zero t (omega arith) (omega arith)))
      (run ts i j (omega arith) (omega arith) (λ k x m n. a (suc k) x (omega arith) (omega arith)) (λ k x m n. b (suc k) x (omega arith) (omega arith)) (λ k x m n. c (suc k) x (omega arith) (omega arith)) (λ k x m n. d (suc k) x (omega arith) (omega arith)))
    where
      less : (v : Ordering) → is_lt v ≡ true → v ≡ Less
      less Less e = refl
      less Equal e = absurd (cc)
      less Greater e = absurd (cc)
  run (t ∷ ts) (suc i) zero li lj a b c d =
      absurd (clash (subject_cmp p s t) (a zero t (omega arith) (omega arith)) (d zero t (omega arith) (omega arith)))
    where
      clash : (v : Ordering) → is_lt v ≡ true → is_le v ≡ false → ⊥
      clash Less e f = cc
      clash Equal e f = cc
      clash Greater e f = cc
  run (t ∷ ts) zero (suc j) li lj a b c d =
      run_longer t ts j (equal (subject_cmp p s t) (b zero t (omega arith) (omega arith)) (c zero t (omega arith) (omega arith)))
      (run ts zero j (omega arith) (omega arith) (λ k x m n. absurd (omega arith)) (λ k x m n. b (suc k) x (omega arith) (omega arith)) (λ k x m n. c (suc k) x (omega arith) (omega arith)) (λ k x m n. d (suc k) x (omega arith) (omega arith)))
    where
      equal : (v : Ordering) → is_lt v ≡ false → is_le v ≡ true → v ≡ Equal
      equal Less e f = absurd (cc)
      equal Equal e f = refl
      equal Greater e f = absurd (cc)
  run (t ∷ ts) zero zero li lj a b c d =
      run_none t ts (greater (subject_cmp p s t) (d zero t (omega arith) (omega arith)))
      (run ts zero zero (omega arith) (omega arith) (λ k x m n. absurd (omega arith)) (λ k x m n. b (suc k) x (omega arith) (omega arith)) (λ k x m n. absurd (omega arith)) (λ k x m n. d (suc k) x (omega arith) (omega arith)))
    where
      greater : (v : Ordering) → is_le v ≡ false → v ≡ Greater
      greater Less e = absurd (cc)
      greater Equal e = absurd (cc)
      greater Greater e = refl
