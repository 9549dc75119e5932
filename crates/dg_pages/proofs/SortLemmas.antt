-- Changes sorted by key, where those of one key keep their order, of which the first of each key is kept.
use Rattle.std.proofs.Common.{◌≡◌, ◌∙◌, sym, ap, refl, List, [], ◌∷◌, Bool, true, false, cond, map}
use Rattle.std.specs.Prelude.{Option, Some, None, ◌&&◌, not, filter}
use Rattle.std.specs.declared.cmp.Ordering.{Ordering}
use Rattle.std.specs.declared.cmp.Ordering.TheVariants.{Less, Equal, Greater}
use Rattle.std.specs.Ordering.{is_lt, is_eq, eq_by_cmp, ordering_reverse, on}
use Rattle.std.specs.Cmp.{IsTotalOrder, on_total, tied_itself}
use Rattle.std.specs.List.{AllByRecursion, dedup, dedup_from}
use Rattle.std.specs.List.Sorted.{IsStableBy, IsSortedBy, IsStrictlySortedBy, ties}
use Rattle.std.proofs.lemmas.Cmp.{alike_right}
use mathlib.Core.List.{reverse, reverse_aux}
use Rattle.std.proofs.lemmas.List.Kept.{IsStrictlySortedBy-dedup}
use Rattle.dg_values.specs.Ascending.{Ascends}
use Rattle.dg_sets.proofs.Sets.{all_with}
use Rattle.dg_sets.proofs.Merges.{turned_back}
use Rattle.dg_pages.specs.Entries.{with_entry, without_entry, changed, changed_all, IsMap}
use Rattle.dg_pages.specs.Runs.{IsRun, ChangeAlike}
use Rattle.dg_pages.proofs.Cases.{by_order}
use Rattle.dg_pages.proofs.RunLemmas.{map_changed, map_changes}

module _ {K V : Type 0} (R : K → K → Ordering) where
  -- the entry at a key, where there is one
  abbrev pub entry_at : K → List (K × V) → Option (K × V)
  entry_at q [] = None
  entry_at q (e ∷ es) = cond (is_eq (R q e.0)) (Some e) (entry_at q es)

  -- the entry that a change makes
  abbrev pub made : K × Option V → Option (K × V)
  made (k, None) = None
  made (k, Some v) = Some (k, v)

  -- the entry at a key after changes in turn
  abbrev pub last_said : K → List (K × Option V) → Option (K × V) → Option (K × V)
  last_said q [] was = was
  last_said q (c ∷ cs) was = last_said q cs (cond (is_eq (R q c.0)) (made c) was)

  -- what the first change of a key makes of its entry
  abbrev pub first_said : K → List (K × Option V) → Option (K × V) → Option (K × V)
  first_said q [] was = was
  first_said q (c ∷ cs) was = cond (is_eq (R q c.0)) (made c) (first_said q cs was)

module _ {K V : Type 0} {R : K → K → Ordering} (o : IsTotalOrder R) where
  none_at : (q : K) (es : List (K × V)) → AllByRecursion (λ e. R q e.0 ≡ Less) es → entry_at R q es ≡ None
  none_at q [] a = refl
  none_at q (e ∷ es) a = rw a.0 (none_at q es a.1)

  below_all : (q k : K) (es : List (K × V)) → R q k ≡ Equal → AllByRecursion (λ e. R k e.0 ≡ Less) es → AllByRecursion (λ e. R q e.0 ≡ Less) es
  below_all q k es t a = all_with (λ e. R k e.0 ≡ Less) (λ e. R q e.0 ≡ Less) es (λ e l. o.congr q k e.0 t ∙ l) a

  under_all : (q k : K) (es : List (K × V)) → R q k ≡ Less → AllByRecursion (λ e. R k e.0 ≡ Less) es → AllByRecursion (λ e. R q e.0 ≡ Less) es
  under_all q k es t a = all_with (λ e. R k e.0 ≡ Less) (λ e. R q e.0 ≡ Less) es (λ e l. o.trans q k e.0 t l) a

  -- two maps with the same entry at each key are one list
  pub one_map : (es fs : List (K × V)) → IsMap R es → IsMap R fs → ((q : K) → entry_at R q es ≡ entry_at R q fs) → es ≡ fs
  one_map [] [] s t h = refl
  one_map [] (f ∷ fs) s t h = let bad : None ≡ Some f = rw (tied_itself o f.0) at (h f.0) in cc
  one_map (e ∷ es) [] s t h = let bad : Some e ≡ None = rw (tied_itself o e.0) at (h e.0) in cc
  one_map (e ∷ es) (f ∷ fs) s t h =
      by_order (R e.0 f.0)
      (λ l.
      let bad : Some e ≡ None = rw (tied_itself o e.0) at (h e.0) ∙ none_at e.0 (f ∷ fs) (l, under_all e.0 f.0 fs l t.0) in cc)
      (λ q.
      let same : Some e ≡ Some f = rw (tied_itself o e.0, q) at (h e.0) in
      let first : e ≡ f = cc in
      let rest = one_map es fs s.1 t.1
      (λ k. by_order (R k e.0)
      (λ l. let tail : entry_at R k es ≡ entry_at R k fs = rw (l, sym (alike_right o e.0 f.0 k q) ∙ l) at (h k) in tail)
      (λ m. none_at k es (below_all k e.0 es m s.0) ∙ sym (none_at k fs (below_all k f.0 fs (sym (alike_right o e.0 f.0 k q) ∙ m) t.0)))
      (λ l. let tail : entry_at R k es ≡ entry_at R k fs = rw (l, sym (alike_right o e.0 f.0 k q) ∙ l) at (h k) in tail)) in
      (λ i. first i ∷ rest i))
      (λ g.
      let back = turned_back R o e.0 f.0 g in
      let bad : None ≡ Some f = sym (none_at f.0 (e ∷ es) (back, under_all f.0 e.0 es back s.0)) ∙ rw (tied_itself o f.0) at (h f.0) in cc)

  -- ---- what a change makes of each entry

  at_with : (q k : K) (v : V) (es : List (K × V)) → entry_at R q (with_entry R k v es) ≡ cond (is_eq (R q k)) (Some (k, v)) (entry_at R q es)
  at_with q k v [] = refl
  at_with q k v (e ∷ es) =
      by_order (R k e.0)
      (λ l. rw l refl)
      (λ t. rw (t, sym (alike_right o k e.0 q t)) (twice (is_eq (R q k))))
      (λ g. rw (g, at_with q k v es) (apart g))
    where
      twice : (b : Bool) → cond b (Some (k, v)) (entry_at R q es) ≡ cond b (Some (k, v)) (cond b (Some e) (entry_at R q es))
      twice true = refl
      twice false = refl

      apart : R k e.0 ≡ Greater → cond (is_eq (R q e.0)) (Some e) (cond (is_eq (R q k)) (Some (k, v)) (entry_at R q es)) ≡ cond (is_eq (R q k)) (Some (k, v)) (cond (is_eq (R q e.0)) (Some e) (entry_at R q es))
      apart g = by_order (R q e.0) (λ l. rw l refl) (λ t. rw (t, o.congr q e.0 k t ∙ turned_back R o k e.0 g) refl) (λ l. rw l refl)

  at_without : (q k : K) (es : List (K × V)) → IsMap R es → entry_at R q (without_entry R k es) ≡ cond (is_eq (R q k)) None (entry_at R q es)
  at_without q k [] s = none (is_eq (R q k))
    where
      none : (b : Bool) → ◌≡◌ {A = Option (K × V)} None (cond b None None)
      none true = refl
      none false = refl
  at_without q k (e ∷ es) s =
      by_order (R k e.0)
      (λ l. rw l (by_order (R q k)
      (λ p. rw p refl)
      (λ p. rw p (none_at q (e ∷ es) (o.congr q k e.0 p ∙ l, below_all q k es p (under_all k e.0 es l s.0))))
      (λ p. rw p refl)))
      (λ t. rw (t, sym (alike_right o k e.0 q t)) (by_order (R q k)
      (λ p. rw p refl)
      (λ p. rw p (none_at q es (below_all q k es p (below_all k e.0 es t s.0))))
      (λ p. rw p refl)))
      (λ g. rw (g, at_without q k es s.1) (by_order (R q e.0) (λ l. rw l refl) (λ t. rw (t, o.congr q e.0 k t ∙ turned_back R o k e.0 g) refl) (λ l. rw l refl)))

  at_changed : (q : K) (c : K × Option V) (es : List (K × V)) → IsMap R es → entry_at R q (changed R es c) ≡ cond (is_eq (R q c.0)) (made R c) (entry_at R q es)
  at_changed q (k, None) es s = at_without q k es s
  at_changed q (k, Some v) es s = at_with q k v es

  pub at_changes : (q : K) (cs : List (K × Option V)) (es : List (K × V)) → IsMap R es → entry_at R q (changed_all R es cs) ≡ last_said R q cs (entry_at R q es)
  at_changes q [] es s = refl
  at_changes q (c ∷ cs) es s = at_changes q cs (changed R es c) (map_changed R o c es s) ∙ ap (λ w. last_said R q cs w) (at_changed q c es s)

  -- ---- one change of each key

  no_more : (q : K) (cs : List (K × Option V)) (was : Option (K × V)) → AllByRecursion (λ c. R q c.0 ≡ Less) cs → last_said R q cs was ≡ was
  no_more q [] was a = refl
  no_more q (c ∷ cs) was a = rw a.0 (no_more q cs was a.1)

  pub first_of_run : (q : K) (cs : List (K × Option V)) (was : Option (K × V)) → IsRun R cs → last_said R q cs was ≡ first_said R q cs was
  first_of_run q [] was s = refl
  first_of_run q (c ∷ cs) was s =
      by_order (R q c.0)
      (λ l. rw l (first_of_run q cs was s.1))
      (λ t. rw t (no_more q cs (made R c) (all_with (λ d. R c.0 d.0 ≡ Less) (λ d. R q d.0 ≡ Less) cs (λ d l. o.congr q c.0 d.0 t ∙ l) s.0)))
      (λ l. rw l (first_of_run q cs was s.1))

-- ---- items that stand for changes

module _ {K V X : Type 0} {R : K → K → Ordering} (o : IsTotalOrder R) (f : X → K × Option V) where
  abbrev key : X → K
  key x = (f x).0

  reversed_onto : (q : K) (xs ys : List X) (was : Option (K × V)) → first_said R q (map f (reverse_aux xs ys)) was ≡ last_said R q (map f xs) (first_said R q (map f ys) was)
  reversed_onto q [] ys was = refl
  reversed_onto q (x ∷ xs) ys was = reversed_onto q xs (x ∷ ys) was

  reversed_said : (q : K) (xs : List X) (was : Option (K × V)) → first_said R q (map f (reverse xs)) was ≡ last_said R q (map f xs) was
  reversed_said q xs was = reversed_onto q xs [] was

  -- the first of each key
  said_from : (k : X) (xs : List X) (q : K) (was : Option (K × V)) → first_said R q (map f (dedup_from (eq_by_cmp (on key R)) k xs)) was ≡ first_said R q (map f (k ∷ xs)) was
  said_from k [] q was = refl
  said_from k (x ∷ xs) q was =
      by_order (R (key x) (key k))
      (λ l. rw l (ap (λ w. cond (is_eq (R q (key k))) (made R (f k)) w) (said_from x xs q was)))
      (λ t. rw t (said_from k xs q was ∙ twice (is_eq (R q (key k))) (is_eq (R q (key x))) (ap is_eq (sym (alike_right o (key x) (key k) q t)))))
      (λ l. rw l (ap (λ w. cond (is_eq (R q (key k))) (made R (f k)) w) (said_from x xs q was)))
    where
      twice : (b c : Bool) → b ≡ c → cond b (made R (f k)) (first_said R q (map f xs) was) ≡ cond b (made R (f k)) (cond c (made R (f x)) (first_said R q (map f xs) was))
      twice true c e = refl
      twice false true e = cc
      twice false false e = refl

  firsts_said : (xs : List X) (q : K) (was : Option (K × V)) → first_said R q (map f (dedup (eq_by_cmp (on key R)) xs)) was ≡ first_said R q (map f xs) was
  firsts_said [] q was = refl
  firsts_said (x ∷ xs) q was = said_from x xs q was

  -- only what is on a key counts for it
  said_by_those : (q : K) (test : X → Bool) → ((x : X) → test x ≡ is_eq (R q (key x))) → (xs : List X) (was : Option (K × V)) → first_said R q (map f (filter test xs)) was ≡ first_said R q (map f xs) was
  said_by_those q test h [] was = refl
  said_by_those q test h (x ∷ xs) was = by (test x) (is_eq (R q (key x))) refl (h x) (said_by_those q test h xs was)
    where
      by : (v w : Bool) → is_eq (R q (key x)) ≡ w → v ≡ w → first_said R q (map f (filter test xs)) was ≡ first_said R q (map f xs) was → first_said R q (map f (cond v (x ∷ filter test xs) (filter test xs))) was ≡ cond w (made R (f x)) (first_said R q (map f xs) was)
      by true w p e rest = ap (λ b. cond b (made R (f x)) (first_said R q (map f (filter test xs)) was)) (p ∙ sym e) ∙ ap (λ b. cond b (made R (f x)) (first_said R q (map f (filter test xs)) was)) e ∙ ap (λ t. cond w (made R (f x)) t) rest
      by false w p e rest = rest ∙ ap (λ b. cond b (made R (f x)) (first_said R q (map f xs) was)) e

  tied : (a b : Ordering) → a ≡ ordering_reverse b → (not (is_lt a) && not (is_lt b)) ≡ is_eq a
  tied a Less e = rw e refl
  tied a Equal e = rw e refl
  tied a Greater e = rw e refl

  ties_on : (q : K) (x : X) → R q (key x) ≡ Equal → (y : X) → ties (λ a b. is_lt (R (key a) (key b))) x y ≡ is_eq (R q (key y))
  ties_on q x t y = tied (R (key x) (key y)) (R (key y) (key x)) (o.antisymm (key x) (key y)) ∙ ap is_eq (sym (o.congr q (key x) (key y) t))

  with_tied : {P : Type 0} (q : K) (xs : List X) → ((x : X) → R q (key x) ≡ Equal → P) → (((was : Option (K × V)) → first_said R q (map f xs) was ≡ was) → P) → P
  with_tied q [] one none = none (λ was. refl)
  with_tied q (x ∷ xs) one none =
      by_order (R q (key x))
      (λ l. with_tied q xs one (λ rest. none (λ was. rw l (rest was))))
      (λ t. one x t)
      (λ l. with_tied q xs one (λ rest. none (λ was. rw l (rest was))))

  -- a stable sort leaves what is said
  sorted_said : (old sorted : List X) → IsStableBy (λ a b. is_lt (R (key a) (key b))) old sorted → (q : K) (was : Option (K × V)) → first_said R q (map f sorted) was ≡ first_said R q (map f old) was
  sorted_said old sorted s q was = with_tied q sorted one (λ none. with_tied q old one (λ neither. none was ∙ sym (neither was)))
    where
      one : (x : X) → R q (key x) ≡ Equal → first_said R q (map f sorted) was ≡ first_said R q (map f old) was
      one x t =
          sym (said_by_those q (ties (λ a b. is_lt (R (key a) (key b))) x) (ties_on q x t) sorted was)
          ∙ ap (λ xs. first_said R q (map f xs) was) (s x)
          ∙ said_by_those q (ties (λ a b. is_lt (R (key a) (key b))) x) (ties_on q x t) old was

  strictly : (xs : List X) → IsStrictlySortedBy (on key R) xs → Ascends (on key R) xs
  unfolding IsStrictlySortedBy
  strictly [] h = tt
  strictly (x ∷ xs) h = (h.0, strictly xs h.1)

  pub firsts_ascend : (xs : List X) → IsSortedBy (λ a b. is_lt (R (key a) (key b))) xs → Ascends (on key R) (dedup (eq_by_cmp (on key R)) xs)
  firsts_ascend xs s = strictly (dedup (eq_by_cmp (on key R)) xs) (IsStrictlySortedBy-dedup (on_total key o) (λ x y. refl) xs s)

  -- the last change of each key does what all of them do in turn
  pub lasts_alike : (old sorted kept : List X) → IsStableBy (λ a b. is_lt (R (key a) (key b))) (reverse old) sorted → kept ≡ dedup (eq_by_cmp (on key R)) sorted → IsRun R (map f kept) → ChangeAlike R (map f old) (map f kept)
  lasts_alike old sorted kept s k run es m =
      one_map o (changed_all R es (map f kept)) (changed_all R es (map f old)) (map_changes R o (map f kept) es m) (map_changes R o (map f old) es m)
      (λ q. let was = entry_at R q es in
      at_changes o q (map f kept) es m
      ∙ first_of_run o q (map f kept) was run
      ∙ ap (λ xs. first_said R q (map f xs) was) k
      ∙ firsts_said sorted q was
      ∙ sorted_said (reverse old) sorted s q was
      ∙ reversed_said q old was
      ∙ sym (at_changes o q (map f old) es m))
