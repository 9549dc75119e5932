-- One pair put into a page, and into one side of a fork.
use Rattle.std.proofs.Common.{◌≡◌, ◌∙◌, sym, ap, subst, refl, arith, ℕ, zero, suc, ◌+◌, ◌<◌, ◌≤◌, List, [], ◌∷◌, ◌++◌, Bool, true, false, cond, length, take, drop, slice_set}
use Rattle.std.specs.Prelude.{Some, Result, Ok, Err, IfOk, OnErr}
use Rattle.std.specs.declared.vec.Vec.{Vec}
use Rattle.std.specs.Arc.{arc_value}
use Rattle.std.specs.declared.sync.Arc.{Arc}
use Rattle.std.specs.declared.alloc.Global.{Global}
use Rattle.std.specs.declared.cmp.Ordering.{Ordering}
use Rattle.std.specs.Ordering.{is_lt}
use Rattle.std.specs.Cmp.{IsTotalOrder}
use Rattle.std.proofs.lemmas.List.{map-append, length-map, append-nil}
use Rattle.std.proofs.lemmas.Result.{IfOk-weaker}
use Rattle.dg_pages.specs.Entries.{with_entry, entry, entries_of, IsMap}
use Rattle.dg_pages.specs.Paged.{joined, IsPaged, Part}
use Rattle.dg_pages.specs.Nodes.{IsNode, IsForked}
use Rattle.dg_pages.specs.declared.tree.Node.TheVariants.{Page, Fork}
use Rattle.dg_pages.specs.Places.{place_in, stands_at_place}
use Rattle.dg_pages.proofs.ChangeLemmas.{IsMap-with_entry}
use Rattle.dg_pages.proofs.JoinLemmas.{joined-append, paged_append}
use Rattle.dg_pages.proofs.RunLemmas.{pass_new, pass_same, changed_sides, part_changed}

module _ {K V : Type 0} where
  -- a page with another pair at a place
  set_entries : (ps : List (Arc K Global × Arc V Global)) (i : ℕ) (y : Arc K Global × Arc V Global) → i < length ps → entries_of (slice_set ps i y) ≡ entries_of (take i ps) ++ (entry y ∷ entries_of (drop (suc i) ps))
  set_entries [] i y h = absurd (omega arith)
  set_entries (p ∷ ps) zero y h = refl
  set_entries (p ∷ ps) (suc i) y h = ap (λ es. entry p ∷ es) (set_entries ps i y (omega arith))

module _ {K V : Type 0} {R : K → K → Ordering} (o : IsTotalOrder R) where
  -- a pair in the place of one with its key, and between others
  pub set_is : (ps : List (Arc K Global × Arc V Global)) (i : ℕ) (y : Arc K Global × Arc V Global) (k : K) (v : V) → arc_value y.0 ≡ k → arc_value y.1 ≡ v → i ≡ place_in R k (entries_of ps) → stands_at_place R k (entries_of ps) ≡ true → i < length ps → entries_of (slice_set ps i y) ≡ with_entry R k v (entries_of ps)
  set_is ps i y k v a b e t h = subst (λ x. place_in R x (entries_of ps) ≡ i → stands_at_place R x (entries_of ps) ≡ true → entries_of (slice_set ps i y) ≡ with_entry R x v (entries_of ps)) a
      (λ f u. subst (λ w. entries_of (slice_set ps i y) ≡ with_entry R (arc_value y.0) w (entries_of ps)) b
      (set_entries ps i y h ∙ subst (λ n. entries_of (take n ps) ++ (entry y ∷ entries_of (drop (suc n) ps)) ≡ with_entry R (arc_value y.0) (arc_value y.1) (entries_of ps)) f (pass_same o y ps u)))
      (sym e) t

  pub insert_is : (ps : List (Arc K Global × Arc V Global)) (i : ℕ) (y : Arc K Global × Arc V Global) (k : K) (v : V) → arc_value y.0 ≡ k → arc_value y.1 ≡ v → i ≡ place_in R k (entries_of ps) → stands_at_place R k (entries_of ps) ≡ false → entries_of (take i ps ++ (y ∷ drop i ps)) ≡ with_entry R k v (entries_of ps)
  insert_is ps i y k v a b e t = subst (λ x. place_in R x (entries_of ps) ≡ i → stands_at_place R x (entries_of ps) ≡ false → entries_of (take i ps ++ (y ∷ drop i ps)) ≡ with_entry R x v (entries_of ps)) a
      (λ f u. subst (λ w. entries_of (take i ps ++ (y ∷ drop i ps)) ≡ with_entry R (arc_value y.0) w (entries_of ps)) b
      (map-append entry (take i ps) (y ∷ drop i ps) ∙ subst (λ n. entries_of (take n ps) ++ (entry y ∷ entries_of (drop n ps)) ≡ with_entry R (arc_value y.0) (arc_value y.1) (entries_of ps)) f (pass_new o y ps u)))
      (sym e) t

  module _ (k : K) (v : V) where
    -- what becomes of entries, by whether the pair was put
    abbrev put_to : Bool → List (K × V) → List (K × V)
    put_to done es = cond done (with_entry R k v es) es

    sides_low : (m : K) (a after b : List (List (K × V))) (done : Bool) → joined after ≡ put_to done (joined a) → is_lt (R k m) ≡ true → Part R m (joined a) (joined b) → joined (after ++ b) ≡ put_to done (joined (a ++ b))
    sides_low m a after b true e l p =
        joined-append after b ∙ ap (λ es. es ++ joined b) e
        ∙ changed_sides R o m (joined a) (joined b) ((k, Some v) ∷ []) [] p (l, tt) tt
        ∙ ap (with_entry R k v) (sym (joined-append a b))
    sides_low m a after b false e l p = joined-append after b ∙ ap (λ es. es ++ joined b) e ∙ sym (joined-append a b)

    sides_high : (m : K) (a b after : List (List (K × V))) (done : Bool) → joined after ≡ put_to done (joined b) → is_lt (R k m) ≡ false → Part R m (joined a) (joined b) → joined (a ++ after) ≡ put_to done (joined (a ++ b))
    sides_high m a b after true e l p =
        joined-append a after ∙ ap (λ es. joined a ++ es) e
        ∙ changed_sides R o m (joined a) (joined b) [] ((k, Some v) ∷ []) p tt (l, tt)
        ∙ ap (with_entry R k v) (sym (joined-append a b))
    sides_high m a b after false e l p = joined-append a after ∙ ap (λ es. joined a ++ es) e ∙ sym (joined-append a b)

    part_by_low : (m : K) (a after b : List (K × V)) (done : Bool) → after ≡ put_to done a → is_lt (R k m) ≡ true → Part R m a b → Part R m after b
    part_by_low m a after b true e l p = subst (λ es. Part R m es b) (sym e) (part_changed R o m a b ((k, Some v) ∷ []) [] p (l, tt) tt)
    part_by_low m a after b false e l p = subst (λ es. Part R m es b) (sym e) p

    part_by_high : (m : K) (a b after : List (K × V)) (done : Bool) → after ≡ put_to done b → is_lt (R k m) ≡ false → Part R m a b → Part R m a after
    part_by_high m a b after true e l p = subst (λ es. Part R m a es) (sym e) (part_changed R o m a b [] ((k, Some v) ∷ []) p tt (l, tt))
    part_by_high m a b after false e l p = subst (λ es. Part R m a es) (sym e) p

    put_map : (done : Bool) (es : List (K × V)) → IsMap R es → IsMap R (put_to done es)
    put_map true es s = IsMap-with_entry o k v es s
    put_map false es s = s

    module _ {E : Type 0} where
      -- the whole after a put into one side
      pub put_low : (r : Result Bool E) (m : K) (a after b : List (List (K × V))) → IfOk r (λ done. joined after ≡ put_to done (joined a)) → is_lt (R k m) ≡ true → Part R m (joined a) (joined b) → IfOk r (λ done. joined (after ++ b) ≡ put_to done (joined (a ++ b)))
      put_low r m a after b i l p = IfOk-weaker r _ _ (λ done e. sides_low m a after b done e l p) i

      pub put_high : (r : Result Bool E) (m : K) (a b after : List (List (K × V))) → IfOk r (λ done. joined after ≡ put_to done (joined b)) → is_lt (R k m) ≡ false → Part R m (joined a) (joined b) → IfOk r (λ done. joined (a ++ after) ≡ put_to done (joined (a ++ b)))
      put_high r m a b after i l p = IfOk-weaker r _ _ (λ done e. sides_high m a b after done e l p) i

      part_low_after : (r : Result Bool E) (m : K) (a after b : List (K × V)) → IfOk r (λ done. after ≡ put_to done a) → OnErr r (after ≡ a) → is_lt (R k m) ≡ true → Part R m a b → Part R m after b
      part_low_after (Ok done) m a after b i e l p = part_by_low m a after b done i l p
      part_low_after (Err x) m a after b i e l p = subst (λ es. Part R m es b) (sym e) p

      part_high_after : (r : Result Bool E) (m : K) (a b after : List (K × V)) → IfOk r (λ done. after ≡ put_to done b) → OnErr r (after ≡ b) → is_lt (R k m) ≡ false → Part R m a b → Part R m a after
      part_high_after (Ok done) m a b after i e l p = part_by_high m a b after done i l p
      part_high_after (Err x) m a b after i e l p = subst (λ es. Part R m a es) (sym e) p

      -- the fork, and the page, after a put
      pub node_low : (r : Result Bool E) (m : Arc K Global) (a after b : Arc (List (List (K × V))) Global) (n : ℕ)
          → IfOk r (λ done. joined (arc_value after) ≡ put_to done (joined (arc_value a))) → OnErr r (joined (arc_value after) ≡ joined (arc_value a)) → length (arc_value after) ≡ length (arc_value a) → (IsPaged R (arc_value a) → IsPaged R (arc_value after)) → is_lt (R k (arc_value m)) ≡ true
          → IsForked R (Fork a m b n) → IsNode R (Fork after m b n)
      node_low r m a after b n i e s w l f =
          let part = part_low_after r (arc_value m) (joined (arc_value a)) (joined (arc_value after)) (joined (arc_value b)) i e l f.1.1.0 in
          record {
            paged = paged_append o (arc_value m) (arc_value after) (arc_value b) (w f.0) f.1.0 part;
            forked = (w f.0, (f.1.0, (part, f.1.1.1 ∙ ap (λ x. x + length (arc_value b)) (sym s))));
          }

      pub node_high : (r : Result Bool E) (m : Arc K Global) (a b after : Arc (List (List (K × V))) Global) (n : ℕ)
          → IfOk r (λ done. joined (arc_value after) ≡ put_to done (joined (arc_value b))) → OnErr r (joined (arc_value after) ≡ joined (arc_value b)) → length (arc_value after) ≡ length (arc_value b) → (IsPaged R (arc_value b) → IsPaged R (arc_value after)) → is_lt (R k (arc_value m)) ≡ false
          → IsForked R (Fork a m b n) → IsNode R (Fork a m after n)
      node_high r m a b after n i e s w l f =
          let part = part_high_after r (arc_value m) (joined (arc_value a)) (joined (arc_value b)) (joined (arc_value after)) i e l f.1.1.0 in
          record {
            paged = paged_append o (arc_value m) (arc_value a) (arc_value after) f.0 (w f.1.0) part;
            forked = (f.0, (w f.1.0, (part, f.1.1.1 ∙ ap (λ x. length (arc_value a) + x) (sym s))));
          }

      map_after : (r : Result Bool E) (ps after : List (Arc K Global × Arc V Global)) → IfOk r (λ done. entries_of after ≡ put_to done (entries_of ps)) → OnErr r (after ≡ ps) → IsMap R (entries_of ps) → IsMap R (entries_of after)
      map_after (Ok done) ps after i e s = subst (IsMap R) (sym i) (put_map done (entries_of ps) s)
      map_after (Err x) ps after i e s = subst (λ qs. IsMap R (entries_of qs)) (sym e) s

      pub node_page : (r : Result Bool E) (ps after : Vec (Arc K Global × Arc V Global) Global) → IfOk r (λ done. entries_of after.items ≡ put_to done (entries_of ps.items)) → OnErr r (after.items ≡ ps.items) → length ps.items ≤ length after.items → (length ps.items ≤ 64 → length after.items ≤ 64) → IsNode R (Page ps) → IsNode R (Page after)
      node_page r ps after i e some fits n = record {
        paged = record {
          some = omega arith;
          sized = ((rw (length-map after.items entry) (omega (arith, some, subst (λ x. 0 < x) (length-map ps.items entry) n.paged.sized.0.0)), rw (length-map after.items entry) (fits (subst (λ x. x ≤ 64) (length-map ps.items entry) n.paged.sized.0.1))), tt);
          map = subst (IsMap R) (sym (append-nil (entries_of after.items))) (map_after r ps.items after.items i e (subst (IsMap R) (append-nil (entries_of ps.items)) n.paged.map));
        };
        forked = tt;
      }

      pub put_page : (r : Result Bool E) (ps after : List (Arc K Global × Arc V Global)) → IfOk r (λ done. entries_of after ≡ put_to done (entries_of ps)) → IfOk r (λ done. joined (entries_of after ∷ []) ≡ put_to done (joined (entries_of ps ∷ [])))
      put_page r ps after i = IfOk-weaker r _ _ (λ done e. append-nil (entries_of after) ∙ e ∙ ap (put_to done) (sym (append-nil (entries_of ps)))) i

module _ {K V E : Type 0} where
  -- where nothing was put for want of memory
  pub same_page : (r : Result Bool E) (ps after : List (Arc K Global × Arc V Global)) → OnErr r (after ≡ ps) → OnErr r (joined (entries_of after ∷ []) ≡ joined (entries_of ps ∷ []))
  same_page (Ok done) ps after e = tt
  same_page (Err x) ps after e = ap (λ qs. joined (entries_of qs ∷ [])) e

  pub same_low : (r : Result Bool E) (a after b : List (List (K × V))) → OnErr r (joined after ≡ joined a) → OnErr r (joined (after ++ b) ≡ joined (a ++ b))
  same_low (Ok done) a after b e = tt
  same_low (Err x) a after b e = joined-append after b ∙ ap (λ es. es ++ joined b) e ∙ sym (joined-append a b)

  pub same_high : (r : Result Bool E) (a b after : List (List (K × V))) → OnErr r (joined after ≡ joined b) → OnErr r (joined (a ++ after) ≡ joined (a ++ b))
  same_high (Ok done) a b after e = tt
  same_high (Err x) a b after e = joined-append a after ∙ ap (λ es. joined a ++ es) e ∙ sym (joined-append a b)
