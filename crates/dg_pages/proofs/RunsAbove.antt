-- The first pairs of the keys above one.
use Rattle.std.proofs.Common.{◌≡◌, ◌∙◌, sym, ap, subst, refl, arith, ℕ, zero, suc, ◌≤◌, ◌==◌, List, [], ◌∷◌, ◌++◌, true, false, cond, drop, length, append_assoc}
use Rattle.std.specs.Arc.{arc_value}
use Rattle.std.specs.declared.sync.Arc.{Arc}
use Rattle.std.specs.declared.alloc.Global.{Global}
use Rattle.std.specs.declared.cmp.Ordering.{Ordering}
use Rattle.std.specs.declared.cmp.Ordering.TheVariants.{Greater}
use Rattle.std.specs.Ordering.{is_lt}
use Rattle.std.specs.Cmp.{IsTotalOrder}
use Rattle.std.specs.List.{AllByRecursion}
use Rattle.std.proofs.lemmas.Grind.{common_steps}
use Rattle.std.proofs.lemmas.List.Elements.{filter-append}
use Rattle.dg_pages.specs.Entries.{entry, entries_of, entries_above, AreFirst}
use Rattle.dg_pages.specs.Paged.{joined, Part}
use Rattle.dg_pages.proofs.AboveLemmas.{Parts, not_above, is_above}
use Rattle.dg_pages.proofs.JoinLemmas.{joined-append, all_below}

module _ {K V : Type 0} {R : K → K → Ordering} (o : IsTotalOrder R) where
  -- from the first key above one on, all are
  pub above_from : (ps : List (Arc K Global × Arc V Global)) (k : K) (i : ℕ) → Parts o ps k i → i ≤ length ps → entries_of (drop i ps) ≡ entries_above R k (entries_of ps)
  above_from [] k zero w h = refl
  above_from [] k (suc i) w h = absurd (omega arith)
  above_from (q ∷ ps) k zero w h =
      ap (λ es. entry q ∷ es) (above_from ps k zero ((λ j d low high. absurd (omega arith)), (λ j d low high. w.1 (suc j) d (omega arith) (omega arith))) (omega arith))
      ∙ sym (ap (λ b. cond b (entry q ∷ entries_above R k (entries_of ps)) (entries_above R k (entries_of ps))) (is_above o (arc_value q.0) k (w.1 0 q (omega arith) (omega arith))))
  above_from (q ∷ ps) k (suc i) w h =
      above_from ps k i ((λ j d low high. w.0 (suc j) d (omega arith) (omega arith)), (λ j d low high. w.1 (suc j) d (omega arith) (omega arith))) (omega arith)
      ∙ sym (ap (λ b. cond b (entry q ∷ entries_above R k (entries_of ps)) (entries_above R k (entries_of ps))) (not_above o (arc_value q.0) k (w.0 0 q (omega arith) (omega arith))))

  -- ---- on both sides of a fork

  above_both : (k : K) (a b : List (List (K × V))) → entries_above R k (joined (a ++ b)) ≡ entries_above R k (joined a) ++ entries_above R k (joined b)
  above_both k a b = ap (entries_above R k) (joined-append a b) ∙ filter-append (λ e. is_lt (R k e.0)) (joined a) (joined b)

  none_above : (k : K) (es : List (K × V)) → AllByRecursion (λ e. R k e.0 ≡ Greater) es → entries_above R k es ≡ []
  none_above k [] a = refl
  none_above k (e ∷ es) a = ap (λ t. cond (is_lt t) (e ∷ entries_above R k es) (entries_above R k es)) a.0 ∙ none_above k es a.1

  only_right : (k : K) (a b : List (List (K × V))) → entries_above R k (joined a) ≡ [] → entries_above R k (joined b) ≡ entries_above R k (joined (a ++ b))
  only_right k a b e = sym (above_both k a b ∙ ap (λ es. es ++ entries_above R k (joined b)) e)

  pub first_left : (k : K) (a b : List (List (K × V))) (run : List (Arc K Global × Arc V Global)) → (length run == 0) ≡ false → AreFirst (entries_of run) (entries_above R k (joined a)) → AreFirst (entries_of run) (entries_above R k (joined (a ++ b)))
  first_left k a b [] e f = absurd (cc)
  first_left k a b (p ∷ run) e f = record {
    front = (f.front.0 ++ entries_above R k (joined b), above_both k a b ∙ (ap (λ es. es ++ entries_above R k (joined b)) f.front.1 ∙ append_assoc (entries_of (p ∷ run)) f.front.0 (entries_above R k (joined b))));
    some = λ is. absurd (cc);
  }

  pub first_right : (k : K) (a b : List (List (K × V))) (run more : List (Arc K Global × Arc V Global)) → (length run == 0) ≡ true → AreFirst (entries_of run) (entries_above R k (joined a)) → AreFirst (entries_of more) (entries_above R k (joined b)) → AreFirst (entries_of more) (entries_above R k (joined (a ++ b)))
  first_right k a b [] more e f g = subst (AreFirst (entries_of more)) (only_right k a b (f.some refl)) g
  first_right k a b (p ∷ run) more e f g = absurd (let some : (length (p ∷ run) == 0) ≡ false = grind (arith, common_steps) in cc)

  pub first_high : (k m : K) (a b : List (List (K × V))) (more : List (Arc K Global × Arc V Global)) → is_lt (R k m) ≡ false → Part R m (joined a) (joined b) → AreFirst (entries_of more) (entries_above R k (joined b)) → AreFirst (entries_of more) (entries_above R k (joined (a ++ b)))
  first_high k m a b more n p g = subst (AreFirst (entries_of more)) (only_right k a b (none_above k (joined a) (all_below o k m (joined a) n p.below))) g
