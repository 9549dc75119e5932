-- Calls of a cluster that meet nothing of others.
use Rattle.std.proofs.Common.{◌≡◌, ℕ, Bool, true, false, List, [], ◌∷◌, ◌++◌, refl, ap, subst, sym, ◌∙◌}
use Rattle.std.specs.List.{AllByRecursion}
use Rattle.std.proofs.lemmas.List.{append-nil}
use Rattle.dg_zero.specs.declared.entry.Entry.{Entry}
use Rattle.dg_zero.specs.Legal.{IsLegal}
use Rattle.dg_zero.specs.States.{Zero}
use Rattle.dg_node.specs.Clusters.{AreOthers, Meets}

pub met_here : (takes : ℕ → Bool) (z : Zero) → IsLegal z.groups z.history → AreOthers takes z z
met_here takes z l = record { groups_are = refl; entries = []; history_is = sym (append-nil z.history); others = tt; legal = l }

pub meets_here : (takes : ℕ → Bool) (z w : Zero) (step : Zero → Zero → Type 0) → IsLegal z.groups z.history → step z w → Meets takes z w step
meets_here takes z w step l s = record { met = z; others = met_here takes z l; goes = s }

none_refused : (es : List Entry) → AllByRecursion (λ (e : Entry). true ≡ false) es → es ≡ []
none_refused [] a = refl
none_refused (e ∷ es) a = absurd (let no : true ≡ false = a.0 in cc)

-- where each author is taken, nothing of others comes between
module _ (z w : Zero) (step : Zero → Zero → Type 0) (m : Meets (λ n. true) z w step) where
  met_is : m.met ≡ z
  met_is =
      let none = none_refused m.others.entries m.others.others in
      let groups = m.others.groups_are in
      let history : m.met.history ≡ z.history = m.others.history_is ∙ (ap (λ (es : List Entry). z.history ++ es) none ∙ append-nil z.history) in
      λ i. record { groups = groups i; history = history i }

  pub met_alone : step z w
  met_alone = subst (λ (y : Zero). step y w) met_is m.goes

  -- the history was legal
  pub legal_alone : IsLegal z.groups z.history
  legal_alone = subst (λ (y : Zero). IsLegal y.groups y.history) met_is m.others.legal
