-- Keys in ascending order, beside what they are the keys of.
use Rattle.std.proofs.Common.{◌≡◌, ℕ, Bool, true, false, List, [], ◌∷◌, ◌++◌, refl, sym, ap, subst, ◌∙◌}
use Rattle.std.specs.Prelude.{cond, ◌||◌}
use Rattle.std.specs.BTreeSet.{BTreeSet, contains_by, contains, Updates}
use Rattle.std.specs.Cmp.Lexicographic.{nat_list_eq_equiv}
use Rattle.std.specs.List.{list_any}
use Rattle.std.specs.Ordering.{is_eq}
use Rattle.std.specs.Str.{bytes_eq}
use Rattle.std.proofs.lemmas.List.Folds.{list_any-append}
use Rattle.std.proofs.lemmas.Map.Text.{is_eq-slice_cmp}
use Rattle.dg_values.specs.Order.{text_cmp}

-- a set has the keys of these alone
abbrev pub AreKeys : {X : Type 0} → (X → List ℕ) → List X → BTreeSet (List ℕ) → Type 0
AreKeys key items keys = (q : List ℕ) → contains_by (text_cmp q) keys ≡ list_any (λ x. bytes_eq q (key x)) items

-- the test of one more
one_more : (test have : Bool) → cond test true have ≡ (have || (test || false))
one_more true true = refl
one_more true false = refl
one_more false true = refl
one_more false false = refl

pub same_test : (a b : List ℕ) → is_eq (text_cmp a b) ≡ bytes_eq b a
same_test a b = is_eq-slice_cmp a b ∙ nat_list_eq_equiv.symm a b

module _ {X : Type 0} (key : X → List ℕ) (items : List X) (item : X) (before after : BTreeSet (List ℕ)) where
  -- with the key of one more
  pub added : AreKeys key items before → Updates text_cmp before after (key item) true → AreKeys key (items ++ item ∷ []) after
  added are u q =
      let test : List ℕ → X → Bool = λ k x. bytes_eq k (key x) in
      u.0 q
      ∙ ap (λ t. cond t true (contains text_cmp before q)) (same_test (key item) q)
      ∙ ap (λ h. cond (bytes_eq q (key item)) true h) (are q)
      ∙ one_more (bytes_eq q (key item)) (list_any (test q) items)
      ∙ sym (list_any-append (test q) items (item ∷ []))

  pub kept : (k : List ℕ) (all : List X) → AreKeys key items before → k ≡ key item → Updates text_cmp before after k true → all ≡ items ++ item ∷ [] → AreKeys key all after
  kept k all are ek u e =
      subst (λ (l : List X). AreKeys key l after) (sym e) (added are (subst (λ (t : List ℕ). Updates text_cmp before after t true) ek u))
