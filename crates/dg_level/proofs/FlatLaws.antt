-- Flat objects, a field at a time, and the keys of their fields in a set.
use Rattle.std.proofs.Common.{◌≡◌, ℕ, Bool, true, false, cond, List, [], ◌∷◌, ◌++◌, refl, ap, sym, ◌∙◌}
use Rattle.std.specs.Prelude.{◌||◌, map, bytes_eq}
use Rattle.std.specs.List.{list_any}
use Rattle.std.specs.BTreeSet.{BTreeSet, Updates}
use Rattle.std.proofs.lemmas.List.Folds.{list_any-append}
use Rattle.std.proofs.lemmas.Map.Text.{is_eq-slice_cmp}
use Rattle.dg_values.specs.Order.{text_cmp}
use Rattle.dg_tree.specs.declared.tree.Field.{Field}
use Rattle.dg_level.specs.Flats.{HasKeys}

-- a test of fields that are shared
pub any_of : {R : Type 0} (now : R → Field) (test : Field → Bool) (rs : List R) → list_any (λ r. test (now r)) rs ≡ list_any test (map now rs)
any_of now test [] = refl
any_of now test (r ∷ rs) = ap (λ b. test (now r) || b) (any_of now test rs)

-- with the key of a field more
pub key_added : (keys more : BTreeSet (List ℕ)) (fields : List Field) (pair : Field) (k : List ℕ) → k ≡ pair.key → Updates text_cmp keys more k true → HasKeys keys fields → HasKeys more (fields ++ pair ∷ [])
key_added keys more fields pair k is u are = λ key.
    u.0 key
    ∙ (λ i. cond (is_eq-slice_cmp k key i) true (are key i))
    ∙ ap (λ l. cond (bytes_eq l key) true (list_any (λ p. bytes_eq p.key key) fields)) is
    ∙ turned (bytes_eq pair.key key) (list_any (λ p. bytes_eq p.key key) fields)
    ∙ sym (list_any-append (λ p. bytes_eq p.key key) fields (pair ∷ []))
  where
    turned : (a b : Bool) → cond a true b ≡ (b || (a || false))
    turned true true = refl
    turned true false = refl
    turned false true = refl
    turned false false = refl
