-- Flat objects, a field at a time.
use Rattle.std.proofs.Common.{◌≡◌, ℕ, ◌+◌, ◌<◌, Bool, true, false, cond, List, [], ◌∷◌, ◌++◌, length, get_or, take, refl, ap, sym, ◌∙◌}
use Rattle.std.specs.Prelude.{◌||◌, map, bytes_eq}
use Rattle.std.specs.List.{list_any}
use Rattle.std.proofs.lemmas.List.{take_more}
use Rattle.dg_tree.specs.declared.tree.Field.{Field}
use Rattle.dg_shape.specs.Normalize.{with_pair, joined}

module _ {R : Type 0} (now : R → Field) where
  any_of : (test : Field → Bool) (rs : List R) → list_any (λ r. test (now r)) rs ≡ list_any test (map now rs)
  any_of test [] = refl
  any_of test (r ∷ rs) = ap (λ b. test (now r) || b) (any_of test rs)

  map_behind : (rs more : List R) → map now (rs ++ more) ≡ map now rs ++ map now more
  map_behind [] more = refl
  map_behind (r ∷ rs) more = ap (λ l. now r ∷ l) (map_behind rs more)

  pub there_already : (rs : List R) (pair : Field) → list_any (λ r. bytes_eq (now r).key pair.key) rs ≡ true → map now rs ≡ with_pair (map now rs) pair
  there_already rs pair e = λ i. cond (sym (sym (any_of (λ p. bytes_eq p.key pair.key) rs) ∙ e) i) (map now rs) (map now rs ++ pair ∷ [])

  pub one_added : (rs : List R) (r : R) → list_any (λ s. bytes_eq (now s).key (now r).key) rs ≡ false → map now (rs ++ r ∷ []) ≡ with_pair (map now rs) (now r)
  one_added rs r e = map_behind rs (r ∷ []) ∙ λ i. cond (sym (sym (any_of (λ p. bytes_eq p.key (now r).key) rs) ∙ e) i) (map now rs) (map now rs ++ now r ∷ [])

  fold_behind : (a : List Field) (xs : List R) (x : R) → joined a (map now (xs ++ x ∷ [])) ≡ with_pair (joined a (map now xs)) (now x)
  fold_behind a [] x = refl
  fold_behind a (y ∷ xs) x = fold_behind (with_pair a (now y)) xs x

  pub joined_more : (a : List Field) (xs : List R) (i : ℕ) (d : R) → i < length xs → joined a (map now (take (i + 1) xs)) ≡ with_pair (joined a (map now (take i xs))) (now (get_or xs i d))
  joined_more a xs i d lt = ap (λ l. joined a (map now l)) (take_more xs i d lt) ∙ fold_behind a (take i xs) (get_or xs i d)
