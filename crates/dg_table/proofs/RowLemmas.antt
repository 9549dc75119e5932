-- What a table answers whose rows share neither names nor codes.
use Rattle.std.proofs.Common.{◌≡◌, ◌≢◌, ◌↔◌, ◌==◌, ℕ, ◌<◌, ◌≤◌, Bool, false, List, length, get_or, Option, Some, None, refl, sym, ◌∙◌, ap, subst, inl, inr, arith}
use Rattle.std.specs.Option.{IsNone}
use Rattle.std.specs.List.{All, Contains, position, position_or_len}
use Rattle.std.specs.Bool.{Decides}
use Rattle.std.specs.Str.{bytes_eq}
use Rattle.std.proofs.lemmas.Bool.{cases_order, true≢false}
use Rattle.std.proofs.lemmas.List.{get_or_default, get_or-map, length-map}
use Rattle.std.proofs.lemmas.List.Elements.{All-contains, All-map, All-weaker}
use Rattle.std.proofs.lemmas.List.Quantifiers.{position-Some}
use Rattle.std.proofs.lemmas.List.Sums.{fails_before_first}
use Rattle.std.proofs.lemmas.Bool.Decides.{Decides-eqb, not_from_Decides}
use Rattle.std.proofs.lemmas.Grind.{common_steps}
use Rattle.std.proofs.lemmas.Slice.Eq.{bytes_eq-Decides}
use Rattle.dg_table.specs.Rows.{Row, Share, rows_of, IsOneToOne, IsCodeOf, IsNameOf, AreInverse}

pub Share-sym : (a b : Row) → Share a b → Share b a
Share-sym a b (inl same) = inl (sym same)
Share-sym a b (inr same) = inr (sym same)

pub Share-along : (a b c d : Row) → a ≡ c → b ≡ d → Share a b → Share c d
Share-along a b c d p q (inl same) = inl (sym (ap (λ row. row.0) p) ∙ same ∙ ap (λ row. row.0) q)
Share-along a b c d p q (inr same) = inr (sym (ap (λ row. row.1) p) ∙ same ∙ ap (λ row. row.1) q)

-- rows at two places share nothing
apart : (rows : List Row) (a b : Row) (i j : ℕ) → IsOneToOne rows → i < j → j < length rows
    → get_or rows i a ≡ a → get_or rows j b ≡ b → Share a b → ⊥
apart rows a b i j one before within a_at b_at shared =
    one i j a before within (Share-along a b _ _ (sym a_at) (sym (get_or_default rows j a b within ∙ b_at)) shared)

-- rows that share a name or a code are one
pub one_row : (rows : List Row) (a b : Row) → IsOneToOne rows → Contains rows a → Contains rows b → Share a b → a ≡ b
one_row rows a b one (i, i_in, a_at) (j, j_in, b_at) shared =
    elim (cases_order i j) [
      | inl same ↦ sym a_at ∙ get_or_default rows i a b i_in ∙ ap (λ k. get_or rows k b) same ∙ b_at
      | inr order ↦ elim order [
        | inl before ↦ absurd (apart rows a b i j one before j_in a_at b_at shared)
        | inr after ↦ absurd (apart rows b a j i one after i_in b_at a_at (Share-sym a b shared))
      ]
    ]

Some-same : {X : Type 0} (x y : X) → Some x ≡ Some y → x ≡ y
Some-same x y e = cc

None-Some : {X : Type 0} (x : X) → None ≡ Some x → ⊥
None-Some x e = cc

pub code_from_row : (rows : List Row) (row : Row) → IsOneToOne rows → Contains rows row → IsCodeOf rows row.0 (Some row.1)
code_from_row rows row one here code = (
  (λ same. subst (λ (n : ℕ). Contains rows (row.0, n)) (Some-same row.1 code same) here),
  λ there. ap Some (ap (λ r. r.1) (one_row rows row (row.0, code) one here there (inl refl))),
)

pub name_from_row : (rows : List Row) (row : Row) → IsOneToOne rows → Contains rows row → IsNameOf rows row.1 (Some row.0)
name_from_row rows row one here name = (
  (λ same. subst (λ (n : List ℕ). Contains rows (n, row.1)) (Some-same row.0 name same) here),
  λ there. ap Some (ap (λ r. r.0) (one_row rows row (name, row.1) one here there (inr refl))),
)

pub code_from_none : (rows : List Row) (name : List ℕ) → All (λ row. row.0 ≢ name) rows → IsCodeOf rows name None
code_from_none rows name none code = (
  (λ same. absurd (None-Some code same)),
  λ there. absurd (All-contains (λ row. row.0 ≢ name) rows (name, code) none there refl),
)

pub name_from_none : (rows : List Row) (code : ℕ) → All (λ row. row.1 ≢ code) rows → IsNameOf rows code None
name_from_none rows code none name = (
  (λ same. absurd (None-Some name same)),
  λ there. absurd (All-contains (λ row. row.1 ≢ code) rows (name, code) none there refl),
)

pub inverse : (rows : List Row) → IsOneToOne rows → AreInverse rows
inverse rows one name code = (
  (λ found. name_from_row rows (name, code) one ((found code).0 refl)),
  λ found. code_from_row rows (name, code) one ((found name).0 refl),
)

-- an answer is None exactly where nothing is what is asked for
pub none_answered : {X : Type 0} (P : X → Type 0) (answer : Option X) → ((x : X) → (answer ≡ Some x) ↔ P x)
    → IsNone answer ↔ ((x : X) → ¬ (P x))
none_answered P None each = ((λ _ x there. None-Some x ((each x).1 there)), λ _. refl)
none_answered P (Some y) each = ((λ no. absurd (true≢false no)), λ none. absurd (none y ((each y).0 refl)))

-- a row that was read is among the rows
row_contained : {S : Type 0} (bytes : S → List ℕ) (xs : List (S × ℕ)) (i : ℕ) (d : S × ℕ) → i < length xs
    → Contains (rows_of bytes xs) (bytes (get_or xs i d).0, (get_or xs i d).1)
row_contained bytes xs i d within =
    (i, rw length-map within, get_or-map (λ row. (bytes row.0, row.1)) xs i d _ within)

-- a test fails at each element where it passes first at none
fails_everywhere : {X : Type 0} (p : X → Bool) (xs : List X) → position p xs ≡ None → All (λ x. p x ≡ false) xs
fails_everywhere p xs none k d within =
    let past : length xs ≤ position_or_len p xs = grind (arith, common_steps) in
    fails_before_first p xs k d (omega arith)

-- and so what the test decides holds of no row
rows_all : {S : Type 0} (bytes : S → List ℕ) (P : Row → Type 0) (p : S × ℕ → Bool) (xs : List (S × ℕ))
    → ((x : S × ℕ) → Decides (p x) (P (bytes x.0, x.1))) → position p xs ≡ None → All (λ row. ¬ (P row)) (rows_of bytes xs)
rows_all bytes P p xs decides none =
    All-map (λ row. ¬ (P row)) (λ x. (bytes x.0, x.1)) xs
    (All-weaker (λ x. p x ≡ false) (λ x. ¬ (P (bytes x.0, x.1))) (λ x fails. not_from_Decides (p x) (decides x) fails) xs
    (fails_everywhere p xs none))

module _ {S : Type 0} (bytes : S → List ℕ) (xs : List (S × ℕ)) (rows : List Row) where
  pub code_at_place : (i : ℕ) (d : S × ℕ) (name : List ℕ) → rows_of bytes xs ≡ rows → IsOneToOne (rows_of bytes xs)
      → position (λ row. bytes_eq (bytes row.0) name) xs ≡ Some i → IsCodeOf rows name (Some (get_or xs i d).1)
  code_at_place i d name seen one place =
      let first = position-Some (λ row. bytes_eq (bytes row.0) name) xs i d place in
      let found : bytes (get_or xs i d).0 ≡ name = (bytes_eq-Decides (bytes (get_or xs i d).0) name).0 first.1 in
      rw (← seen, ← found) (code_from_row (rows_of bytes xs) _ one (row_contained bytes xs i d first.0))

  pub name_at_place : (i : ℕ) (d : S × ℕ) (code : ℕ) → rows_of bytes xs ≡ rows → IsOneToOne (rows_of bytes xs)
      → position (λ row. row.1 == code) xs ≡ Some i → IsNameOf rows code (Some (bytes (get_or xs i d).0))
  name_at_place i d code seen one place =
      let first = position-Some (λ row. row.1 == code) xs i d place in
      let found : (get_or xs i d).1 ≡ code = (Decides-eqb (get_or xs i d).1 code).0 first.1 in
      rw (← seen, ← found) (name_from_row (rows_of bytes xs) _ one (row_contained bytes xs i d first.0))

  pub code_at_no_place : (name : List ℕ) → rows_of bytes xs ≡ rows
      → position (λ row. bytes_eq (bytes row.0) name) xs ≡ None → IsCodeOf rows name None
  code_at_no_place name seen none =
      rw (← seen) (code_from_none (rows_of bytes xs) name
      (rows_all bytes (λ row. row.0 ≡ name) (λ row. bytes_eq (bytes row.0) name) xs (λ x. bytes_eq-Decides (bytes x.0) name) none))

  pub name_at_no_place : (code : ℕ) → rows_of bytes xs ≡ rows
      → position (λ row. row.1 == code) xs ≡ None → IsNameOf rows code None
  name_at_no_place code seen none =
      rw (← seen) (name_from_none (rows_of bytes xs) code
      (rows_all bytes (λ row. row.1 ≡ code) (λ row. row.1 == code) xs (λ x. Decides-eqb x.1 code) none))
