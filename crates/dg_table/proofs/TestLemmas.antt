-- The test of a whole table, and the rule that it stands for at each row.
use Rattle.std.proofs.Common.{◌≡◌, ℕ, ◌+◌, ◌-◌, ◌<◌, ◌||◌, Bool, true, false, not, ◌&&◌, List, [], ◌∷◌, length, get_or, take, drop, suc, refl, sym, ◌∙◌, ap, map, inl, inr, arith, add-one, drop-cons, length-drop}
use Rattle.std.specs.Bool.{Decides}
use Rattle.std.specs.List.{All, Any, AllPass, Contains, list_any}
use Rattle.std.proofs.lemmas.Bool.{and_parts, cases_Bool}
use Rattle.std.proofs.lemmas.Bool.Decides.{Decides-or, Decides-eqb}
use Rattle.std.proofs.lemmas.Slice.Eq.{bytes_eq-Decides}
use Rattle.std.proofs.lemmas.List.{get_or_default, take_all}
use Rattle.std.proofs.lemmas.List.Elements.{All-contains}
use Rattle.std.proofs.lemmas.List.Folds.{Any-from_list_any, list_any_at}
use Rattle.std.proofs.lemmas.List.Kept.{AllPairs-cons}
use Rattle.dg_table.specs.Rows.{Row, Share, rows_of, IsOneToOne, HasDouble}
use Rattle.dg_table.specs.Tests.{share, is_one_to_one}
use Rattle.dg_table.proofs.RowLemmas.{Share-sym, Share-along}

share-Decides : (a b : Row) → Decides (share a b) (Share a b)
share-Decides a b = Decides-or _ _ (bytes_eq-Decides a.0 b.0) (Decides-eqb a.1 b.1)

pub list_any-map : {X Y : Type 0} (p : X → Bool) (f : Y → X) (ys : List Y) → list_any p (map f ys) ≡ list_any (λ y. p (f y)) ys
list_any-map p f [] = refl
list_any-map p f (y ∷ ys) = ap (λ rest. p (f y) || rest) (list_any-map p f ys)

-- a row shares nothing with those after it, where none is found that does
none_shares : (row : Row) (rows : List Row) → list_any (λ later. share later row) rows ≡ false → All (λ later. ¬ (Share row later)) rows
none_shares row rows none k d within shared =
    let found : list_any (λ later. share later row) rows ≡ true =
    list_any_at (λ later. share later row) rows k d within ((share-Decides _ row).1 (Share-sym row _ shared)) in
    cc

not_true : (b : Bool) → not b ≡ true → b ≡ false
not_true true e = cc
not_true false e = refl

pub IsOneToOne-from_test : (rows : List Row) → is_one_to_one rows ≡ true → IsOneToOne rows
IsOneToOne-from_test [] e = λ i j d before within. absurd (omega arith)
IsOneToOne-from_test (row ∷ rows) e =
    let parts : (not (list_any (λ later. share later row) rows) ≡ true) × (is_one_to_one rows ≡ true) =
    and_parts _ _ e in
    AllPairs-cons (λ a b. ¬ (Share a b)) row rows (none_shares row rows (not_true _ parts.0)) (IsOneToOne-from_test rows parts.1)

-- a double of later rows is one further on
HasDouble-cons : (row : Row) (rows : List Row) → HasDouble rows → HasDouble (row ∷ rows)
HasDouble-cons row rows (i, j, before, within, shared) = (suc i, suc j, omega arith, omega arith, shared)

-- a row that shares with a later one is a double
HasDouble-found : (row : Row) (rows : List Row) → Any (λ later. share later row ≡ true) rows → HasDouble (row ∷ rows)
HasDouble-found row rows (k, other, within, at, passes) = (
  0,
  suc k,
  omega arith,
  omega arith,
  λ d. Share-sym _ row (Share-along _ _ _ _ (sym at ∙ get_or_default rows k other d within) refl ((share-Decides other row).0 passes)),
)

pub HasDouble-from_test : (rows : List Row) → is_one_to_one rows ≡ false → HasDouble rows
HasDouble-from_test [] e = cc
HasDouble-from_test (row ∷ rows) e =
    elim (cases_Bool (list_any (λ later. share later row) rows)) [
      | inl found ↦ HasDouble-found row rows (Any-from_list_any (λ later. share later row) rows found)
      | inr none ↦ HasDouble-cons row rows (HasDouble-from_test rows (rw none at e))
    ]

pub not_both : (rows : List Row) → IsOneToOne rows → HasDouble rows → ⊥
not_both rows one (i, j, before, within, shared) = one i j ([], 0) before within (shared ([], 0))

-- the test of the rows from i on, by whether one after the row at i shares with it
pub is_one_to_one-drop : {S : Type 0} (bytes : S → List ℕ) (xs : List (S × ℕ)) (i : ℕ) (x : S × ℕ) (name : List ℕ) (found : Bool)
    → i < length xs → x ≡ get_or xs i x → name ≡ bytes x.0
    → found ≡ list_any (λ row. share (bytes row.0, row.1) (name, x.1)) (take (length xs - (i + 1)) (drop (i + 1) xs))
    → is_one_to_one (rows_of bytes (drop i xs)) ≡ (not found && is_one_to_one (rows_of bytes (drop (i + 1) xs)))
is_one_to_one-drop bytes xs i x name found within at called seen =
    let rest : take (length xs - (i + 1)) (drop (i + 1) xs) ≡ drop (i + 1) xs =
    take_all (length xs - (i + 1)) (drop (i + 1) xs) (omega (arith, length-drop (i + 1) xs)) in
    rw (seen, rest, called, add-one, drop-cons xs i x, ← at)
    (ap (λ any. not any && is_one_to_one (rows_of bytes (drop (suc i) xs)))
    (list_any-map (λ later. share later (bytes x.0, x.1)) (λ row. (bytes row.0, row.1)) (drop (suc i) xs)))

-- a test that each row of a whole table passes is a rule at each row
pub at_each_row : (test : Row → Bool) (rows : List Row) (name : List ℕ) (code : ℕ) → AllPass test rows
    → Contains rows (name, code) → test (name, code) ≡ true
at_each_row test rows name code each there = All-contains (λ row. test row ≡ true) rows (name, code) each there
