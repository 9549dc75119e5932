-- A row that is written part by part.
use Rattle.std.proofs.Common.{◌≡◌, ℕ, zero, suc, ◌+◌, ◌-◌, ◌<◌, ◌≤◌, true, false, List, [], ◌∷◌, ◌++◌, map, take, drop, get_or, length, codes, refl, sym, ap, ◌∙◌, arith, take-append-drop}
use Rattle.std.proofs.lemmas.List.{map-append, map_more, take_all}
use Rattle.dg_tree.specs.Texts.{with_commas}
use Rattle.dg_recurse.specs.declared.column.Column.{Column}
use Rattle.dg_recurse.specs.Rows.{objects_of, braced, not_empty, joined, enclosed}
use Rattle.dg_recurse.specs.Written.{edge_text, column_text, row_at, rows_behind}
use Rattle.dg_recurse.proofs.RowLaws.{joined_more, front_fits, both_fit, longer, objects_both, nothing_added}

-- the parts of some things up to a place are written
module _ {X : Type 0} (part : X → List ℕ) (xs : List X) (i : ℕ) (d : X) (lt : i < length xs) (out : List ℕ) (is : out ≡ joined (map part (take i xs))) where
  -- and one more
  pub then_joined : joined (out ∷ part (get_or xs i d) ∷ []) ≡ joined (map part (take (i + 1) xs))
  then_joined =
      ap (λ front. joined (front ∷ part (get_or xs i d) ∷ [])) is
      ∙ sym (joined_more (map part (take i xs)) (part (get_or xs i d)))
      ∙ ap joined (sym (map_more part xs i d lt))

  -- and one that is empty
  pub none_joined : part (get_or xs i d) ≡ [] → out ≡ joined (map part (take (i + 1) xs))
  none_joined none = nothing_added out [] [] [] refl ∙ ap (λ text. joined (out ∷ text ∷ [])) (sym none) ∙ then_joined

  then_fits : length (joined (out ∷ part (get_or xs i d) ∷ [])) ≤ length (joined (map part xs))
  then_fits =
      omega (
        arith,
        ap length then_joined,
        front_fits (map part (take (i + 1) xs)) (map part (drop (i + 1) xs)),
        ap (λ texts. length (joined texts)) (sym (map-append part (take (i + 1) xs) (drop (i + 1) xs)) ∙ ap (map part) (take-append-drop (i + 1) xs)),
      )

  -- what is too large with it is too large as a whole
  pub whole_passes : (limit : ℕ) → limit < length (joined (out ∷ part (get_or xs i d) ∷ [])) → limit < length (joined (map part xs))
  whole_passes limit above = omega (arith, above, then_fits)

  -- so is what has no room beside what is written
  pub room_passes : (limit : ℕ) (text : List ℕ) → length text ≤ length (part (get_or xs i d)) → limit - length out < length text → limit < length (joined (map part xs))
  room_passes limit text within above = omega (arith, above, within, both_fit out (part (get_or xs i d)), then_fits)

-- all parts are written
pub all_parts : {X : Type 0} (part : X → List ℕ) (xs : List X) (i : ℕ) (out : List ℕ) → length xs ≤ i → out ≡ joined (map part (take i xs)) → out ≡ joined (map part xs)
all_parts part xs i out past is = is ∙ ap (λ xs. joined (map part xs)) (take_all i xs past)

-- the row of a place, by its columns
pub row_is : (fetched : List Column) (left : ℕ) (path : List ℕ) (place : ℕ) → row_at fetched left path place ≡ joined (map (column_text (rows_behind fetched left path) place) fetched)
unfolding row_at
row_is fetched zero path place = refl
row_is fetched (suc left) path place = refl

-- ---- the first node that shows something

module _ (row : ℕ → List ℕ) (nodes : List ℕ) (i : ℕ) (lt : i < length nodes) (none : objects_of (map row (take i nodes)) ≡ []) where
  pub none_more : row (get_or nodes i 0) ≡ [] → objects_of (map row (take (i + 1) nodes)) ≡ []
  none_more empty =
      ap objects_of (map_more row nodes i 0 lt)
      ∙ objects_both (map row (take i nodes)) (row (get_or nodes i 0) ∷ [])
      ∙ (λ j. none j ++ objects_of (empty j ∷ []))

  split : objects_of (map row nodes) ≡ objects_of (row (get_or nodes i 0) ∷ map row (drop (i + 1) nodes))
  split =
      ap (λ nodes. objects_of (map row nodes)) (sym (take-append-drop (i + 1) nodes))
      ∙ ap objects_of (map-append row (take (i + 1) nodes) (drop (i + 1) nodes))
      ∙ objects_both (map row (take (i + 1) nodes)) (map row (drop (i + 1) nodes))
      ∙ ap (λ objects. objects ++ objects_of (map row (drop (i + 1) nodes))) (
      ap objects_of (map_more row nodes i 0 lt)
      ∙ objects_both (map row (take i nodes)) (row (get_or nodes i 0) ∷ [])
      ∙ ap (λ objects. objects ++ objects_of (row (get_or nodes i 0) ∷ [])) none
      )
      ∙ sym (objects_both (row (get_or nodes i 0) ∷ []) (map row (drop (i + 1) nodes)))

  pub first_is : (text : List ℕ) → text ≡ row (get_or nodes i 0) → (text ≡ [] → ⊥) → enclosed (codes "{") text (codes "}") ≡ edge_text true (objects_of (map row nodes))
  first_is text is some = one text some (map row (drop (i + 1) nodes)) ∙ ap (λ text. edge_text true (objects_of (text ∷ map row (drop (i + 1) nodes)))) is ∙ ap (edge_text true) (sym split)
    where
      one : (text : List ℕ) → (text ≡ [] → ⊥) → (rest : List (List ℕ)) → enclosed (codes "{") text (codes "}") ≡ edge_text true (objects_of (text ∷ rest))
      one [] some rest = absurd (some refl)
      one (byte ∷ text) some rest = refl

  -- where its row is too large, so is its object
  pub first_passes : (limit : ℕ) → limit < length (row (get_or nodes i 0)) → limit < length (edge_text true (objects_of (map row nodes)))
  first_passes limit above =
      omega (
        arith,
        above,
        longer (codes "{") (row (get_or nodes i 0)) (codes "}"),
        ap length (first_is (row (get_or nodes i 0)) refl (λ e. omega (arith, above, ap length e))),
      )

-- objects in brackets are the array of them, if there are any
pub array_is : (rows : List (List ℕ)) (text : List ℕ) → text ≡ with_commas (objects_of rows) → enclosed (codes "[") text (codes "]") ≡ edge_text false (objects_of rows)
array_is rows text is = ap (λ text. enclosed (codes "[") text (codes "]")) is ∙ by (not_empty rows)
  where
    by : (rows : List (List ℕ)) → enclosed (codes "[") (with_commas (map braced rows)) (codes "]") ≡ edge_text false (map braced rows)
    by [] = refl
    by (row ∷ rows) = refl
