-- A row, column by column, and rows, node by node.
use Rattle.std.proofs.Common.{◌≡◌, ℕ, zero, suc, ◌+◌, ◌<◌, ◌≤◌, List, [], ◌∷◌, ◌++◌, map, take, drop, length, get_or, refl, sym, ap, ◌∙◌, subst, arith, take-append-drop, append-nil}
use Rattle.std.proofs.lemmas.List.{take_more, take_all, map_more, map-append}
use Rattle.std.proofs.lemmas.List.Concat.{flat_map-append}
use Rattle.std.specs.Prelude.{Some, slice_get}
use Rattle.dg_graph.specs.declared.change.Triple.{Triple}
use Rattle.dg_check.specs.declared.vars.Variable.{Variable}
use Rattle.dg_tree.specs.declared.tree.Tree.{Tree}
use Rattle.dg_tree.specs.Texts.{field_text}
use Rattle.dg_level.specs.declared.column.Column.{Column}
use Rattle.dg_level.specs.Rows.{total, row_text, with_fields}
use Rattle.dg_level.specs.Shown.{under}
use Rattle.dg_level.specs.Columns.{FieldsOf, Shows, AreShown, shown_by}
use Rattle.dg_level.proofs.RowLaws.{total_first, total_joined, parts_within, fields_more}

-- nothing at any node
abbrev pub nothing : FieldsOf
nothing n = []

-- ---- columns

module _ (graph : List Triple) (vars : List Variable) (nodes : List ℕ) where
  pub as_many : (columns : List Column) (all : List FieldsOf) → AreShown graph vars nodes columns all → length columns ≡ length all
  as_many [] [] are = refl
  as_many [] (fields ∷ all) are = absurd are
  as_many (column ∷ columns) [] are = absurd are
  as_many (column ∷ columns) (fields ∷ all) are = ap suc (as_many columns all are.1)

  at_place : (columns : List Column) (all : List FieldsOf) (i : ℕ) (d : Column) → AreShown graph vars nodes columns all → i < length columns → Shows graph vars nodes (get_or columns i d) (get_or all i nothing)
  at_place [] all i d are lt = absurd (omega (arith, lt))
  at_place (column ∷ columns) [] i d are lt = absurd are
  at_place (column ∷ columns) (fields ∷ all) zero d are lt = are.0
  at_place (column ∷ columns) (fields ∷ all) (suc i) d are lt = at_place columns all i d are.1 (omega (arith, lt))

  -- the column at a place shows what is told of it
  pub column_at : (columns : List Column) (all : List FieldsOf) (i : ℕ) (column : Column) → AreShown graph vars nodes columns all → i < length columns → column ≡ get_or columns i column → Shows graph vars nodes column (get_or all i nothing)
  column_at columns all i column are lt is = subst (λ k. Shows graph vars nodes k (get_or all i nothing)) (sym is) (at_place columns all i column are lt)

-- ---- a row

none_taken : (all : List FieldsOf) → take 0 all ≡ []
none_taken [] = refl
none_taken (fields ∷ all) = refl

pub row_begins : (all : List FieldsOf) (n : ℕ) (begun : List ℕ) → begun ≡ [] → begun ≡ row_text (shown_by (take 0 all) n)
row_begins all n begun none = none ∙ sym (ap (λ fs. row_text (shown_by fs n)) (none_taken all))

pub shown_more : (all : List FieldsOf) (i n : ℕ) → i < length all → shown_by (take (i + 1) all) n ≡ shown_by (take i all) n ++ get_or all i nothing n
shown_more all i n lt =
    ap (λ fs. shown_by fs n) (take_more all i nothing lt)
    ∙ flat_map-append (λ (fields : FieldsOf). fields n) (take i all) (get_or all i nothing ∷ [])
    ∙ ap (λ fs. shown_by (take i all) n ++ fs) (append-nil (get_or all i nothing n))

row_length : (row : List ℕ) (more : List (List ℕ)) → length row ≤ length (with_fields row more)
row_length [] more = omega arith
row_length (byte ∷ row) more = omega (arith, parts_within ((byte ∷ row) ∷ more), total_first (byte ∷ row) more)

-- a front of a row is no longer than the row
pub front_within : (all : List FieldsOf) (i n : ℕ) → length (row_text (shown_by (take i all) n)) ≤ length (row_text (shown_by all n))
front_within all i n =
    let front = shown_by (take i all) n in
    let rest = shown_by (drop i all) n in
    let whole : shown_by all n ≡ front ++ rest = ap (λ fs. shown_by fs n) (sym (take-append-drop i all)) ∙ flat_map-append (λ (fields : FieldsOf). fields n) (take i all) (drop i all) in
    omega (arith, ap (λ fs. length (row_text fs)) whole, ap length (fields_more front rest), row_length (row_text front) (map field_text rest))

module _ (all : List FieldsOf) (i n : ℕ) (lt : i < length all) (begun name : List ℕ) (shown : List Tree) (so : begun ≡ row_text (shown_by (take i all) n)) (fields_are : get_or all i nothing n ≡ map (under name) shown) where
  row_is : with_fields begun (map field_text (map (under name) shown)) ≡ row_text (shown_by (take (i + 1) all) n)
  row_is =
      let back = sym fields_are in
      (λ j. with_fields (so j) (map field_text (back j)))
      ∙ fields_more (shown_by (take i all) n) (get_or all i nothing n)
      ∙ ap row_text (sym (shown_more all i n lt))

  -- with one column more
  pub row_goes_on : (more : List ℕ) → more ≡ with_fields begun (map field_text (map (under name) shown)) → more ≡ row_text (shown_by (take (i + 1) all) n)
  row_goes_on more added = added ∙ row_is

  -- what is too large with it is too large as a whole
  pub row_passes : (rows : List (List ℕ)) (limit : ℕ) → limit < total rows + length (with_fields begun (map field_text (map (under name) shown))) → limit < total (rows ++ row_text (shown_by all n) ∷ [])
  row_passes rows limit above =
      omega (arith, above, ap length row_is, front_within all (i + 1) n, total_joined rows (row_text (shown_by all n) ∷ []), total_first (row_text (shown_by all n)) [])

-- the whole row
pub row_ends : (all : List FieldsOf) (i n : ℕ) (begun : List ℕ) → length all ≤ i → begun ≡ row_text (shown_by (take i all) n) → begun ≡ row_text (shown_by all n)
row_ends all i n begun past so = so ∙ ap (λ fs. row_text (shown_by fs n)) (take_all i all past)

-- ---- rows

pub node_at : (nodes : List ℕ) (i d : ℕ) → i < length nodes → slice_get nodes i ≡ Some (get_or nodes i d)
node_at [] i d lt = absurd (omega (arith, lt))
node_at (n ∷ nodes) zero d lt = refl
node_at (n ∷ nodes) (suc i) d lt = node_at nodes i d (omega (arith, lt))

-- what is too large with one row more is too large as a whole
pub rows_pass : (f : ℕ → List ℕ) (nodes : List ℕ) (i d limit : ℕ) → i < length nodes → limit < total (map f (take i nodes) ++ f (get_or nodes i d) ∷ []) → limit < total (map f nodes)
rows_pass f nodes i d limit lt above =
    omega (
      arith,
      above,
      ap total (map_more f nodes i d lt),
      ap (λ ns. total (map f ns)) (sym (take-append-drop (i + 1) nodes)),
      ap total (map-append f (take (i + 1) nodes) (drop (i + 1) nodes)),
      total_joined (map f (take (i + 1) nodes)) (map f (drop (i + 1) nodes)),
    )
