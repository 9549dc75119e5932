-- A column for each field, one after another.
use Rattle.std.proofs.Common.{◌≡◌, ℕ, zero, suc, ◌+◌, ◌<◌, ◌≤◌, Bool, List, [], ◌∷◌, ◌++◌, take, drop, length, get_or, refl, sym, ap, ◌∙◌, arith, take-append-drop}
use Rattle.std.proofs.lemmas.List.{take_all}
use Rattle.std.proofs.lemmas.List.Sums.{sum_by-append, sum_by-cons}
use Rattle.dg_schema.specs.declared.definition.PredDef.{PredDef}
use Rattle.dg_graph.specs.declared.change.Triple.{Triple}
use Rattle.dg_parse.specs.declared.query.QField.{QField}
use Rattle.dg_check.specs.declared.parts.Field.{Field as Kept}
use Rattle.dg_check.specs.declared.vars.Variable.{Variable}
use Rattle.dg_level.specs.declared.column.Column.{Column}
use Rattle.dg_level.specs.Planned.{planned_field}
use Rattle.dg_level.specs.Columns.{FieldsOf, TreesOf, Shows, AreShown, bytes_of}
use Rattle.dg_level.specs.Levels.{trees_of, all_trees, all_fields, all_bytes}

-- one column more
pub shown_one_more : (graph : List Triple) (vars : List Variable) (nodes : List ℕ) (columns : List Column) (all : List FieldsOf) (column : Column) (fields : FieldsOf)
    → AreShown graph vars nodes columns all → Shows graph vars nodes column fields → AreShown graph vars nodes (columns ++ column ∷ []) (all ++ fields ∷ [])
shown_one_more graph vars nodes [] [] column fields are shows = (shows, tt)
shown_one_more graph vars nodes [] (f ∷ all) column fields are shows = absurd are
shown_one_more graph vars nodes (c ∷ columns) [] column fields are shows = absurd are
shown_one_more graph vars nodes (c ∷ columns) (f ∷ all) column fields are shows = (are.0, shown_one_more graph vars nodes columns all column fields are.1 shows)

-- bytes of one more, and of a front
pub bytes_more : (all : List TreesOf) (shown : TreesOf) (nodes : List ℕ) → all_bytes (all ++ shown ∷ []) nodes ≡ all_bytes all nodes + bytes_of shown nodes
bytes_more all shown nodes =
    omega (arith, sum_by-append (λ (t : TreesOf). bytes_of t nodes) all (shown ∷ []), sum_by-cons (λ (t : TreesOf). bytes_of t nodes) shown [])

pub bytes_front : (all : List TreesOf) (i : ℕ) (nodes : List ℕ) → all_bytes (take i all) nodes ≤ all_bytes all nodes
bytes_front all i nodes =
    omega (arith, ap (λ ts. all_bytes ts nodes) (sym (take-append-drop i all)), sum_by-append (λ (t : TreesOf). bytes_of t nodes) (take i all) (drop i all))

pub none_before : {X : Type 0} (xs : List X) → take 0 xs ≡ []
none_before [] = refl
none_before (x ∷ xs) = refl

module _ (schema : List PredDef) (graph : List Triple) (vars : List Variable) (cascade : Bool) where
  next_fields : (fields : List QField) (kept : List Kept) (i : ℕ) (q : QField) (k : Kept) → i < length fields → i < length kept
      → take (suc i) (all_fields schema graph vars cascade fields kept) ≡ take i (all_fields schema graph vars cascade fields kept) ++ (planned_field schema graph vars (get_or fields i q)).at cascade (get_or kept i k) ∷ []
  next_fields [] kept i q k lt lk = absurd (omega (arith, lt))
  next_fields (f ∷ fields) [] i q k lt lk = absurd (omega (arith, lk))
  next_fields (f ∷ fields) (p ∷ kept) zero q k lt lk = ap (λ fs. (planned_field schema graph vars f).at cascade p ∷ fs) (none_before (all_fields schema graph vars cascade fields kept))
  next_fields (f ∷ fields) (p ∷ kept) (suc i) q k lt lk = ap (λ fs. (planned_field schema graph vars f).at cascade p ∷ fs) (next_fields fields kept i q k (omega (arith, lt)) (omega (arith, lk)))

  next_trees : (fields : List QField) (kept : List Kept) (i : ℕ) (q : QField) (k : Kept) → i < length fields → i < length kept
      → take (suc i) (all_trees schema graph vars cascade fields kept) ≡ take i (all_trees schema graph vars cascade fields kept) ++ trees_of schema graph vars cascade (get_or fields i q).item (get_or kept i k).item ∷ []
  next_trees [] kept i q k lt lk = absurd (omega (arith, lt))
  next_trees (f ∷ fields) [] i q k lt lk = absurd (omega (arith, lk))
  next_trees (f ∷ fields) (p ∷ kept) zero q k lt lk = ap (λ ts. trees_of schema graph vars cascade f.item p.item ∷ ts) (none_before (all_trees schema graph vars cascade fields kept))
  next_trees (f ∷ fields) (p ∷ kept) (suc i) q k lt lk = ap (λ ts. trees_of schema graph vars cascade f.item p.item ∷ ts) (next_trees fields kept i q k (omega (arith, lt)) (omega (arith, lk)))

  fields_short : (fields : List QField) (kept : List Kept) → (length (all_fields schema graph vars cascade fields kept) ≤ length fields) × (length (all_fields schema graph vars cascade fields kept) ≤ length kept)
  fields_short [] kept = (omega arith, omega arith)
  fields_short (f ∷ fields) [] = (omega arith, omega arith)
  fields_short (f ∷ fields) (p ∷ kept) = let rest = fields_short fields kept in (omega (arith, rest.0), omega (arith, rest.1))

  module _ (fields : List QField) (kept : List Kept) (i : ℕ) (q : QField) (k : Kept) (field : QField) (part : Kept) (lt : i < length fields) (lk : i < length kept) (is : field ≡ get_or fields i q) (has : part ≡ get_or kept i k) where
    pub fields_next : take (i + 1) (all_fields schema graph vars cascade fields kept) ≡ take i (all_fields schema graph vars cascade fields kept) ++ (planned_field schema graph vars field).at cascade part ∷ []
    fields_next =
        let e : i + 1 ≡ suc i = omega arith in
        ap (λ n. take n (all_fields schema graph vars cascade fields kept)) e
        ∙ next_fields fields kept i q k lt lk
        ∙ sym (λ j. take i (all_fields schema graph vars cascade fields kept) ++ (planned_field schema graph vars (is j)).at cascade (has j) ∷ [])

    pub trees_next : take (i + 1) (all_trees schema graph vars cascade fields kept) ≡ take i (all_trees schema graph vars cascade fields kept) ++ trees_of schema graph vars cascade field.item part.item ∷ []
    trees_next =
        let e : i + 1 ≡ suc i = omega arith in
        ap (λ n. take n (all_trees schema graph vars cascade fields kept)) e
        ∙ next_trees fields kept i q k lt lk
        ∙ sym (λ j. take i (all_trees schema graph vars cascade fields kept) ++ trees_of schema graph vars cascade (is j).item (has j).item ∷ [])

  -- where fields or what is kept of them end, all columns are there
  pub all_at_end : (fields : List QField) (kept : List Kept) (i : ℕ) → length fields ≤ i → take i (all_fields schema graph vars cascade fields kept) ≡ all_fields schema graph vars cascade fields kept
  all_at_end fields kept i past = take_all i (all_fields schema graph vars cascade fields kept) (omega (arith, past, (fields_short fields kept).0))

  pub all_kept : (fields : List QField) (kept : List Kept) (i : ℕ) → length kept ≤ i → take i (all_fields schema graph vars cascade fields kept) ≡ all_fields schema graph vars cascade fields kept
  all_kept fields kept i past = take_all i (all_fields schema graph vars cascade fields kept) (omega (arith, past, (fields_short fields kept).1))
