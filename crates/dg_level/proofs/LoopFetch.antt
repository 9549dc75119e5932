-- What is fetched for each field, one after another.
use Rattle.std.proofs.Common.{◌≡◌, ℕ, zero, suc, ◌+◌, ◌<◌, ◌≤◌, Bool, List, [], ◌∷◌, ◌++◌, take, length, get_or, sym, ap, ◌∙◌, arith}
use Rattle.std.proofs.lemmas.List.{take_all}
use Rattle.dg_schema.specs.declared.definition.PredDef.{PredDef}
use Rattle.dg_graph.specs.declared.change.Triple.{Triple}
use Rattle.dg_parse.specs.declared.query.QField.{QField}
use Rattle.dg_check.specs.declared.parts.Field.{Field as Kept}
use Rattle.dg_check.specs.declared.vars.Variable.{Variable}
use Rattle.dg_level.specs.Looping.{planned_piece, planned_pieces}
use Rattle.dg_level.proofs.ColumnLaws.{none_before}

module _ (further : Bool) (schema : List PredDef) (graph : List Triple) (vars : List Variable) where
  next : (fields : List QField) (kept : List Kept) (i : ℕ) (q : QField) (k : Kept) → i < length fields → i < length kept
      → take (suc i) (planned_pieces further schema graph vars fields kept) ≡ take i (planned_pieces further schema graph vars fields kept) ++ planned_piece further schema graph vars (get_or fields i q) (get_or kept i k) ∷ []
  next [] kept i q k lt lk = absurd (omega (arith, lt))
  next (f ∷ fields) [] i q k lt lk = absurd (omega (arith, lk))
  next (f ∷ fields) (p ∷ kept) zero q k lt lk = ap (λ ps. planned_piece further schema graph vars f p ∷ ps) (none_before (planned_pieces further schema graph vars fields kept))
  next (f ∷ fields) (p ∷ kept) (suc i) q k lt lk = ap (λ ps. planned_piece further schema graph vars f p ∷ ps) (next fields kept i q k (omega (arith, lt)) (omega (arith, lk)))

  short : (fields : List QField) (kept : List Kept) → (length (planned_pieces further schema graph vars fields kept) ≤ length fields) × (length (planned_pieces further schema graph vars fields kept) ≤ length kept)
  short [] kept = (omega arith, omega arith)
  short (f ∷ fields) [] = (omega arith, omega arith)
  short (f ∷ fields) (p ∷ kept) = let rest = short fields kept in (omega (arith, rest.0), omega (arith, rest.1))

  -- one field more
  pub pieces_next : (fields : List QField) (kept : List Kept) (i : ℕ) (q : QField) (k : Kept) (field : QField) (part : Kept) → i < length fields → i < length kept → field ≡ get_or fields i q → part ≡ get_or kept i k
      → take (i + 1) (planned_pieces further schema graph vars fields kept) ≡ take i (planned_pieces further schema graph vars fields kept) ++ planned_piece further schema graph vars field part ∷ []
  pieces_next fields kept i q k field part lt lk is has =
      let e : i + 1 ≡ suc i = omega arith in
      ap (λ n. take n (planned_pieces further schema graph vars fields kept)) e
      ∙ next fields kept i q k lt lk
      ∙ sym (λ j. take i (planned_pieces further schema graph vars fields kept) ++ planned_piece further schema graph vars (is j) (has j) ∷ [])

  -- where fields or what is kept of them end, all are there
  pub pieces_end : (fields : List QField) (kept : List Kept) (i : ℕ) → length fields ≤ i → take i (planned_pieces further schema graph vars fields kept) ≡ planned_pieces further schema graph vars fields kept
  pieces_end fields kept i past = take_all i (planned_pieces further schema graph vars fields kept) (omega (arith, past, (short fields kept).0))

  pub pieces_kept : (fields : List QField) (kept : List Kept) (i : ℕ) → length kept ≤ i → take i (planned_pieces further schema graph vars fields kept) ≡ planned_pieces further schema graph vars fields kept
  pieces_kept fields kept i past = take_all i (planned_pieces further schema graph vars fields kept) (omega (arith, past, (short fields kept).1))
