-- What fields make known by their text, and by what a plan keeps of it, item by item.
use Rattle.std.proofs.Common.{◌≡◌, ℕ, List, [], ◌++◌, map, sym, ap, ◌∙◌}
use Rattle.std.specs.Prelude.{Option, Some, None}
use Rattle.dg_schema.specs.declared.definition.PredDef.{PredDef}
use Rattle.dg_schema.specs.Definitions.{definition_of}
use Rattle.dg_graph.specs.declared.change.Triple.{Triple}
use Rattle.dg_parse.specs.declared.query.AggOp.{AggOp}
use Rattle.dg_parse.specs.declared.query.QArg.{QArg}
use Rattle.dg_parse.specs.declared.query.QDir.{QDir}
use Rattle.dg_parse.specs.declared.query.QEdge.{QEdge}
use Rattle.dg_parse.specs.declared.query.QField.{QField}
use Rattle.dg_parse.specs.declared.query.QItem.{QItem, QItem-F, fold-QItem, fold-roll-QItem}
use Rattle.dg_parse.specs.declared.query.QItem.TheFolds.{fold_out-QField}
use Rattle.dg_parse.specs.declared.query.QItem.TheVariants as items
use Rattle.dg_check.specs.declared.parts.Field.{Field as Kept}
use Rattle.dg_check.specs.declared.parts.Filter.{Filter}
use Rattle.dg_check.specs.declared.parts.Item.TheVariants as kept
use Rattle.dg_check.specs.declared.parts.OrderKey.{OrderKey}
use Rattle.dg_check.specs.declared.vars.Variable.{Variable}
use Rattle.dg_check.specs.Parts.{in_braces}
use Rattle.dg_check.specs.Variables.{Definition}
use Rattle.dg_level.specs.Lists.{least_value, children}
use Rattle.dg_level.specs.Shown.{sort_of}
use Rattle.dg_level.specs.Planned.{list_by}
use Rattle.dg_level.specs.Given.{edge_has, nodes_in_braces, GivenItem, GivenField, named_as, step_of_item, step_of_field, given_field, fields_give}
use Rattle.dg_level.specs.PlannedGiven.{PlannedHas, PlannedGives, edge_kept_has, edge_kept_inside, at_place, planned_given, planned_fields}
use Rattle.dg_level.specs.PlannedGiven as plans

-- ---- by the text

module _ (schema : List PredDef) (graph : List Triple) (ds : List Definition) (vars : List Variable) where
  -- an item of the text
  abbrev pub given_item : QItem → GivenItem
  given_item = fold-QItem GivenItem GivenField (step_of_item schema graph ds vars) (step_of_field ds)

  pub given_uid : given_item items.Uid ≡ step_of_item schema graph ds vars QItem-F.Uid
  given_uid = ap given_item (sym items.rolls-Uid) ∙ fold-roll-QItem GivenItem GivenField (step_of_item schema graph ds vars) (step_of_field ds) QItem-F.Uid

  pub given_count_uid : given_item items.CountUid ≡ step_of_item schema graph ds vars QItem-F.CountUid
  given_count_uid = ap given_item (sym items.rolls-CountUid) ∙ fold-roll-QItem GivenItem GivenField (step_of_item schema graph ds vars) (step_of_field ds) QItem-F.CountUid

  pub given_count : (e : QEdge) → given_item (items.Count e) ≡ step_of_item schema graph ds vars (QItem-F.Count e)
  given_count e = ap given_item (sym (items.rolls-Count e)) ∙ fold-roll-QItem GivenItem GivenField (step_of_item schema graph ds vars) (step_of_field ds) (QItem-F.Count e)

  pub given_val : (x : List ℕ) → given_item (items.Val x) ≡ step_of_item schema graph ds vars (QItem-F.Val x)
  given_val x = ap given_item (sym (items.rolls-Val x)) ∙ fold-roll-QItem GivenItem GivenField (step_of_item schema graph ds vars) (step_of_field ds) (QItem-F.Val x)

  pub given_agg : (op : AggOp) (x : List ℕ) → given_item (items.Agg op x) ≡ step_of_item schema graph ds vars (QItem-F.Agg op x)
  given_agg op x = ap given_item (sym (items.rolls-Agg op x)) ∙ fold-roll-QItem GivenItem GivenField (step_of_item schema graph ds vars) (step_of_field ds) (QItem-F.Agg op x)

  given_edge : (e : QEdge) (args : List QArg) (dirs : List QDir) (braces : List QField)
      → given_item (items.Edge e args dirs (Some braces)) ≡ step_of_item schema graph ds vars (QItem-F.Edge e args dirs (Some (map (given_field schema graph ds vars) braces)))
  given_edge e args dirs braces =
      ap given_item (sym (items.rolls-Edge e args dirs (Some braces))) ∙ fold-roll-QItem GivenItem GivenField (step_of_item schema graph ds vars) (step_of_field ds) (QItem-F.Edge e args dirs (Some braces))

  given_bare : (e : QEdge) (args : List QArg) (dirs : List QDir) → given_item (items.Edge e args dirs None) ≡ step_of_item schema graph ds vars (QItem-F.Edge e args dirs None)
  given_bare e args dirs = ap given_item (sym (items.rolls-Edge e args dirs None)) ∙ fold-roll-QItem GivenItem GivenField (step_of_item schema graph ds vars) (step_of_field ds) (QItem-F.Edge e args dirs None)

  module _ (e : QEdge) (args : List QArg) (dirs : List QDir) (nodes : List ℕ) where
    -- what an edge has
    pub edge_given : (braces : Option (List QField)) → (given_item (items.Edge e args dirs braces)).has nodes ≡ edge_has (sort_of (definition_of schema e.pred) e.back) (least_value graph e.pred) (children graph ds vars e args dirs) nodes
    edge_given None = ap (λ (p : GivenItem). p.has nodes) (given_bare e args dirs)
    edge_given (Some braces) = ap (λ (p : GivenItem). p.has nodes) (given_edge e args dirs braces)

    -- what stands in its braces
    pub braces_given : (braces : Option (List QField)) → (given_item (items.Edge e args dirs braces)).inside nodes
        ≡ fields_give schema graph ds vars (in_braces braces) (nodes_in_braces (sort_of (definition_of schema e.pred) e.back) (children graph ds vars e args dirs) nodes)
    braces_given None = ap (λ (p : GivenItem). p.inside nodes) (given_bare e args dirs)
    braces_given (Some braces) = ap (λ (p : GivenItem). p.inside nodes) (given_edge e args dirs braces)

  -- a field: its own variable, and those in its braces
  pub field_gives : (q : QField) (nodes : List ℕ) → given_field schema graph ds vars q nodes ≡ named_as ds q.var ((given_item q.item).has nodes) ++ (given_item q.item).inside nodes
  field_gives q nodes = ap (λ (f : GivenField). f nodes) (fold_out-QField GivenItem GivenField (step_of_item schema graph ds vars) (step_of_field ds) q)

-- ---- by the plan

module _ (schema : List PredDef) (graph : List Triple) (vars : List Variable) where
  -- an item of the text
  abbrev pub planned_item : QItem → PlannedHas
  planned_item = fold-QItem PlannedHas PlannedGives (plans.step_of_item schema graph vars) plans.step_of_field

  pub planned_uid : planned_item items.Uid ≡ plans.step_of_item schema graph vars QItem-F.Uid
  planned_uid = ap planned_item (sym items.rolls-Uid) ∙ fold-roll-QItem PlannedHas PlannedGives (plans.step_of_item schema graph vars) plans.step_of_field QItem-F.Uid

  pub planned_count_uid : planned_item items.CountUid ≡ plans.step_of_item schema graph vars QItem-F.CountUid
  planned_count_uid = ap planned_item (sym items.rolls-CountUid) ∙ fold-roll-QItem PlannedHas PlannedGives (plans.step_of_item schema graph vars) plans.step_of_field QItem-F.CountUid

  pub planned_count : (e : QEdge) → planned_item (items.Count e) ≡ plans.step_of_item schema graph vars (QItem-F.Count e)
  planned_count e = ap planned_item (sym (items.rolls-Count e)) ∙ fold-roll-QItem PlannedHas PlannedGives (plans.step_of_item schema graph vars) plans.step_of_field (QItem-F.Count e)

  pub planned_val : (x : List ℕ) → planned_item (items.Val x) ≡ plans.step_of_item schema graph vars (QItem-F.Val x)
  planned_val x = ap planned_item (sym (items.rolls-Val x)) ∙ fold-roll-QItem PlannedHas PlannedGives (plans.step_of_item schema graph vars) plans.step_of_field (QItem-F.Val x)

  pub planned_agg : (op : AggOp) (x : List ℕ) → planned_item (items.Agg op x) ≡ plans.step_of_item schema graph vars (QItem-F.Agg op x)
  planned_agg op x = ap planned_item (sym (items.rolls-Agg op x)) ∙ fold-roll-QItem PlannedHas PlannedGives (plans.step_of_item schema graph vars) plans.step_of_field (QItem-F.Agg op x)

  planned_edge : (e : QEdge) (args : List QArg) (dirs : List QDir) (braces : List QField)
      → planned_item (items.Edge e args dirs (Some braces)) ≡ plans.step_of_item schema graph vars (QItem-F.Edge e args dirs (Some (map (planned_given schema graph vars) braces)))
  planned_edge e args dirs braces =
      ap planned_item (sym (items.rolls-Edge e args dirs (Some braces))) ∙ fold-roll-QItem PlannedHas PlannedGives (plans.step_of_item schema graph vars) plans.step_of_field (QItem-F.Edge e args dirs (Some braces))

  planned_bare : (e : QEdge) (args : List QArg) (dirs : List QDir) → planned_item (items.Edge e args dirs None) ≡ plans.step_of_item schema graph vars (QItem-F.Edge e args dirs None)
  planned_bare e args dirs = ap planned_item (sym (items.rolls-Edge e args dirs None)) ∙ fold-roll-QItem PlannedHas PlannedGives (plans.step_of_item schema graph vars) plans.step_of_field (QItem-F.Edge e args dirs None)

  module _ (e : QEdge) (args : List QArg) (dirs : List QDir) (orders : List OrderKey) (filters : List Filter) (inner : List Kept) (nodes : List ℕ) where
    -- what an edge has
    pub edge_planned : (braces : Option (List QField)) → (planned_item (items.Edge e args dirs braces)).has (kept.Edge orders filters inner) nodes
        ≡ edge_has (sort_of (definition_of schema e.pred) e.back) (least_value graph e.pred) (list_by graph vars e args (sort_of (definition_of schema e.pred) e.back) orders filters) nodes
    edge_planned None =
        ap (λ (p : PlannedHas). p.has (kept.Edge orders filters inner) nodes) (planned_bare e args dirs)
        ∙ λ i. edge_kept_has graph vars e args (sort_of (definition_of schema e.pred) e.back) (kept.outs-Edge orders filters inner i) nodes
    edge_planned (Some braces) =
        ap (λ (p : PlannedHas). p.has (kept.Edge orders filters inner) nodes) (planned_edge e args dirs braces)
        ∙ λ i. edge_kept_has graph vars e args (sort_of (definition_of schema e.pred) e.back) (kept.outs-Edge orders filters inner i) nodes

    -- what stands in its braces
    pub braces_planned : (braces : Option (List QField)) → (planned_item (items.Edge e args dirs braces)).inside (kept.Edge orders filters inner) nodes
        ≡ planned_fields schema graph vars (in_braces braces) inner (nodes_in_braces (sort_of (definition_of schema e.pred) e.back) (list_by graph vars e args (sort_of (definition_of schema e.pred) e.back) orders filters) nodes)
    braces_planned None =
        ap (λ (p : PlannedHas). p.inside (kept.Edge orders filters inner) nodes) (planned_bare e args dirs)
        ∙ λ i. edge_kept_inside graph vars e args [] (sort_of (definition_of schema e.pred) e.back) (kept.outs-Edge orders filters inner i) nodes
    braces_planned (Some braces) =
        ap (λ (p : PlannedHas). p.inside (kept.Edge orders filters inner) nodes) (planned_edge e args dirs braces)
        ∙ λ i. edge_kept_inside graph vars e args (map (planned_given schema graph vars) braces) (sort_of (definition_of schema e.pred) e.back) (kept.outs-Edge orders filters inner i) nodes

  -- a field: the variable at its place, and those in its braces
  pub field_planned : (q : QField) (k : Kept) (nodes : List ℕ) → planned_given schema graph vars q k nodes ≡ at_place k.var ((planned_item q.item).has k.item nodes) ++ (planned_item q.item).inside k.item nodes
  field_planned q k nodes = ap (λ (f : PlannedGives). f k nodes) (fold_out-QField PlannedHas PlannedGives (plans.step_of_item schema graph vars) plans.step_of_field q)
