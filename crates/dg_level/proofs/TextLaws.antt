-- What fields show by their text, item by item.
use Rattle.std.proofs.Common.{◌≡◌, ℕ, Bool, List, [], ◌∷◌, ◌++◌, map, refl, sym, ap, ◌∙◌}
use Rattle.std.specs.Prelude.{Option, Some, None, is_some, unwrap_or, if◌then◌else◌}
use Rattle.dg_schema.specs.declared.definition.PredDef.{PredDef}
use Rattle.dg_schema.specs.Definitions.{definition_of}
use Rattle.dg_graph.specs.declared.change.Triple.{Triple}
use Rattle.dg_graph.specs.Graphs.{objects}
use Rattle.dg_parse.specs.declared.query.AggOp.{AggOp}
use Rattle.dg_parse.specs.declared.query.QArg.{QArg}
use Rattle.dg_parse.specs.declared.query.QDir.{QDir}
use Rattle.dg_parse.specs.declared.query.QEdge.{QEdge}
use Rattle.dg_parse.specs.declared.query.QField.{QField}
use Rattle.dg_parse.specs.declared.query.QItem.{QItem, QItem-F, fold-QItem, fold-roll-QItem}
use Rattle.dg_parse.specs.declared.query.QItem.TheFolds.{map-QItem, fold_out-QItem, fold_out-QField}
use Rattle.dg_parse.specs.declared.query.QItem.TheVariants as items
use Rattle.dg_parse.specs.declared.query.QItem.TheViews.{out-QItem}
use Rattle.dg_parse.specs.Keys.{shown_key, item_key, key_of}
use Rattle.dg_check.specs.declared.vars.Variable.{Variable}
use Rattle.dg_check.specs.Parts.{in_braces}
use Rattle.dg_check.specs.Variables.{Definition}
use Rattle.dg_tree.specs.declared.tree.Tree.{Tree}
use Rattle.dg_tree.specs.declared.tree.Field.{Field}
use Rattle.dg_level.specs.Answers.{shown}
use Rattle.dg_level.specs.Lists.{children}
use Rattle.dg_level.specs.Shown.{sort_of, under, edge_shown, cascades, remaining, edge_there, edge_flats, behind, ShownItem, ShownField, counts_of, is_count, step_of_item, step_of_field, shown_field, fields_at, whole_at, objects_at}
use Rattle.dg_level.specs.Keys.{count_keys, all_count_keys}

module _ (schema : List PredDef) (graph : List Triple) (ds : List Definition) (vars : List Variable) where
  -- an item of the text
  abbrev pub shown_item : QItem → ShownItem
  shown_item = fold-QItem ShownItem ShownField (step_of_item schema graph ds vars) step_of_field

  -- ---- items, by their steps

  pub said_uid : shown_item items.Uid ≡ step_of_item schema graph ds vars QItem-F.Uid
  said_uid = ap (λ i. shown_item i) (sym items.rolls-Uid) ∙ fold-roll-QItem ShownItem ShownField (step_of_item schema graph ds vars) step_of_field QItem-F.Uid

  pub said_count_uid : shown_item items.CountUid ≡ step_of_item schema graph ds vars QItem-F.CountUid
  said_count_uid = ap (λ i. shown_item i) (sym items.rolls-CountUid) ∙ fold-roll-QItem ShownItem ShownField (step_of_item schema graph ds vars) step_of_field QItem-F.CountUid

  pub said_count : (e : QEdge) → shown_item (items.Count e) ≡ step_of_item schema graph ds vars (QItem-F.Count e)
  said_count e = ap (λ i. shown_item i) (sym (items.rolls-Count e)) ∙ fold-roll-QItem ShownItem ShownField (step_of_item schema graph ds vars) step_of_field (QItem-F.Count e)

  pub said_val : (x : List ℕ) → shown_item (items.Val x) ≡ step_of_item schema graph ds vars (QItem-F.Val x)
  said_val x = ap (λ i. shown_item i) (sym (items.rolls-Val x)) ∙ fold-roll-QItem ShownItem ShownField (step_of_item schema graph ds vars) step_of_field (QItem-F.Val x)

  pub said_agg : (op : AggOp) (x : List ℕ) → shown_item (items.Agg op x) ≡ step_of_item schema graph ds vars (QItem-F.Agg op x)
  said_agg op x = ap (λ i. shown_item i) (sym (items.rolls-Agg op x)) ∙ fold-roll-QItem ShownItem ShownField (step_of_item schema graph ds vars) step_of_field (QItem-F.Agg op x)

  said_edge : (e : QEdge) (args : List QArg) (dirs : List QDir) (braces : List QField)
      → shown_item (items.Edge e args dirs (Some braces)) ≡ step_of_item schema graph ds vars (QItem-F.Edge e args dirs (Some (map (shown_field schema graph ds vars) braces)))
  said_edge e args dirs braces =
      ap (λ i. shown_item i) (sym (items.rolls-Edge e args dirs (Some braces)))
      ∙ fold-roll-QItem ShownItem ShownField (step_of_item schema graph ds vars) step_of_field (QItem-F.Edge e args dirs (Some braces))

  said_bare : (e : QEdge) (args : List QArg) (dirs : List QDir) → shown_item (items.Edge e args dirs None) ≡ step_of_item schema graph ds vars (QItem-F.Edge e args dirs None)
  said_bare e args dirs =
      ap (λ i. shown_item i) (sym (items.rolls-Edge e args dirs None))
      ∙ fold-roll-QItem ShownItem ShownField (step_of_item schema graph ds vars) step_of_field (QItem-F.Edge e args dirs None)

  -- ---- keys

  key_layer : (layer : QItem-F QItem QField) → shown_key (map-QItem QItem QField ShownItem ShownField shown_item (shown_field schema graph ds vars) layer) ≡ shown_key layer
  key_layer QItem-F.Uid = refl
  key_layer QItem-F.CountUid = refl
  key_layer (QItem-F.Count e) = refl
  key_layer (QItem-F.Val x) = refl
  key_layer (QItem-F.Agg op x) = refl
  key_layer (QItem-F.Edge e args dirs braces) = refl

  count_layer : (layer : QItem-F QItem QField) → is_count (map-QItem QItem QField ShownItem ShownField shown_item (shown_field schema graph ds vars) layer) ≡ is_count layer
  count_layer QItem-F.Uid = refl
  count_layer QItem-F.CountUid = refl
  count_layer (QItem-F.Count e) = refl
  count_layer (QItem-F.Val x) = refl
  count_layer (QItem-F.Agg op x) = refl
  count_layer (QItem-F.Edge e args dirs braces) = refl

  key_is : (q : QItem) → (shown_item q).key ≡ item_key q
  key_is q = ap (λ (p : ShownItem). p.key) (fold_out-QItem ShownItem ShownField (step_of_item schema graph ds vars) step_of_field q) ∙ key_layer (out-QItem q)

  asks_is : (q : QItem) → (shown_item q).counts ≡ is_count (out-QItem q)
  asks_is q = ap (λ (p : ShownItem). p.counts) (fold_out-QItem ShownItem ShownField (step_of_item schema graph ds vars) step_of_field q) ∙ count_layer (out-QItem q)

  -- a field shows the trees of its item under its key
  pub text_field : (q : QField) (cascade : Bool) (n : ℕ) → (shown_field schema graph ds vars q).at cascade n ≡ map (under (key_of q)) ((shown_item q.item).at cascade n)
  text_field q cascade n =
      ap (λ (p : ShownField). p.at cascade n) (fold_out-QField ShownItem ShownField (step_of_item schema graph ds vars) step_of_field q)
      ∙ ap (λ key. map (under (unwrap_or q.alias key)) ((shown_item q.item).at cascade n)) (key_is q.item)

  -- it is missing where its item is
  pub text_there : (q : QField) (n : ℕ) → (shown_field schema graph ds vars q).there n ≡ (shown_item q.item).there n
  text_there q n = ap (λ (p : ShownField). p.there n) (fold_out-QField ShownItem ShownField (step_of_item schema graph ds vars) step_of_field q)

  -- the flat objects behind it
  pub text_after : (q : QField) (cascade : Bool) (n : ℕ) (objects : List (List Field)) → (shown_field schema graph ds vars q).after cascade n objects
      ≡ behind (is_some q.alias) (map (under (key_of q)) ((shown_item q.item).at cascade n)) ((shown_item q.item).flats cascade n) objects
  text_after q cascade n objects =
      ap (λ (p : ShownField). p.after cascade n objects) (fold_out-QField ShownItem ShownField (step_of_item schema graph ds vars) step_of_field q)
      ∙ ap (λ key. behind (is_some q.alias) (map (under (unwrap_or q.alias key)) ((shown_item q.item).at cascade n)) ((shown_item q.item).flats cascade n) objects) (key_is q.item)

  counts_is : (q : QField) → (shown_field schema graph ds vars q).counts ≡ count_keys q
  counts_is q =
      ap (λ (p : ShownField). p.counts) (fold_out-QField ShownItem ShownField (step_of_item schema graph ds vars) step_of_field q)
      ∙ λ i. if asks_is q.item i then unwrap_or q.alias (key_is q.item i) ∷ [] else []

  pub text_counts : (fields : List QField) → counts_of (map (shown_field schema graph ds vars) fields) ≡ all_count_keys fields
  text_counts [] = refl
  text_counts (q ∷ fields) = λ i. counts_is q i ++ text_counts fields i

  -- ---- edges, by what stands in their braces

  module _ (e : QEdge) (args : List QArg) (dirs : List QDir) (n : ℕ) where
    -- where they aren't missing
    pub edge_there_is : (braces : Option (List QField)) → (shown_item (items.Edge e args dirs braces)).there n
        ≡ edge_there (sort_of (definition_of schema e.pred) e.back) (shown (definition_of schema e.pred) (objects graph e.pred n)) (whole_at schema graph ds vars (in_braces braces)) (children graph ds vars e args dirs n)
    edge_there_is None = ap (λ (p : ShownItem). p.there n) (said_bare e args dirs)
    edge_there_is (Some braces) = ap (λ (p : ShownItem). p.there n) (said_edge e args dirs braces)

    module _ (cascade : Bool) where
      -- the nodes that remain
      abbrev pub so_left : List QField → List ℕ
      so_left braces = remaining (cascades cascade dirs) (whole_at schema graph ds vars braces) (children graph ds vars e args dirs n)

      abbrev so_shown : List QField → List Tree
      so_shown braces =
          edge_shown (sort_of (definition_of schema e.pred) e.back) (shown (definition_of schema e.pred) (objects graph e.pred n)) (all_count_keys braces) (fields_at schema graph ds vars (cascades cascade dirs) braces) (so_left braces)

      with_counts : (braces : List QField)
          → edge_shown (sort_of (definition_of schema e.pred) e.back) (shown (definition_of schema e.pred) (objects graph e.pred n)) (counts_of (map (shown_field schema graph ds vars) braces)) (fields_at schema graph ds vars (cascades cascade dirs) braces) (so_left braces)
          ≡ so_shown braces
      with_counts braces =
          ap (λ counts. edge_shown (sort_of (definition_of schema e.pred) e.back) (shown (definition_of schema e.pred) (objects graph e.pred n)) counts (fields_at schema graph ds vars (cascades cascade dirs) braces) (so_left braces)) (text_counts braces)

      -- what they show
      pub text_edge : (braces : Option (List QField)) → (shown_item (items.Edge e args dirs braces)).at cascade n ≡ so_shown (in_braces braces)
      text_edge None = ap (λ (p : ShownItem). p.at cascade n) (said_bare e args dirs) ∙ with_counts []
      text_edge (Some braces) = ap (λ (p : ShownItem). p.at cascade n) (said_edge e args dirs braces) ∙ with_counts braces

      -- the flat objects of their nodes
      pub edge_flats_are : (braces : Option (List QField)) → (shown_item (items.Edge e args dirs braces)).flats cascade n
          ≡ edge_flats (sort_of (definition_of schema e.pred) e.back) (objects_at schema graph ds vars (cascades cascade dirs) (in_braces braces)) (so_left (in_braces braces))
      edge_flats_are None = ap (λ (p : ShownItem). p.flats cascade n) (said_bare e args dirs)
      edge_flats_are (Some braces) = ap (λ (p : ShownItem). p.flats cascade n) (said_edge e args dirs braces)
