-- What fields show by the plan, item by item, and how many bytes it has.
use Rattle.std.proofs.Common.{◌≡◌, ℕ, ◌≤◌, Bool, true, ◌⊎◌, inl, inr, List, [], ◌∷◌, ◌++◌, map, flat_map, length, refl, sym, ap, ◌∙◌, arith, length-append}
use Rattle.std.proofs.lemmas.List.{map-append}
use Rattle.std.specs.Prelude.{Some, None, is_some, unwrap_or, if◌then◌else◌}
use Rattle.dg_schema.specs.declared.definition.PredDef.{PredDef}
use Rattle.dg_graph.specs.declared.change.Triple.{Triple}
use Rattle.dg_parse.specs.declared.query.AggOp.{AggOp}
use Rattle.dg_parse.specs.declared.query.QArg.{QArg}
use Rattle.dg_parse.specs.declared.query.QDir.{QDir}
use Rattle.dg_parse.specs.declared.query.QEdge.{QEdge}
use Rattle.dg_parse.specs.declared.query.QField.{QField}
use Rattle.dg_parse.specs.declared.query.QItem.{QItem, QItem-F, fold-roll-QItem}
use Rattle.dg_parse.specs.declared.query.QItem.TheFolds.{map-QItem, fold_out-QItem, fold_out-QField}
use Rattle.dg_parse.specs.declared.query.QItem.TheVariants as items
use Rattle.dg_parse.specs.declared.query.QItem.TheViews.{out-QItem}
use Rattle.dg_parse.specs.Keys.{shown_key, item_key, key_of}
use Rattle.dg_check.specs.declared.parts.Field.{Field as Kept}
use Rattle.dg_check.specs.declared.parts.Item.{Item}
use Rattle.dg_check.specs.declared.parts.Item.TheViews.{out-Item}
use Rattle.dg_check.specs.declared.vars.Variable.{Variable}
use Rattle.dg_tree.specs.declared.tree.Tree.{Tree}
use Rattle.dg_tree.specs.declared.tree.Field.{Field}
use Rattle.dg_tree.specs.Texts.{tree_text, field_text}
use Rattle.dg_level.specs.Rows.{total, row_text}
use Rattle.dg_level.specs.Shown.{under, cascades, behind, is_count}
use Rattle.dg_level.specs.Planned.{PlannedItem, PlannedField, planned_counts, value_kept, value_there, step_of_item, step_of_field, planned_field, planned_at}
use Rattle.dg_level.specs.Keys.{count_keys, all_count_keys}
use Rattle.dg_level.specs.Columns.{TreesOf, shown_by}
use Rattle.dg_level.specs.Levels.{planned_item, trees_of, all_trees, all_fields, kept_trees, kept_there, all_bytes}
use Rattle.dg_level.proofs.RowLaws.{total_first, total_joined, longer_field, fields_within, columns_within}

module _ (schema : List PredDef) (graph : List Triple) (vars : List Variable) where
  -- ---- items, by their steps

  module _ (q : QItem) where
    pub item_uid : q ≡ items.Uid → planned_item schema graph vars q ≡ step_of_item schema graph vars QItem-F.Uid
    item_uid is =
        ap (λ i. planned_item schema graph vars i) (is ∙ sym items.rolls-Uid)
        ∙ fold-roll-QItem PlannedItem PlannedField (step_of_item schema graph vars) step_of_field QItem-F.Uid

    pub item_count_uid : q ≡ items.CountUid → planned_item schema graph vars q ≡ step_of_item schema graph vars QItem-F.CountUid
    item_count_uid is =
        ap (λ i. planned_item schema graph vars i) (is ∙ sym items.rolls-CountUid)
        ∙ fold-roll-QItem PlannedItem PlannedField (step_of_item schema graph vars) step_of_field QItem-F.CountUid

    pub item_count : (e : QEdge) → q ≡ items.Count e → planned_item schema graph vars q ≡ step_of_item schema graph vars (QItem-F.Count e)
    item_count e is =
        ap (λ i. planned_item schema graph vars i) (is ∙ sym (items.rolls-Count e))
        ∙ fold-roll-QItem PlannedItem PlannedField (step_of_item schema graph vars) step_of_field (QItem-F.Count e)

    pub item_val : (x : List ℕ) → q ≡ items.Val x → planned_item schema graph vars q ≡ step_of_item schema graph vars (QItem-F.Val x)
    item_val x is =
        ap (λ i. planned_item schema graph vars i) (is ∙ sym (items.rolls-Val x))
        ∙ fold-roll-QItem PlannedItem PlannedField (step_of_item schema graph vars) step_of_field (QItem-F.Val x)

    pub item_agg : (op : AggOp) (x : List ℕ) → q ≡ items.Agg op x → planned_item schema graph vars q ≡ step_of_item schema graph vars (QItem-F.Agg op x)
    item_agg op x is =
        ap (λ i. planned_item schema graph vars i) (is ∙ sym (items.rolls-Agg op x))
        ∙ fold-roll-QItem PlannedItem PlannedField (step_of_item schema graph vars) step_of_field (QItem-F.Agg op x)

    pub item_edge : (e : QEdge) (args : List QArg) (dirs : List QDir) (braces : List QField) → q ≡ items.Edge e args dirs (Some braces)
        → planned_item schema graph vars q ≡ step_of_item schema graph vars (QItem-F.Edge e args dirs (Some (map (planned_field schema graph vars) braces)))
    item_edge e args dirs braces is =
        ap (λ i. planned_item schema graph vars i) (is ∙ sym (items.rolls-Edge e args dirs (Some braces)))
        ∙ fold-roll-QItem PlannedItem PlannedField (step_of_item schema graph vars) step_of_field (QItem-F.Edge e args dirs (Some braces))

    pub item_bare : (e : QEdge) (args : List QArg) (dirs : List QDir) → q ≡ items.Edge e args dirs None → planned_item schema graph vars q ≡ step_of_item schema graph vars (QItem-F.Edge e args dirs None)
    item_bare e args dirs is =
        ap (λ i. planned_item schema graph vars i) (is ∙ sym (items.rolls-Edge e args dirs None))
        ∙ fold-roll-QItem PlannedItem PlannedField (step_of_item schema graph vars) step_of_field (QItem-F.Edge e args dirs None)

  -- what they show
  module _ (q : QItem) (cascade : Bool) (k : Item) where
    pub trees_val : (x : List ℕ) → q ≡ items.Val x → (n : ℕ) → trees_of schema graph vars cascade q k n ≡ value_kept vars n (out-Item k)
    trees_val x is n = ap (λ (p : PlannedItem). p.at cascade k n) (item_val q x is)

    pub trees_edge : (e : QEdge) (args : List QArg) (dirs : List QDir) (braces : List QField) → q ≡ items.Edge e args dirs (Some braces)
        → trees_of schema graph vars cascade q k ≡ kept_trees schema graph vars e args braces (cascades cascade dirs) (out-Item k)
    trees_edge e args dirs braces is = ap (λ (p : PlannedItem). p.at cascade k) (item_edge q e args dirs braces is)

    pub trees_bare : (e : QEdge) (args : List QArg) (dirs : List QDir) → q ≡ items.Edge e args dirs None
        → trees_of schema graph vars cascade q k ≡ kept_trees schema graph vars e args [] (cascades cascade dirs) (out-Item k)
    trees_bare e args dirs is = ap (λ (p : PlannedItem). p.at cascade k) (item_bare q e args dirs is)

  -- what shows nothing
  pub shows_none : (q : QItem) (cascade : Bool) (k : Item) → (q ≡ items.CountUid) ⊎ ((op : AggOp) × (x : List ℕ) × (q ≡ items.Agg op x)) → (n : ℕ) → trees_of schema graph vars cascade q k n ≡ []
  shows_none q cascade k (inl is) n = ap (λ (p : PlannedItem). p.at cascade k n) (item_count_uid q is)
  shows_none q cascade k (inr a) n = ap (λ (p : PlannedItem). p.at cascade k n) (item_agg q a.0 a.1 a.2)

  -- what is never missing
  pub never_missing : (q : QItem) (k : Item) → (q ≡ items.Uid) ⊎ ((q ≡ items.CountUid) ⊎ (((e : QEdge) × (q ≡ items.Count e)) ⊎ ((op : AggOp) × (x : List ℕ) × (q ≡ items.Agg op x)))) → (n : ℕ)
      → (planned_item schema graph vars q).there k n ≡ true
  never_missing q k (inl is) n = ap (λ (p : PlannedItem). p.there k n) (item_uid q is)
  never_missing q k (inr (inl is)) n = ap (λ (p : PlannedItem). p.there k n) (item_count_uid q is)
  never_missing q k (inr (inr (inl a))) n = ap (λ (p : PlannedItem). p.there k n) (item_count q a.0 a.1)
  never_missing q k (inr (inr (inr a))) n = ap (λ (p : PlannedItem). p.there k n) (item_agg q a.0 a.1 a.2)

  -- where they aren't missing
  module _ (q : QItem) (k : Item) where
    pub there_val : (x : List ℕ) → q ≡ items.Val x → (planned_item schema graph vars q).there k ≡ (λ (n : ℕ). value_there vars n (out-Item k))
    there_val x is = ap (λ (p : PlannedItem). p.there k) (item_val q x is)

    pub there_edge : (e : QEdge) (args : List QArg) (dirs : List QDir) (braces : List QField) → q ≡ items.Edge e args dirs (Some braces)
        → (planned_item schema graph vars q).there k ≡ kept_there schema graph vars e args braces (out-Item k)
    there_edge e args dirs braces is = ap (λ (p : PlannedItem). p.there k) (item_edge q e args dirs braces is)

    pub there_bare : (e : QEdge) (args : List QArg) (dirs : List QDir) → q ≡ items.Edge e args dirs None → (planned_item schema graph vars q).there k ≡ kept_there schema graph vars e args [] (out-Item k)
    there_bare e args dirs is = ap (λ (p : PlannedItem). p.there k) (item_bare q e args dirs is)

  -- ---- fields

  key_layer : (layer : QItem-F QItem QField) → shown_key (map-QItem QItem QField PlannedItem PlannedField (planned_item schema graph vars) (planned_field schema graph vars) layer) ≡ shown_key layer
  key_layer QItem-F.Uid = refl
  key_layer QItem-F.CountUid = refl
  key_layer (QItem-F.Count e) = refl
  key_layer (QItem-F.Val x) = refl
  key_layer (QItem-F.Agg op x) = refl
  key_layer (QItem-F.Edge e args dirs braces) = refl

  count_layer : (layer : QItem-F QItem QField) → is_count (map-QItem QItem QField PlannedItem PlannedField (planned_item schema graph vars) (planned_field schema graph vars) layer) ≡ is_count layer
  count_layer QItem-F.Uid = refl
  count_layer QItem-F.CountUid = refl
  count_layer (QItem-F.Count e) = refl
  count_layer (QItem-F.Val x) = refl
  count_layer (QItem-F.Agg op x) = refl
  count_layer (QItem-F.Edge e args dirs braces) = refl

  key_is : (q : QItem) → (planned_item schema graph vars q).key ≡ item_key q
  key_is q = ap (λ (p : PlannedItem). p.key) (fold_out-QItem PlannedItem PlannedField (step_of_item schema graph vars) step_of_field q) ∙ key_layer (out-QItem q)

  asks_is : (q : QItem) → (planned_item schema graph vars q).counts ≡ is_count (out-QItem q)
  asks_is q = ap (λ (p : PlannedItem). p.counts) (fold_out-QItem PlannedItem PlannedField (step_of_item schema graph vars) step_of_field q) ∙ count_layer (out-QItem q)

  -- a field shows the trees of its item under its key
  pub field_is : (q : QField) (cascade : Bool) (k : Kept) (n : ℕ) → (planned_field schema graph vars q).at cascade k n ≡ map (under (key_of q)) (trees_of schema graph vars cascade q.item k.item n)
  field_is q cascade k n =
      ap (λ (p : PlannedField). p.at cascade k n) (fold_out-QField PlannedItem PlannedField (step_of_item schema graph vars) step_of_field q)
      ∙ ap (λ key. map (under (unwrap_or q.alias key)) (trees_of schema graph vars cascade q.item k.item n)) (key_is q.item)

  -- it is missing where its item is
  pub field_there : (q : QField) (k : Kept) (n : ℕ) → (planned_field schema graph vars q).there k n ≡ (planned_item schema graph vars q.item).there k.item n
  field_there q k n = ap (λ (p : PlannedField). p.there k n) (fold_out-QField PlannedItem PlannedField (step_of_item schema graph vars) step_of_field q)

  -- the flat objects behind it
  pub field_after : (q : QField) (cascade : Bool) (k : Kept) (n : ℕ) (objects : List (List Field)) → (planned_field schema graph vars q).after cascade k n objects
      ≡ behind (is_some q.alias) (map (under (key_of q)) (trees_of schema graph vars cascade q.item k.item n)) ((planned_item schema graph vars q.item).flats cascade k.item n) objects
  field_after q cascade k n objects =
      ap (λ (p : PlannedField). p.after cascade k n objects) (fold_out-QField PlannedItem PlannedField (step_of_item schema graph vars) step_of_field q)
      ∙ ap (λ key. behind (is_some q.alias) (map (under (unwrap_or q.alias key)) (trees_of schema graph vars cascade q.item k.item n)) ((planned_item schema graph vars q.item).flats cascade k.item n) objects) (key_is q.item)

  counts_is : (q : QField) → (planned_field schema graph vars q).counts ≡ count_keys q
  counts_is q =
      ap (λ (p : PlannedField). p.counts) (fold_out-QField PlannedItem PlannedField (step_of_item schema graph vars) step_of_field q)
      ∙ λ i. if asks_is q.item i then unwrap_or q.alias (key_is q.item i) ∷ [] else []

  -- the keys under which numbers are asked for stand in the text
  pub all_counts : (fields : List QField) → planned_counts (map (planned_field schema graph vars) fields) ≡ all_count_keys fields
  all_counts [] = refl
  all_counts (q ∷ fields) = λ i. counts_is q i ++ all_counts fields i

  -- ---- all of them, where a cascade goes on from above or doesn't

  module _ (cascade : Bool) where
    -- what all show is what the plan says
    pub shown_is : (fields : List QField) (kept : List Kept) (n : ℕ) → shown_by (all_fields schema graph vars cascade fields kept) n ≡ planned_at schema graph vars cascade fields kept n
    shown_is [] kept n = refl
    shown_is (q ∷ fields) [] n = refl
    shown_is (q ∷ fields) (k ∷ kept) n = ap (λ more. (planned_field schema graph vars q).at cascade k n ++ more) (shown_is fields kept n)

    -- ---- bytes

    under_longer : (key : List ℕ) (shown : List Tree) → length (flat_map tree_text shown) ≤ total (map field_text (map (under key) shown))
    under_longer key [] = omega arith
    under_longer key (tree ∷ shown) =
        omega (arith, length-append (tree_text tree) (flat_map tree_text shown), under_longer key shown, longer_field (under key tree), total_first (field_text (under key tree)) (map field_text (map (under key) shown)))

    fields_hold : (fields : List QField) (kept : List Kept) (n : ℕ) → total (map (λ (t : TreesOf). flat_map tree_text (t n)) (all_trees schema graph vars cascade fields kept)) ≤ total (map field_text (planned_at schema graph vars cascade fields kept n))
    fields_hold [] kept n = omega arith
    fields_hold (q ∷ fields) [] n = omega arith
    fields_hold (q ∷ fields) (k ∷ kept) n =
        let here = (planned_field schema graph vars q).at cascade k n in
        let rest = planned_at schema graph vars cascade fields kept n in
        let shown = trees_of schema graph vars cascade q.item k.item n in
        omega (
          arith,
          total_first (flat_map tree_text shown) (map (λ (t : TreesOf). flat_map tree_text (t n)) (all_trees schema graph vars cascade fields kept)),
          under_longer (key_of q) shown,
          ap (λ fs. total (map field_text fs)) (field_is q cascade k n),
          ap total (map-append field_text here rest),
          total_joined (map field_text here) (map field_text rest),
          fields_hold fields kept n,
        )

    -- the trees of a level have no more bytes than its rows
    pub trees_within : (fields : List QField) (kept : List Kept) (nodes : List ℕ)
        → all_bytes (all_trees schema graph vars cascade fields kept) nodes ≤ total (map (λ n. row_text (planned_at schema graph vars cascade fields kept n)) nodes)
    trees_within fields kept nodes =
        columns_within (λ (t : TreesOf) n. flat_map tree_text (t n)) (all_trees schema graph vars cascade fields kept) (λ n. row_text (planned_at schema graph vars cascade fields kept n)) nodes
        (λ n. omega (arith, fields_hold fields kept n, fields_within (planned_at schema graph vars cascade fields kept n)))
