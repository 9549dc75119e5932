-- The flat objects of nodes by the plan, field by field.
use Rattle.std.proofs.Common.{◌≡◌, ℕ, zero, suc, ◌+◌, ◌<◌, ◌≤◌, Bool, true, false, List, [], ◌∷◌, map, flat_map, take, length, get_or, refl, sym, ap, ◌∙◌, subst, arith, true≢false}
use Rattle.std.specs.Prelude.{Option, Some, None, is_some, unwrap_or}
use Rattle.dg_schema.specs.declared.definition.PredDef.{PredDef}
use Rattle.dg_schema.specs.Definitions.{definition_of}
use Rattle.dg_graph.specs.declared.change.Triple.{Triple}
use Rattle.dg_graph.specs.Graphs.{objects}
use Rattle.dg_parse.specs.declared.query.QArg.{QArg}
use Rattle.dg_parse.specs.declared.query.QEdge.{QEdge}
use Rattle.dg_parse.specs.declared.query.QField.{QField}
use Rattle.dg_parse.specs.declared.query.QItem.{QItem, QItem-F}
use Rattle.dg_parse.specs.declared.query.QItem.TheFolds.{map-QItem, fold_out-QItem}
use Rattle.dg_parse.specs.declared.query.QItem.TheViews.{out-QItem}
use Rattle.dg_parse.specs.Keys.{item_key, key_of}
use Rattle.dg_check.specs.declared.parts.Field.{Field as Kept}
use Rattle.dg_check.specs.declared.parts.Item.{Item, Item-F}
use Rattle.dg_check.specs.declared.parts.Item.TheViews.{out-Item}
use Rattle.dg_check.specs.declared.vars.Variable.{Variable}
use Rattle.dg_shape.specs.Normalize.{times}
use Rattle.dg_tree.specs.declared.tree.Tree.{Tree}
use Rattle.dg_tree.specs.declared.tree.Field.{Field}
use Rattle.dg_level.specs.declared.sorts.Sort.{Sort}
use Rattle.dg_level.specs.declared.sorts.Sort.TheVariants as sorts
use Rattle.dg_level.specs.Answers.{shown}
use Rattle.dg_level.specs.Shown.{sort_of, under, edge_shown, edge_flats, cascades, behind}
use Rattle.dg_level.specs.Planned.{PlannedItem, PlannedField, is_single, edge_kept, edge_kept_flats, trees_by, item_flats, step_of_item, step_of_field, planned_field, after_by, planned_flats}
use Rattle.dg_level.specs.Levels.{planned_item, trees_of, left_of, leads_to_nodes, own_shown, bare_trees}
use Rattle.dg_level.specs.Flats.{weight_in, has_object, AreAllApart}
use Rattle.dg_level.specs.FlatLevels.{FlatsOf, own_trees, with_own, sort_in, behind_edge, behind_item, behind_field, behind_fields}
use Rattle.dg_level.proofs.PlannedLaws.{field_after}
use Rattle.dg_level.proofs.FlatCounts.{shown_heavier, times_heavier, shown_has, times_has, shown_apart, filled_apart, times_apart}
use Rattle.dg_level.proofs.FlatTurns.{joined_none}

-- ---- behind a field that leads to no nodes

-- what is shown under an alias, which is its key
alone : (alias : Option (List ℕ)) (key : List ℕ) (trees : List Tree) (objects : List (List Field)) → behind (is_some alias) (map (under (unwrap_or alias key)) trees) None objects ≡ with_own alias trees objects
alone None key trees objects = refl
alone (Some name) key trees objects = refl

nothing : (alias : Option (List ℕ)) (objects : List (List Field)) → with_own alias [] objects ≡ objects
nothing None objects = refl
nothing (Some name) objects = joined_none objects

abbrev no_objects : FlatsOf
no_objects n = []

no_flats : (nodes : List ℕ) → flat_map no_objects nodes ≡ []
no_flats [] = refl
no_flats (n ∷ nodes) = no_flats nodes

module _ (alias : Option (List ℕ)) (key : List ℕ) (before : List (List Field)) (values : List Tree) (counts : List (List ℕ)) (at : ℕ → List Field) (left : List ℕ) where
  -- an edge that leads to no nodes
  edge_alone : (flats : FlatsOf) (sort : Sort) → leads_to_nodes sort ≡ false → behind (is_some alias) (map (under (unwrap_or alias key)) (edge_shown sort values counts at left)) (edge_flats sort flats left) before ≡ with_own alias (own_shown sort values) before
  edge_alone flats sorts.Nothing e = alone alias key [] before
  edge_alone flats sorts.Values e = alone alias key values before
  edge_alone flats sorts.Node e = absurd (true≢false e)
  edge_alone flats sorts.Nodes e = absurd (true≢false e)

  -- nodes of which no field is asked for have no objects
  edge_bare : (sort : Sort) → behind (is_some alias) (map (under (unwrap_or alias key)) (edge_shown sort values counts at left)) (edge_flats sort (λ n. []) left) before ≡ with_own alias (own_shown sort values) before
  edge_bare sorts.Nothing = alone alias key [] before
  edge_bare sorts.Values = alone alias key values before
  edge_bare sorts.Node = ap (times before) (no_flats left) ∙ sym (nothing alias before)
  edge_bare sorts.Nodes = ap (times before) (no_flats left) ∙ sym (nothing alias before)

-- an edge that leads to nodes
edge_to : (alias : Bool) (shown : List Field) (before : List (List Field)) (flats : FlatsOf) (left : List ℕ) (sort : Sort) → leads_to_nodes sort ≡ true → behind alias shown (edge_flats sort flats left) before ≡ times before (flat_map flats left)
edge_to alias shown before flats left sorts.Nothing e = absurd (true≢false (sym e))
edge_to alias shown before flats left sorts.Values e = absurd (true≢false (sym e))
edge_to alias shown before flats left sorts.Node e = refl
edge_to alias shown before flats left sorts.Nodes e = refl

module _ (schema : List PredDef) (graph : List Triple) (vars : List Variable) where
  module _ (alias : Option (List ℕ)) (key : List ℕ) (n : ℕ) (before : List (List Field)) where
    -- ---- an edge

    module _ (e : QEdge) (args : List QArg) where
      abbrev sort : Sort
      sort = sort_of (definition_of schema e.pred) e.back

      abbrev values : List Tree
      values = shown (definition_of schema e.pred) (objects graph e.pred n)

      kept_alone : (inside : List PlannedField) (cascade : Bool) (k : Item-F Item Kept) → leads_to_nodes sort ≡ false
          → behind (is_some alias) (map (under (unwrap_or alias key)) (edge_kept schema graph vars e args inside cascade n sort k)) (edge_kept_flats graph vars e args inside cascade n sort k) before ≡ with_own alias (bare_trees schema graph e k n) before
      kept_alone inside cascade Item-F.Plain none = alone alias key [] before
      kept_alone inside cascade (Item-F.Val place) none = alone alias key [] before
      kept_alone inside cascade (Item-F.Edge orders filters inner) none = edge_alone alias key before values _ _ _ _ sort none

      kept_bare : (cascade : Bool) (k : Item-F Item Kept)
          → behind (is_some alias) (map (under (unwrap_or alias key)) (edge_kept schema graph vars e args [] cascade n sort k)) (edge_kept_flats graph vars e args [] cascade n sort k) before ≡ with_own alias (bare_trees schema graph e k n) before
      kept_bare cascade Item-F.Plain = alone alias key [] before
      kept_bare cascade (Item-F.Val place) = alone alias key [] before
      kept_bare cascade (Item-F.Edge orders filters inner) = edge_bare alias key before values _ _ _ sort

      kept_nodes : (braces : List QField) (cascade : Bool) (k : Item-F Item Kept) → leads_to_nodes sort ≡ true
          → behind (is_some alias) (map (under (unwrap_or alias key)) (edge_kept schema graph vars e args (map (planned_field schema graph vars) braces) cascade n sort k)) (edge_kept_flats graph vars e args (map (planned_field schema graph vars) braces) cascade n sort k) before
          ≡ behind_edge schema graph vars e args braces (is_single sort) cascade k n before
      kept_nodes braces cascade Item-F.Plain some = alone alias key [] before ∙ nothing alias before
      kept_nodes braces cascade (Item-F.Val place) some = alone alias key [] before ∙ nothing alias before
      kept_nodes braces cascade (Item-F.Edge orders filters inner) some =
          let k : Item-F Item Kept = Item-F.Edge orders filters inner in
          edge_to (is_some alias) (map (under (unwrap_or alias key)) (edge_kept schema graph vars e args (map (planned_field schema graph vars) braces) cascade n sort k)) before (planned_flats schema graph vars cascade braces inner) (left_of schema graph vars e args orders filters braces inner (is_single sort) cascade n) sort some

    -- ---- an item, by its layer

    module _ (cascade : Bool) (k : Item) where
      -- the objects behind it
      abbrev behind_layer : QItem-F PlannedItem PlannedField → List (List Field)
      behind_layer layer = behind (is_some alias) (map (under (unwrap_or alias key)) (trees_by schema graph vars layer cascade k n)) (item_flats schema graph vars layer cascade k n) before

      abbrev planned : QItem-F QItem QField → QItem-F PlannedItem PlannedField
      planned layer = map-QItem QItem QField PlannedItem PlannedField (planned_item schema graph vars) (planned_field schema graph vars) layer

      layer_alone : (layer : QItem-F QItem QField) → leads_to_nodes (sort_in schema layer) ≡ false → behind_layer (planned layer) ≡ with_own alias (own_trees schema graph vars layer (out-Item k) n) before
      layer_alone QItem-F.Uid none = alone alias key _ before
      layer_alone QItem-F.CountUid none = alone alias key _ before
      layer_alone (QItem-F.Count e) none = alone alias key _ before
      layer_alone (QItem-F.Val x) none = alone alias key _ before
      layer_alone (QItem-F.Agg op x) none = alone alias key _ before
      layer_alone (QItem-F.Edge e args dirs None) none = kept_bare e args (cascades cascade dirs) (out-Item k)
      layer_alone (QItem-F.Edge e args dirs (Some braces)) none = kept_alone e args (map (planned_field schema graph vars) braces) (cascades cascade dirs) (out-Item k) none

      layer_nodes : (layer : QItem-F QItem QField) → leads_to_nodes (sort_in schema layer) ≡ true → behind_layer (planned layer) ≡ behind_item schema graph vars (is_single (sort_in schema layer)) cascade layer (out-Item k) n before
      layer_nodes QItem-F.Uid some = absurd (true≢false (sym some))
      layer_nodes QItem-F.CountUid some = absurd (true≢false (sym some))
      layer_nodes (QItem-F.Count e) some = absurd (true≢false (sym some))
      layer_nodes (QItem-F.Val x) some = absurd (true≢false (sym some))
      layer_nodes (QItem-F.Agg op x) some = absurd (true≢false (sym some))
      layer_nodes (QItem-F.Edge e args dirs None) some = absurd (true≢false (sym some))
      layer_nodes (QItem-F.Edge e args dirs (Some braces)) some = kept_nodes e args braces (cascades cascade dirs) (out-Item k) some

  -- ---- a field

  module _ (q : QField) (cascade : Bool) (k : Kept) (n : ℕ) (before : List (List Field)) where
    -- by the layer of its item
    by_layer : behind_field schema graph vars cascade q k n before ≡ behind_layer q.alias (item_key q.item) n before cascade k.item (planned q.alias (item_key q.item) n before cascade k.item (out-QItem q.item))
    by_layer =
        field_after schema graph vars q cascade k n before
        ∙ (λ i. behind (is_some q.alias) (map (under (key_of q)) ((fold_out-QItem PlannedItem PlannedField (step_of_item schema graph vars) step_of_field q.item i).at cascade k.item n)) ((fold_out-QItem PlannedItem PlannedField (step_of_item schema graph vars) step_of_field q.item i).flats cascade k.item n) before)

    -- one that leads to no nodes
    pub field_alone : leads_to_nodes (sort_in schema (out-QItem q.item)) ≡ false → behind_field schema graph vars cascade q k n before ≡ with_own q.alias (own_trees schema graph vars (out-QItem q.item) (out-Item k.item) n) before
    field_alone none = by_layer ∙ layer_alone q.alias (item_key q.item) n before cascade k.item (out-QItem q.item) none

    -- one that leads to nodes
    pub field_nodes : leads_to_nodes (sort_in schema (out-QItem q.item)) ≡ true
        → behind_field schema graph vars cascade q k n before ≡ behind_item schema graph vars (is_single (sort_in schema (out-QItem q.item))) cascade (out-QItem q.item) (out-Item k.item) n before
    field_nodes some = by_layer ∙ layer_nodes q.alias (item_key q.item) n before cascade k.item (out-QItem q.item) some

-- ---- objects never become lighter, and keep their keys apart

heavier : (alias : Bool) (shown : List Field) (flats : Option (List (List Field))) (before : List (List Field)) → weight_in before ≤ weight_in (behind alias shown flats before)
heavier true shown None before = shown_heavier before shown
heavier false shown None before = omega arith
heavier alias shown (Some flats) before = times_heavier before flats

has_still : (alias : Bool) (shown : List Field) (flats : Option (List (List Field))) (before : List (List Field)) → has_object before ≡ true → has_object (behind alias shown flats before) ≡ true
has_still true shown None before has = shown_has before shown has
has_still false shown None before has = has
has_still alias shown (Some flats) before has = times_has before flats has

apart_still : (alias : Bool) (shown : List Field) (flats : Option (List (List Field))) (before : List (List Field)) → AreAllApart before → AreAllApart (behind alias shown flats before)
apart_still true shown None before apart = shown_apart before shown apart
apart_still false shown None before apart = apart
apart_still alias shown (Some flats) before apart = times_apart before flats apart

module _ (schema : List PredDef) (graph : List Triple) (vars : List Variable) (cascade : Bool) where
  field_heavier : (q : QField) (k : Kept) (n : ℕ) (before : List (List Field)) → weight_in before ≤ weight_in (behind_field schema graph vars cascade q k n before)
  field_heavier q k n before =
      omega (
        arith,
        heavier (is_some q.alias) (map (under (key_of q)) (trees_of schema graph vars cascade q.item k.item n)) ((planned_item schema graph vars q.item).flats cascade k.item n) before,
        ap weight_in (field_after schema graph vars q cascade k n before),
      )

  field_has : (q : QField) (k : Kept) (n : ℕ) (before : List (List Field)) → has_object before ≡ true → has_object (behind_field schema graph vars cascade q k n before) ≡ true
  field_has q k n before has =
      ap has_object (field_after schema graph vars q cascade k n before)
      ∙ has_still (is_some q.alias) (map (under (key_of q)) (trees_of schema graph vars cascade q.item k.item n)) ((planned_item schema graph vars q.item).flats cascade k.item n) before has

  field_apart : (q : QField) (k : Kept) (n : ℕ) (before : List (List Field)) → AreAllApart before → AreAllApart (behind_field schema graph vars cascade q k n before)
  field_apart q k n before apart =
      subst (λ (os : List (List Field)). AreAllApart os) (sym (field_after schema graph vars q cascade k n before))
      (apart_still (is_some q.alias) (map (under (key_of q)) (trees_of schema graph vars cascade q.item k.item n)) ((planned_item schema graph vars q.item).flats cascade k.item n) before apart)

  -- ---- behind several fields

  abbrev after : List QField → List Kept → ℕ → List (List Field) → List (List Field)
  after fields kept n before = after_by (map (planned_field schema graph vars) fields) cascade kept n before

  after_heavier : (fields : List QField) (kept : List Kept) (n : ℕ) (before : List (List Field)) → weight_in before ≤ weight_in (after fields kept n before)
  after_heavier [] kept n before = omega arith
  after_heavier (q ∷ fields) [] n before = omega arith
  after_heavier (q ∷ fields) (k ∷ kept) n before = omega (arith, field_heavier q k n before, after_heavier fields kept n (behind_field schema graph vars cascade q k n before))

  pub after_has : (fields : List QField) (kept : List Kept) (n : ℕ) (before : List (List Field)) → has_object before ≡ true → has_object (after fields kept n before) ≡ true
  after_has [] kept n before has = has
  after_has (q ∷ fields) [] n before has = has
  after_has (q ∷ fields) (k ∷ kept) n before has = after_has fields kept n (behind_field schema graph vars cascade q k n before) (field_has q k n before has)

  after_apart : (fields : List QField) (kept : List Kept) (n : ℕ) (before : List (List Field)) → AreAllApart before → AreAllApart (after fields kept n before)
  after_apart [] kept n before apart = apart
  after_apart (q ∷ fields) [] n before apart = apart
  after_apart (q ∷ fields) (k ∷ kept) n before apart = after_apart fields kept n (behind_field schema graph vars cascade q k n before) (field_apart q k n before apart)

  -- ---- behind the first of them

  none_yet : (fields : List QField) (kept : List Kept) (n : ℕ) (before : List (List Field)) → after (take 0 fields) (take 0 kept) n before ≡ before
  none_yet [] kept n before = refl
  none_yet (q ∷ fields) kept n before = refl

  after_next : (fields : List QField) (kept : List Kept) (i : ℕ) (q : QField) (k : Kept) (n : ℕ) (before : List (List Field)) → i < length fields → i < length kept
      → after (take (suc i) fields) (take (suc i) kept) n before ≡ behind_field schema graph vars cascade (get_or fields i q) (get_or kept i k) n (after (take i fields) (take i kept) n before)
  after_next [] kept i q k n before lt lk = absurd (omega (arith, lt))
  after_next (f ∷ fields) [] i q k n before lt lk = absurd (omega (arith, lk))
  after_next (f ∷ fields) (p ∷ kept) zero q k n before lt lk = none_yet fields kept n (behind_field schema graph vars cascade f p n before)
  after_next (f ∷ fields) (p ∷ kept) (suc i) q k n before lt lk = after_next fields kept i q k n (behind_field schema graph vars cascade f p n before) (omega (arith, lt)) (omega (arith, lk))

  -- with one more
  pub field_next : (fields : List QField) (kept : List Kept) (i : ℕ) (q : QField) (k : Kept) → i < length fields → i < length kept → q ≡ get_or fields i q → k ≡ get_or kept i k → (n : ℕ)
      → behind_fields schema graph vars cascade (take (i + 1) fields) (take (i + 1) kept) n ≡ behind_field schema graph vars cascade q k n (behind_fields schema graph vars cascade (take i fields) (take i kept) n)
  field_next fields kept i q k lt lk is has n =
      let e : i + 1 ≡ suc i = omega arith in
      ap (λ m. after (take m fields) (take m kept) n ([] ∷ [])) e
      ∙ after_next fields kept i q k n ([] ∷ []) lt lk
      ∙ sym (λ j. behind_field schema graph vars cascade (is j) (has j) n (after (take i fields) (take i kept) n ([] ∷ [])))

  -- no heavier than behind all
  pub after_front : (fields : List QField) (kept : List Kept) (i n : ℕ) (before : List (List Field)) → weight_in (after (take i fields) (take i kept) n before) ≤ weight_in (after fields kept n before)
  after_front [] kept zero n before = omega arith
  after_front [] kept (suc i) n before = omega arith
  after_front (q ∷ fields) [] zero n before = omega arith
  after_front (q ∷ fields) [] (suc i) n before = omega arith
  after_front (q ∷ fields) (k ∷ kept) zero n before = after_heavier (q ∷ fields) (k ∷ kept) n before
  after_front (q ∷ fields) (k ∷ kept) (suc i) n before = after_front fields kept i n (behind_field schema graph vars cascade q k n before)

  pub after_ended : (fields : List QField) (kept : List Kept) (i n : ℕ) (before : List (List Field)) → length fields ≤ i → after (take i fields) (take i kept) n before ≡ after fields kept n before
  after_ended [] kept zero n before past = refl
  after_ended [] kept (suc i) n before past = refl
  after_ended (q ∷ fields) kept zero n before past = absurd (omega (arith, past))
  after_ended (q ∷ fields) [] (suc i) n before past = refl
  after_ended (q ∷ fields) (k ∷ kept) (suc i) n before past = after_ended fields kept i n (behind_field schema graph vars cascade q k n before) (omega (arith, past))

  pub after_kept : (fields : List QField) (kept : List Kept) (i n : ℕ) (before : List (List Field)) → length kept ≤ i → after (take i fields) (take i kept) n before ≡ after fields kept n before
  after_kept [] kept zero n before past = refl
  after_kept [] kept (suc i) n before past = refl
  after_kept (q ∷ fields) [] zero n before past = refl
  after_kept (q ∷ fields) [] (suc i) n before past = refl
  after_kept (q ∷ fields) (k ∷ kept) zero n before past = absurd (omega (arith, past))
  after_kept (q ∷ fields) (k ∷ kept) (suc i) n before past = after_kept fields kept i n (behind_field schema graph vars cascade q k n before) (omega (arith, past))

  -- the objects of a node keep their keys apart
  pub flats_apart : (fields : List QField) (kept : List Kept) (n : ℕ) → AreAllApart (planned_flats schema graph vars cascade fields kept n)
  flats_apart fields kept n = filled_apart (after fields kept n ([] ∷ [])) (after_apart fields kept n ([] ∷ []) (tt, tt))
