-- What fields show by the plan is what they show by their text.
use Rattle.std.proofs.Common.{◌≡◌, ℕ, ◌≤◌, Bool, true, false, List, [], ◌∷◌, ◌++◌, map, take, length, refl, sym, ap, ◌∙◌, arith}
use Rattle.std.specs.Prelude.{◌&&◌, if◌then◌else◌, Option, Some, None, is_some, option_to_list, filter, filter_map}
use Rattle.std.specs.List.{AllByRecursion, list_all}
use Rattle.std.specs.declared.cmp.Ordering.TheVariants.{Less}
use Rattle.std.specs.Ordering.{nat_cmp}
use Rattle.dg_values.specs.Ascending.{Ascends}
use Rattle.dg_values.specs.Order.{posting_cmp}
use Rattle.dg_values.specs.declared.value.Posting.{Posting}
use Rattle.dg_values.specs.declared.value.Posting.TheVariants.{Uid, Val}
use Rattle.dg_schema.specs.declared.definition.PredDef.{PredDef}
use Rattle.dg_schema.specs.Definitions.{definition_of}
use Rattle.dg_graph.specs.declared.change.Triple.{Triple}
use Rattle.dg_graph.specs.Graphs.{objects, IsLawful}
use Rattle.dg_graph.specs.Lookups.{node_in, subjects_of}
use Rattle.dg_graph.proofs.ObjectLaws.{objects_ascend, subjects_ascend}
use Rattle.dg_parse.specs.declared.query.QArg.{QArg}
use Rattle.dg_parse.specs.declared.query.QArg.TheVariants as arguments
use Rattle.dg_parse.specs.declared.query.QDir.{QDir}
use Rattle.dg_parse.specs.declared.query.QEdge.{QEdge}
use Rattle.dg_parse.specs.declared.query.QField.{QField}
use Rattle.dg_parse.specs.declared.query.QFilter.{QFilter}
use Rattle.dg_parse.specs.declared.query.QItem.{QItem}
use Rattle.dg_parse.specs.declared.query.QItem.TheVariants as items
use Rattle.dg_parse.specs.declared.query.QOrder.{QOrder}
use Rattle.dg_parse.specs.declared.query.QOrder.TheVariants as orders
use Rattle.dg_parse.specs.Keys.{key_of}
use Rattle.dg_check.specs.declared.parts.Field.{Field as Kept}
use Rattle.dg_check.specs.declared.parts.Filter.{Filter}
use Rattle.dg_check.specs.declared.parts.Item.{Item, Item-F}
use Rattle.dg_check.specs.declared.parts.Item.TheVariants as kept
use Rattle.dg_check.specs.declared.parts.Item.TheViews.{out-Item}
use Rattle.dg_check.specs.declared.parts.OrderKey.{OrderKey}
use Rattle.dg_check.specs.declared.vars.Variable.{Variable}
use Rattle.dg_check.specs.Parts.{AreFiltersOf, no_filter, more_filters, filters_in, in_braces, IsItemOf, uid, count_uid, count, val, agg, edge, AreFieldsOf, no_field, more_fields}
use Rattle.dg_check.specs.Plans.{by_of, keys_of}
use Rattle.dg_check.specs.Variables.{Definition, names_for}
use Rattle.dg_check.specs.Vars.{value_at}
use Rattle.dg_funcs.specs.Truth.{passes, nodes_along}
use Rattle.dg_funcs.specs.Meaning.{text_passes}
use Rattle.dg_funcs.specs.Laws.{AreOfKind, FiltersMeanTheirTexts}
use Rattle.dg_shape.specs.Normalize.{has_pair}
use Rattle.dg_shape.specs.Orders.{ordered, page}
use Rattle.dg_tree.specs.declared.tree.Field.{Field}
use Rattle.dg_level.specs.Answers.{value_tree, shown}
use Rattle.dg_level.specs.Lists.{value_for, keys_for, children}
use Rattle.dg_level.specs.Shown.{sort_of, under, edge_shown, cascades, remaining, edge_there, edge_flats, behind, ShownItem, after_all, shown_field, fields_at, whole_at, objects_at}
use Rattle.dg_level.specs.Planned.{value_by, planned_keys, planned_list, value_kept, value_there, is_single, cut_to, PlannedItem, after_by, edge_kept_flats, planned_field, planned_there, planned_at, planned_flats}
use Rattle.dg_level.specs.Keys.{all_count_keys}
use Rattle.dg_level.specs.Levels.{planned_item, trees_of, kept_trees, kept_there}
use Rattle.dg_level.proofs.ListLaws.{ascending_same}
use Rattle.dg_level.proofs.PlannedLaws.{item_uid, item_count_uid, item_count, item_val, item_agg, item_edge, item_bare, trees_val, trees_edge, trees_bare, there_edge, there_bare, field_is, field_there, field_after, all_counts}
use Rattle.dg_level.proofs.ShortLaws.{list_short, one_node, sort_single}
use Rattle.dg_level.proofs.TextLaws.{shown_item, said_uid, said_count_uid, said_count, said_val, said_agg, text_field, text_there, text_after, edge_there_is, so_left, text_edge, edge_flats_are}

-- ---- the nodes along an edge ascend

above_all : (n : ℕ) (os : List Posting) → AllByRecursion (λ o. posting_cmp (Uid n) o ≡ Less) os → AllByRecursion (λ m. nat_cmp n m ≡ Less) (filter_map node_in os)
above_all n [] a = tt
above_all n (Uid m ∷ os) a = (a.0, above_all n os a.1)
above_all n (Val v ∷ os) a = above_all n os a.1

nodes_ascend : (os : List Posting) → Ascends posting_cmp os → Ascends nat_cmp (filter_map node_in os)
nodes_ascend [] a = tt
nodes_ascend (Uid n ∷ os) a = (above_all n os a.0, nodes_ascend os a.1)
nodes_ascend (Val v ∷ os) a = nodes_ascend os a.1

-- a list that is no longer than one is cut to itself
cut_same : (single : Bool) (nodes : List ℕ) → (single ≡ true → length nodes ≤ 1) → cut_to single nodes ≡ nodes
cut_same false nodes short = refl
cut_same true nodes short = one nodes (short refl)
  where
    one : (ns : List ℕ) → length ns ≤ 1 → take 1 ns ≡ ns
    one [] le = refl
    one (n ∷ []) le = refl
    one (n ∷ m ∷ ns) le = absurd (omega (arith, le))

-- ---- order keys

module _ (graph : List Triple) (ds : List Definition) (vars : List Variable) where
  value_alike : (order : QOrder) → value_by graph vars (by_of ds order) ≡ value_for graph ds vars order
  value_alike (orders.Pred p) = refl
  value_alike (orders.Val x) = refl

  pub keys_alike : (args : List QArg) → planned_keys graph vars (keys_of ds args) ≡ keys_for graph ds vars args
  keys_alike [] = refl
  keys_alike (arguments.First n ∷ args) = keys_alike args
  keys_alike (arguments.Offset n ∷ args) = keys_alike args
  keys_alike (arguments.After n ∷ args) = keys_alike args
  keys_alike (arguments.Asc order ∷ args) = λ i. (false, value_alike order i) ∷ keys_alike args i
  keys_alike (arguments.Desc order ∷ args) = λ i. (true, value_alike order i) ∷ keys_alike args i

module _ (schema : List PredDef) (ds : List Definition) (graph : List Triple) (vars : List Variable) (lawful : IsLawful schema graph) (of_kind : AreOfKind ds vars) (filters_mean : FiltersMeanTheirTexts) where
  along_ascends : (e : QEdge) (n : ℕ) → Ascends nat_cmp (nodes_along graph e n)
  along_ascends e n = by e.back
    where
      by : (b : Bool) → Ascends nat_cmp (if b then subjects_of graph e.pred (Uid n) else filter_map node_in (objects graph e.pred n))
      by true = subjects_ascend graph e.pred (Uid n)
      by false = nodes_ascend (objects graph e.pred n) (objects_ascend graph e.pred n lawful.ascend)

  pub filters_alike : (n : ℕ) (qs : List QFilter) (fs : List Filter) → AreFiltersOf schema ds qs fs → list_all (passes graph vars n) fs ≡ list_all (text_passes graph (names_for false ds) vars n) qs
  filters_alike n qs fs no_filter = refl
  filters_alike n qs fs (more_filters q f qs' fs' is are) =
      let one = sym (filters_mean schema ds graph vars n q f lawful of_kind is) in
      let rest = filters_alike n qs' fs' are in
      λ i. one i && rest i

  module _ (e : QEdge) (args : List QArg) (dirs : List QDir) (by_keys : List OrderKey) (filters : List Filter) (keys_are : by_keys ≡ keys_of ds args) (filters_are : AreFiltersOf schema ds (filters_in dirs) filters) where
    -- a list by the plan is that by the text
    list_alike : (n : ℕ) → planned_list graph vars e args by_keys filters n ≡ children graph ds vars e args dirs n
    list_alike n =
        let along = ascending_same (nodes_along graph e n) (along_ascends e n) in
        let keys = ap (planned_keys graph vars) keys_are ∙ keys_alike graph ds vars args in
        λ i. page args (ordered (keys i) (filter (λ m. filters_alike m (filters_in dirs) filters filters_are i) (along i)))

    short_list : is_single (sort_of (definition_of schema e.pred) e.back) ≡ true → (n : ℕ) → length (children graph ds vars e args dirs n) ≤ 1
    short_list single n =
        let which = sort_single (definition_of schema e.pred) e.back single in
        let along : nodes_along graph e n ≡ filter_map node_in (objects graph e.pred n) = λ i. if which.0 i then subjects_of graph e.pred (Uid n) else filter_map node_in (objects graph e.pred n) in
        omega (
          arith,
          list_short args (keys_for graph ds vars args) (λ m. list_all (text_passes graph (names_for false ds) vars m) (filters_in dirs)) (nodes_along graph e n),
          ap length along,
          one_node schema graph e.pred n lawful.single which.1,
        )

    -- of a single edge one node at most
    pub cut_alike : (n : ℕ) → cut_to (is_single (sort_of (definition_of schema e.pred) e.back)) (planned_list graph vars e args by_keys filters n) ≡ children graph ds vars e args dirs n
    cut_alike n =
        ap (cut_to (is_single (sort_of (definition_of schema e.pred) e.back))) (list_alike n)
        ∙ cut_same (is_single (sort_of (definition_of schema e.pred) e.back)) (children graph ds vars e args dirs n) (λ single. short_list single n)

    -- an edge isn't missing where it isn't by the text, if so are the fields in its braces
    there_alike : (braces : List QField) (inner : List Kept) → ((m : ℕ) → planned_there schema graph vars braces inner m ≡ whole_at schema graph ds vars braces m) → (n : ℕ)
        → kept_there schema graph vars e args braces (Item-F.Edge by_keys filters inner) n
        ≡ edge_there (sort_of (definition_of schema e.pred) e.back) (shown (definition_of schema e.pred) (objects graph e.pred n)) (whole_at schema graph ds vars braces) (children graph ds vars e args dirs n)
    there_alike braces inner there n =
        λ i. edge_there (sort_of (definition_of schema e.pred) e.back) (shown (definition_of schema e.pred) (objects graph e.pred n)) (λ m. there m i) (cut_alike n i)

    item_there_alike : (braces : Option (List QField)) (inner : List Kept) → ((m : ℕ) → planned_there schema graph vars (in_braces braces) inner m ≡ whole_at schema graph ds vars (in_braces braces) m) → (n : ℕ)
        → (planned_item schema graph vars (items.Edge e args dirs braces)).there (kept.Edge by_keys filters inner) n ≡ (shown_item schema graph ds vars (items.Edge e args dirs braces)).there n
    item_there_alike None inner there n =
        (λ i. there_bare schema graph vars (items.Edge e args dirs None) (kept.Edge by_keys filters inner) e args dirs refl i n)
        ∙ (λ i. kept_there schema graph vars e args [] (kept.outs-Edge by_keys filters inner i) n)
        ∙ there_alike [] inner there n
        ∙ sym (edge_there_is schema graph ds vars e args dirs n None)
    item_there_alike (Some braces) inner there n =
        (λ i. there_edge schema graph vars (items.Edge e args dirs (Some braces)) (kept.Edge by_keys filters inner) e args dirs braces refl i n)
        ∙ (λ i. kept_there schema graph vars e args braces (kept.outs-Edge by_keys filters inner i) n)
        ∙ there_alike braces inner there n
        ∙ sym (edge_there_is schema graph ds vars e args dirs n (Some braces))

    module _ (cascade : Bool) where
      -- it shows the same
      edge_alike : (braces : List QField) (inner : List Kept) → ((m : ℕ) → planned_there schema graph vars braces inner m ≡ whole_at schema graph ds vars braces m)
          → ((m : ℕ) → planned_at schema graph vars (cascades cascade dirs) braces inner m ≡ fields_at schema graph ds vars (cascades cascade dirs) braces m) → (n : ℕ)
          → kept_trees schema graph vars e args braces (cascades cascade dirs) (Item-F.Edge by_keys filters inner) n
          ≡ edge_shown (sort_of (definition_of schema e.pred) e.back) (shown (definition_of schema e.pred) (objects graph e.pred n)) (all_count_keys braces) (fields_at schema graph ds vars (cascades cascade dirs) braces)
          (so_left schema graph ds vars e args dirs n cascade braces)
      edge_alike braces inner there inside n =
          λ i. edge_shown (sort_of (definition_of schema e.pred) e.back) (shown (definition_of schema e.pred) (objects graph e.pred n)) (all_counts schema graph vars braces i) (λ m. inside m i) (remaining (cascades cascade dirs) (λ m. there m i) (cut_alike n i))

      item_alike : (braces : Option (List QField)) (inner : List Kept) → ((m : ℕ) → planned_there schema graph vars (in_braces braces) inner m ≡ whole_at schema graph ds vars (in_braces braces) m)
          → ((m : ℕ) → planned_at schema graph vars (cascades cascade dirs) (in_braces braces) inner m ≡ fields_at schema graph ds vars (cascades cascade dirs) (in_braces braces) m) → (n : ℕ)
          → trees_of schema graph vars cascade (items.Edge e args dirs braces) (kept.Edge by_keys filters inner) n ≡ (shown_item schema graph ds vars (items.Edge e args dirs braces)).at cascade n
      item_alike None inner there inside n =
          (λ i. trees_bare schema graph vars (items.Edge e args dirs None) cascade (kept.Edge by_keys filters inner) e args dirs refl i n)
          ∙ (λ i. kept_trees schema graph vars e args [] (cascades cascade dirs) (kept.outs-Edge by_keys filters inner i) n)
          ∙ edge_alike [] inner there inside n
          ∙ sym (text_edge schema graph ds vars e args dirs n cascade None)
      item_alike (Some braces) inner there inside n =
          (λ i. trees_edge schema graph vars (items.Edge e args dirs (Some braces)) cascade (kept.Edge by_keys filters inner) e args dirs braces refl i n)
          ∙ (λ i. kept_trees schema graph vars e args braces (cascades cascade dirs) (kept.outs-Edge by_keys filters inner i) n)
          ∙ edge_alike braces inner there inside n
          ∙ sym (text_edge schema graph ds vars e args dirs n cascade (Some braces))

      -- and has the same flat objects
      flats_alike : (braces : List QField) (inner : List Kept) → ((m : ℕ) → planned_there schema graph vars braces inner m ≡ whole_at schema graph ds vars braces m)
          → ((m : ℕ) → planned_flats schema graph vars (cascades cascade dirs) braces inner m ≡ objects_at schema graph ds vars (cascades cascade dirs) braces m) → (n : ℕ)
          → edge_kept_flats graph vars e args (map (planned_field schema graph vars) braces) (cascades cascade dirs) n (sort_of (definition_of schema e.pred) e.back) (out-Item (kept.Edge by_keys filters inner))
          ≡ edge_flats (sort_of (definition_of schema e.pred) e.back) (objects_at schema graph ds vars (cascades cascade dirs) braces) (so_left schema graph ds vars e args dirs n cascade braces)
      flats_alike braces inner there inside n =
          (λ i. edge_kept_flats graph vars e args (map (planned_field schema graph vars) braces) (cascades cascade dirs) n (sort_of (definition_of schema e.pred) e.back) (kept.outs-Edge by_keys filters inner i))
          ∙ (λ i. edge_flats (sort_of (definition_of schema e.pred) e.back) (λ m. inside m i) (remaining (cascades cascade dirs) (λ m. there m i) (cut_alike n i)))

      item_flats_alike : (braces : Option (List QField)) (inner : List Kept) → ((m : ℕ) → planned_there schema graph vars (in_braces braces) inner m ≡ whole_at schema graph ds vars (in_braces braces) m)
          → ((m : ℕ) → planned_flats schema graph vars (cascades cascade dirs) (in_braces braces) inner m ≡ objects_at schema graph ds vars (cascades cascade dirs) (in_braces braces) m) → (n : ℕ)
          → (planned_item schema graph vars (items.Edge e args dirs braces)).flats cascade (kept.Edge by_keys filters inner) n ≡ (shown_item schema graph ds vars (items.Edge e args dirs braces)).flats cascade n
      item_flats_alike None inner there inside n =
          ap (λ (p : PlannedItem). p.flats cascade (kept.Edge by_keys filters inner) n) (item_bare schema graph vars (items.Edge e args dirs None) e args dirs refl)
          ∙ flats_alike [] inner there inside n
          ∙ sym (edge_flats_are schema graph ds vars e args dirs n cascade None)
      item_flats_alike (Some braces) inner there inside n =
          ap (λ (p : PlannedItem). p.flats cascade (kept.Edge by_keys filters inner) n) (item_edge schema graph vars (items.Edge e args dirs (Some braces)) e args dirs braces refl)
          ∙ flats_alike braces inner there inside n
          ∙ sym (edge_flats_are schema graph ds vars e args dirs n cascade (Some braces))

  -- ---- where a field isn't missing

  mutual
    item_there_means : (q : QItem) (k : Item) → IsItemOf schema ds q k → (n : ℕ) → (planned_item schema graph vars q).there k n ≡ (shown_item schema graph ds vars q).there n
    item_there_means q k uid n = ap (λ (p : PlannedItem). p.there kept.Plain n) (item_uid schema graph vars items.Uid refl) ∙ sym (ap (λ (p : ShownItem). p.there n) (said_uid schema graph ds vars))
    item_there_means q k count_uid n = ap (λ (p : PlannedItem). p.there kept.Plain n) (item_count_uid schema graph vars items.CountUid refl) ∙ sym (ap (λ (p : ShownItem). p.there n) (said_count_uid schema graph ds vars))
    item_there_means q k (count e) n = ap (λ (p : PlannedItem). p.there kept.Plain n) (item_count schema graph vars (items.Count e) e refl) ∙ sym (ap (λ (p : ShownItem). p.there n) (said_count schema graph ds vars e))
    item_there_means q k (val x place h) n =
        ap (λ (p : PlannedItem). p.there (kept.Val place) n) (item_val schema graph vars (items.Val x) x refl)
        ∙ (λ i. value_there vars n (kept.outs-Val place i))
        ∙ ap (λ at. is_some (value_at vars at n)) h.0
        ∙ sym (ap (λ (p : ShownItem). p.there n) (said_val schema graph ds vars x))
    item_there_means q k (agg op x place h) n = ap (λ (p : PlannedItem). p.there (kept.Val place) n) (item_agg schema graph vars (items.Agg op x) op x refl) ∙ sym (ap (λ (p : ShownItem). p.there n) (said_agg schema graph ds vars op x))
    item_there_means q k (edge e args list braces by_keys filters inner keys_are filters_are are) n =
        item_there_alike e args list by_keys filters keys_are.0 filters_are braces inner (λ m. there_means (in_braces braces) inner are m) n

    there_means : (qs : List QField) (ks : List Kept) → AreFieldsOf schema ds qs ks → (n : ℕ) → planned_there schema graph vars qs ks n ≡ whole_at schema graph ds vars qs n
    there_means qs ks no_field n = refl
    there_means qs ks (more_fields q k qs' ks' var is are) n =
        let here = field_there schema graph vars q k n ∙ (item_there_means q.item k.item is n ∙ sym (text_there schema graph ds vars q n)) in
        let rest = there_means qs' ks' are n in
        λ i. here i && rest i

  -- none is missing by the plan where none is by the text
  pub planned_there_means : (qs : List QField) (ks : List Kept) → AreFieldsOf schema ds qs ks → (n : ℕ) → planned_there schema graph vars qs ks n ≡ whole_at schema graph ds vars qs n
  planned_there_means = there_means

  -- ---- what fields show

  mutual
    item_means : (cascade : Bool) (q : QItem) (k : Item) → IsItemOf schema ds q k → (n : ℕ) → trees_of schema graph vars cascade q k n ≡ (shown_item schema graph ds vars q).at cascade n
    item_means cascade q k uid n = ap (λ (p : PlannedItem). p.at cascade kept.Plain n) (item_uid schema graph vars items.Uid refl) ∙ sym (ap (λ (p : ShownItem). p.at cascade n) (said_uid schema graph ds vars))
    item_means cascade q k count_uid n =
        ap (λ (p : PlannedItem). p.at cascade kept.Plain n) (item_count_uid schema graph vars items.CountUid refl) ∙ sym (ap (λ (p : ShownItem). p.at cascade n) (said_count_uid schema graph ds vars))
    item_means cascade q k (count e) n =
        ap (λ (p : PlannedItem). p.at cascade kept.Plain n) (item_count schema graph vars (items.Count e) e refl) ∙ sym (ap (λ (p : ShownItem). p.at cascade n) (said_count schema graph ds vars e))
    item_means cascade q k (val x place h) n =
        trees_val schema graph vars (items.Val x) cascade (kept.Val place) x refl n
        ∙ (λ i. value_kept vars n (kept.outs-Val place i))
        ∙ ap (λ at. map value_tree (option_to_list (value_at vars at n))) h.0
        ∙ sym (ap (λ (p : ShownItem). p.at cascade n) (said_val schema graph ds vars x))
    item_means cascade q k (agg op x place h) n =
        ap (λ (p : PlannedItem). p.at cascade (kept.Val place) n) (item_agg schema graph vars (items.Agg op x) op x refl) ∙ sym (ap (λ (p : ShownItem). p.at cascade n) (said_agg schema graph ds vars op x))
    item_means cascade q k (edge e args list braces by_keys filters inner keys_are filters_are are) n =
        item_alike e args list by_keys filters keys_are.0 filters_are cascade braces inner (λ m. planned_there_means (in_braces braces) inner are m) (λ m. fields_mean (cascades cascade list) (in_braces braces) inner are m) n

    fields_mean : (cascade : Bool) (qs : List QField) (ks : List Kept) → AreFieldsOf schema ds qs ks → (n : ℕ) → planned_at schema graph vars cascade qs ks n ≡ fields_at schema graph ds vars cascade qs n
    fields_mean cascade qs ks no_field n = refl
    fields_mean cascade qs ks (more_fields q k qs' ks' var is are) n =
        let here = field_is schema graph vars q cascade k n ∙ (ap (map (under (key_of q))) (item_means cascade q.item k.item is n) ∙ sym (text_field schema graph ds vars q cascade n)) in
        let rest = fields_mean cascade qs' ks' are n in
        λ i. here i ++ rest i

  -- by the plan it is what it is by the text
  pub planned_means : (cascade : Bool) (qs : List QField) (ks : List Kept) → AreFieldsOf schema ds qs ks → (n : ℕ) → planned_at schema graph vars cascade qs ks n ≡ fields_at schema graph ds vars cascade qs n
  planned_means = fields_mean

  -- ---- flat objects

  mutual
    item_flats_mean : (cascade : Bool) (q : QItem) (k : Item) → IsItemOf schema ds q k → (n : ℕ) → (planned_item schema graph vars q).flats cascade k n ≡ (shown_item schema graph ds vars q).flats cascade n
    item_flats_mean cascade q k uid n = ap (λ (p : PlannedItem). p.flats cascade kept.Plain n) (item_uid schema graph vars items.Uid refl) ∙ sym (ap (λ (p : ShownItem). p.flats cascade n) (said_uid schema graph ds vars))
    item_flats_mean cascade q k count_uid n =
        ap (λ (p : PlannedItem). p.flats cascade kept.Plain n) (item_count_uid schema graph vars items.CountUid refl) ∙ sym (ap (λ (p : ShownItem). p.flats cascade n) (said_count_uid schema graph ds vars))
    item_flats_mean cascade q k (count e) n =
        ap (λ (p : PlannedItem). p.flats cascade kept.Plain n) (item_count schema graph vars (items.Count e) e refl) ∙ sym (ap (λ (p : ShownItem). p.flats cascade n) (said_count schema graph ds vars e))
    item_flats_mean cascade q k (val x place h) n =
        ap (λ (p : PlannedItem). p.flats cascade (kept.Val place) n) (item_val schema graph vars (items.Val x) x refl) ∙ sym (ap (λ (p : ShownItem). p.flats cascade n) (said_val schema graph ds vars x))
    item_flats_mean cascade q k (agg op x place h) n =
        ap (λ (p : PlannedItem). p.flats cascade (kept.Val place) n) (item_agg schema graph vars (items.Agg op x) op x refl) ∙ sym (ap (λ (p : ShownItem). p.flats cascade n) (said_agg schema graph ds vars op x))
    item_flats_mean cascade q k (edge e args list braces by_keys filters inner keys_are filters_are are) n =
        item_flats_alike e args list by_keys filters keys_are.0 filters_are cascade braces inner (λ m. planned_there_means (in_braces braces) inner are m)
        (λ m. ap (filter has_pair) (after_means (cascades cascade list) (in_braces braces) inner are m ([] ∷ []))) n

    after_means : (cascade : Bool) (qs : List QField) (ks : List Kept) → AreFieldsOf schema ds qs ks → (n : ℕ) (before : List (List Field))
        → after_by (map (planned_field schema graph vars) qs) cascade ks n before ≡ after_all (map (shown_field schema graph ds vars) qs) cascade n before
    after_means cascade qs ks no_field n before = refl
    after_means cascade qs ks (more_fields q k qs' ks' var is are) n before =
        let shows = item_means cascade q.item k.item is n in
        let flats = item_flats_mean cascade q.item k.item is n in
        let here : (planned_field schema graph vars q).after cascade k n before ≡ (shown_field schema graph ds vars q).after cascade n before =
        field_after schema graph vars q cascade k n before ∙ ((λ i. behind (is_some q.alias) (map (under (key_of q)) (shows i)) (flats i) before) ∙ sym (text_after schema graph ds vars q cascade n before)) in
        ap (after_by (map (planned_field schema graph vars) qs') cascade ks' n) here ∙ after_means cascade qs' ks' are n ((shown_field schema graph ds vars q).after cascade n before)

  -- by the plan they are what they are by the text
  pub planned_flats_mean : (cascade : Bool) (qs : List QField) (ks : List Kept) → AreFieldsOf schema ds qs ks → (n : ℕ) → planned_flats schema graph vars cascade qs ks n ≡ objects_at schema graph ds vars cascade qs n
  planned_flats_mean cascade qs ks are n = ap (filter has_pair) (after_means cascade qs ks are n ([] ∷ []))
