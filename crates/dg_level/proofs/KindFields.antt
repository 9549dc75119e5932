-- What fields make known is of the kinds with which the text defines it.
use Rattle.std.proofs.Common.{◌≡◌, ℕ, Bool, true, false, cond, List, [], ◌∷◌, ◌++◌, flat_map, refl, sym, ap, ◌∙◌, subst}
use Rattle.std.specs.Prelude.{pos, ◌==◌, Option, Some, None, IfSome, is_some, option_map, filter, filter_map}
use Rattle.std.specs.List.{cons_option, AllByRecursion}
use Rattle.dg_values.specs.declared.kind.Kind.{Kind}
use Rattle.dg_values.specs.declared.kind.Kind.TheVariants as kinds
use Rattle.dg_values.specs.declared.value.Value.{Value}
use Rattle.dg_values.specs.declared.value.Value.TheVariants as values
use Rattle.dg_schema.specs.declared.definition.PredDef.{PredDef}
use Rattle.dg_schema.specs.Definitions.{definition_of}
use Rattle.dg_graph.specs.declared.change.Triple.{Triple}
use Rattle.dg_graph.specs.Graphs.{IsLawful}
use Rattle.dg_parse.specs.declared.query.QArg.{QArg}
use Rattle.dg_parse.specs.declared.query.QBlock.{QBlock}
use Rattle.dg_parse.specs.declared.query.QDir.{QDir}
use Rattle.dg_parse.specs.declared.query.QEdge.{QEdge}
use Rattle.dg_parse.specs.declared.query.QField.{QField}
use Rattle.dg_parse.specs.declared.query.QItem.{QItem, QItem-F, fold-roll-QItem}
use Rattle.dg_parse.specs.declared.query.QItem.TheFolds.{fold_out-QField}
use Rattle.dg_parse.specs.declared.query.QItem.TheVariants as items
use Rattle.dg_check.specs.declared.parts.Field.{Field as Kept}
use Rattle.dg_check.specs.declared.parts.Item.{Item}
use Rattle.dg_check.specs.declared.parts.Parts.{Parts}
use Rattle.dg_check.specs.declared.vars.Variable.{Variable}
use Rattle.dg_check.specs.Faults.{kind_in, kind_named}
use Rattle.dg_check.specs.Parts.{in_braces, IsItemOf, uid, count_uid, count, val, agg, edge, AreFieldsOf, no_field, more_fields, IsBlockOf}
use Rattle.dg_check.specs.Places.{Place, Source, listed, counted, followed, arguments, Walked, step_of_item, step_of_field, walked_item, source_of_item, places_of_dir, places_of_field, place_of_var, place_of_root, places_of_block}
use Rattle.dg_check.specs.Variables.{content_of_kind, content_of_edge, content_of, Definition}
use Rattle.dg_check.specs.Vars.{value_beside}
use Rattle.dg_check.proofs.PlaceLaws.{places_edge}
use Rattle.dg_funcs.specs.Kinds.{is_of_known_kind, declared_kind}
use Rattle.dg_funcs.specs.Truth.{count_along}
use Rattle.dg_funcs.proofs.KindLaws.{AreOf, values_fit}
use Rattle.dg_level.specs.Lists.{first_value, least_value, children}
use Rattle.dg_level.specs.Shown.{sort_of_kind, sort_of}
use Rattle.dg_level.specs.Given.{of_nodes, of_values, edge_has, nodes_in_braces, GivenItem, named_as, given_field, fields_give, nodes_give}
use Rattle.dg_level.proofs.KindPlaces.{all_joined, all_apart, place_kind, HasKind, IsKnownOf, IsDefinedAt}
use Rattle.dg_level.proofs.KindSteps.{given_item, given_uid, given_count_uid, given_count, given_val, given_agg, edge_given, braces_given, field_gives}

-- ---- values beside nodes

none_beside : (nodes : List ℕ) (node : ℕ) (P : Value → Type 0) → IfSome (value_beside nodes [] node) P
none_beside [] node P = tt
none_beside (n ∷ nodes) node P = tt

-- nodes without values are of each kind
pub nodes_kind : (kind : Option Kind) (nodes : List ℕ) → HasKind kind (of_nodes nodes)
nodes_kind kind nodes node = none_beside nodes node (λ value. is_of_known_kind kind value ≡ true)

module _ (value : ℕ → Option Value) (P : Value → Type 0) (node : ℕ) where
  values_beside : (nodes : List ℕ) → ((n : ℕ) → IfSome (value n) P) → IfSome (value_beside (filter (λ n. is_some (value n)) nodes) (filter_map value nodes) node) P
  values_beside [] each = tt
  values_beside (n ∷ nodes) each = by (value n) (each n) (values_beside nodes each)
    where
      first : (v : Value) (b : Bool) → P v → IfSome (value_beside (filter (λ m. is_some (value m)) nodes) (filter_map value nodes) node) P
          → IfSome (cond b (Some v) (value_beside (filter (λ m. is_some (value m)) nodes) (filter_map value nodes) node)) P
      first v true here rest = here
      first v false here rest = rest

      by : (o : Option Value) → IfSome o P → IfSome (value_beside (filter (λ m. is_some (value m)) nodes) (filter_map value nodes) node) P
          → IfSome (value_beside (cond (is_some o) (n ∷ filter (λ m. is_some (value m)) nodes) (filter (λ m. is_some (value m)) nodes)) (cons_option o (filter_map value nodes)) node) P
      by None here rest = rest
      by (Some v) here rest = first v (n == node) here rest

-- values of a kind, beside their nodes
pub values_kind : (kind : Option Kind) (value : ℕ → Option Value) → ((n : ℕ) → IfSome (value n) (λ v. is_of_known_kind kind v ≡ true)) → (nodes : List ℕ) → HasKind kind (of_values value nodes)
values_kind kind value each nodes node = values_beside value (λ v. is_of_known_kind kind v ≡ true) node nodes each

-- ---- what an edge has

module _ (value : ℕ → Option Value) (list : ℕ → List ℕ) (nodes : List ℕ) where
  by_kind : (kind : Kind) (many : Bool) → ((n : ℕ) → IfSome (value n) (λ v. is_of_known_kind (Some kind) v ≡ true)) → HasKind (kind_in (content_of_kind kind)) (edge_has (sort_of_kind kind many) value list nodes)
  by_kind kinds.Default many each = values_kind (Some kinds.Default) value each nodes
  by_kind kinds.Text many each = values_kind (Some kinds.Text) value each nodes
  by_kind kinds.Int many each = values_kind (Some kinds.Int) value each nodes
  by_kind kinds.Bool many each = values_kind (Some kinds.Bool) value each nodes
  by_kind kinds.Time many each = values_kind (Some kinds.Time) value each nodes
  by_kind kinds.Uid true each = nodes_kind (Some kinds.Uid) _
  by_kind kinds.Uid false each = nodes_kind (Some kinds.Uid) _

  along : (d : Option PredDef) (back : Bool) → ((n : ℕ) → IfSome (value n) (λ v. is_of_known_kind (option_map (λ c. c.kind) d) v ≡ true)) → HasKind (kind_in (content_of_edge d back)) (edge_has (sort_of d back) value list nodes)
  along None back each = nodes_kind None []
  along (Some d) true each = nodes_kind (Some kinds.Uid) _
  along (Some d) false each = by_kind d.kind d.list each

first_fits : (kind : Option Kind) (vs : List Value) → AreOf kind vs → IfSome (first_value vs) (λ v. is_of_known_kind kind v ≡ true)
first_fits kind [] a = tt
first_fits kind (v ∷ vs) a = a.0

module _ (schema : List PredDef) (graph : List Triple) (ds : List Definition) (vars : List Variable) (lawful : IsLawful schema graph) where
  -- ---- what an item has

  -- the kind of what an item stands for
  abbrev kind_of : QItem → Option Kind
  kind_of q = kind_in (content_of schema (source_of_item q))

  plain_kind : (kind : Option Kind) (v : Variable) (nodes : List ℕ) → v ≡ of_nodes nodes → HasKind kind v
  plain_kind kind v nodes is = subst (HasKind kind) (sym is) (nodes_kind kind nodes)

  source_kind : (q : QItem) (source : Source) (v w : Variable) → source_of_item q ≡ source → v ≡ w → HasKind (kind_in (content_of schema source)) w → HasKind (kind_of q) v
  source_kind q source v w same is h = subst (λ (s : Source). HasKind (kind_in (content_of schema s)) v) (sym same) (subst (HasKind (kind_in (content_of schema source))) (sym is) h)

  counted_is : (e : QEdge) → source_of_item (items.Count e) ≡ counted e
  counted_is e = ap source_of_item (sym (items.rolls-Count e)) ∙ ap (λ (w : Walked). w.source) (fold-roll-QItem Walked (List Place) step_of_item step_of_field (QItem-F.Count e))

  followed_is : (e : QEdge) (args : List QArg) (dirs : List QDir) (braces : Option (List QField)) → source_of_item (items.Edge e args dirs braces) ≡ followed e
  followed_is e args dirs None =
      ap source_of_item (sym (items.rolls-Edge e args dirs None)) ∙ ap (λ (w : Walked). w.source) (fold-roll-QItem Walked (List Place) step_of_item step_of_field (QItem-F.Edge e args dirs None))
  followed_is e args dirs (Some braces) =
      ap source_of_item (sym (items.rolls-Edge e args dirs (Some braces)))
      ∙ ap (λ (w : Walked). w.source) (fold-roll-QItem Walked (List Place) step_of_item step_of_field (QItem-F.Edge e args dirs (Some braces)))

  -- what an item has is of the kind of what it stands for
  has_kind : (q : QItem) (k : Item) → IsItemOf schema ds q k → (nodes : List ℕ) → HasKind (kind_of q) ((given_item schema graph ds vars q).has nodes)
  has_kind q k uid nodes = plain_kind (kind_of items.Uid) _ nodes (ap (λ (p : GivenItem). p.has nodes) (given_uid schema graph ds vars))
  has_kind q k count_uid nodes = plain_kind (kind_of items.CountUid) _ [] (ap (λ (p : GivenItem). p.has nodes) (given_count_uid schema graph ds vars))
  has_kind q k (count e) nodes =
      source_kind (items.Count e) (counted e) _ _ (counted_is e) (ap (λ (p : GivenItem). p.has nodes) (given_count schema graph ds vars e)) (values_kind (Some kinds.Int) (λ n. Some (values.Int (pos (count_along graph e n)))) (λ n. refl) nodes)
  has_kind q k (val x place h) nodes = plain_kind (kind_of (items.Val x)) _ [] (ap (λ (p : GivenItem). p.has nodes) (given_val schema graph ds vars x))
  has_kind q k (agg op x place h) nodes = plain_kind (kind_of (items.Agg op x)) _ [] (ap (λ (p : GivenItem). p.has nodes) (given_agg schema graph ds vars op x))
  has_kind q k (edge e args dirs braces orders filters inner keys_are filters_are are) nodes =
      source_kind (items.Edge e args dirs braces) (followed e) _ _ (followed_is e args dirs braces) (edge_given schema graph ds vars e args dirs nodes braces)
      (along (least_value graph e.pred) (children graph ds vars e args dirs) nodes (definition_of schema e.pred) e.back (λ n. first_fits (declared_kind schema e.pred) _ (values_fit schema e.pred n graph lawful.fit)))

  -- ---- names

  -- what a name stands for is of its kind
  named_kind : (var : Option (List ℕ)) (source : Source) (v : Variable) → AllByRecursion (IsDefinedAt schema ds) (place_of_var var source) → HasKind (kind_in (content_of schema source)) v
      → AllByRecursion (IsKnownOf ds) (named_as ds var v)
  named_kind None source v a h = tt
  named_kind (Some x) source v a h =
      let named : kind_named ds x ≡ kind_in (content_of schema source) = ap (λ o. elim o [ None ↦ None | Some content ↦ kind_in content ]) a.0.0 in
      (subst (λ (kind : Option Kind). HasKind kind v) (sym (place_kind ds x ∙ named)) h, tt)

  -- ---- fields

  places_inside : (e : QEdge) (args : List QArg) (dirs : List QDir) (braces : Option (List QField)) → AllByRecursion (IsDefinedAt schema ds) (walked_item (items.Edge e args dirs braces)).places
      → AllByRecursion (IsDefinedAt schema ds) (flat_map places_of_field (in_braces braces))
  places_inside e args dirs None a = tt
  places_inside e args dirs (Some braces) a =
      let all = subst (AllByRecursion (IsDefinedAt schema ds)) (places_edge e args dirs braces) a in (all_apart (IsDefinedAt schema ds) (flat_map places_of_dir dirs) (flat_map places_of_field braces) all.1.1).1

  places_are : (q : QField) → places_of_field q ≡ place_of_var q.var (source_of_item q.item) ++ (walked_item q.item).places
  places_are q = fold_out-QField Walked (List Place) step_of_item step_of_field q

  mutual
    inside_kind : (q : QItem) (k : Item) → IsItemOf schema ds q k → AllByRecursion (IsDefinedAt schema ds) (walked_item q).places → (nodes : List ℕ) → AllByRecursion (IsKnownOf ds) ((given_item schema graph ds vars q).inside nodes)
    inside_kind q k uid a nodes = subst (AllByRecursion (IsKnownOf ds)) (sym (ap (λ (p : GivenItem). p.inside nodes) (given_uid schema graph ds vars))) tt
    inside_kind q k count_uid a nodes = subst (AllByRecursion (IsKnownOf ds)) (sym (ap (λ (p : GivenItem). p.inside nodes) (given_count_uid schema graph ds vars))) tt
    inside_kind q k (count e) a nodes = subst (AllByRecursion (IsKnownOf ds)) (sym (ap (λ (p : GivenItem). p.inside nodes) (given_count schema graph ds vars e))) tt
    inside_kind q k (val x place h) a nodes = subst (AllByRecursion (IsKnownOf ds)) (sym (ap (λ (p : GivenItem). p.inside nodes) (given_val schema graph ds vars x))) tt
    inside_kind q k (agg op x place h) a nodes = subst (AllByRecursion (IsKnownOf ds)) (sym (ap (λ (p : GivenItem). p.inside nodes) (given_agg schema graph ds vars op x))) tt
    inside_kind q k (edge e args dirs braces orders filters inner keys_are filters_are are) a nodes =
        let below = nodes_in_braces (sort_of (definition_of schema e.pred) e.back) (children graph ds vars e args dirs) nodes in
        subst (AllByRecursion (IsKnownOf ds)) (sym (braces_given schema graph ds vars e args dirs nodes braces)) (each_kind (in_braces braces) inner are (places_inside e args dirs braces a) below)

    each_kind : (qs : List QField) (ks : List Kept) → AreFieldsOf schema ds qs ks → AllByRecursion (IsDefinedAt schema ds) (flat_map places_of_field qs) → (nodes : List ℕ)
        → AllByRecursion (IsKnownOf ds) (fields_give schema graph ds vars qs nodes)
    each_kind qs ks no_field a nodes = tt
    each_kind qs ks (more_fields q k qs' ks' var is are) a nodes =
        let parts = all_apart (IsDefinedAt schema ds) (places_of_field q) (flat_map places_of_field qs') a in
        let own = all_apart (IsDefinedAt schema ds) (place_of_var q.var (source_of_item q.item)) (walked_item q.item).places (subst (AllByRecursion (IsDefinedAt schema ds)) (places_are q) parts.0) in
        let here = all_joined (IsKnownOf ds) (named_as ds q.var ((given_item schema graph ds vars q.item).has nodes)) ((given_item schema graph ds vars q.item).inside nodes)
        (named_kind q.var (source_of_item q.item) ((given_item schema graph ds vars q.item).has nodes) own.0 (has_kind q.item k.item is nodes))
        (inside_kind q.item k.item is own.1 nodes) in
        let first = subst (AllByRecursion (IsKnownOf ds)) (sym (field_gives schema graph ds vars q nodes)) here in
        all_joined (IsKnownOf ds) (given_field schema graph ds vars q nodes) (fields_give schema graph ds vars qs' nodes) first (each_kind qs' ks' are parts.1 nodes)

  -- what a block makes known is of the kinds with which its text defines it
  pub block_kind : (block : QBlock) (kept : Parts) → IsBlockOf schema ds block kept → AllByRecursion (IsDefinedAt schema ds) (places_of_block block) → (nodes : List ℕ)
      → AllByRecursion (IsKnownOf ds) (nodes_give schema graph ds vars block nodes)
  block_kind block kept is a nodes =
      let own = all_apart (IsDefinedAt schema ds) (place_of_var block.var listed) (place_of_root block.func ++ arguments block.args ∷ (flat_map places_of_dir block.dirs ++ flat_map places_of_field block.fields)) a in
      let behind = all_apart (IsDefinedAt schema ds) (place_of_root block.func) (arguments block.args ∷ (flat_map places_of_dir block.dirs ++ flat_map places_of_field block.fields)) own.1 in
      let fields = all_apart (IsDefinedAt schema ds) (flat_map places_of_dir block.dirs) (flat_map places_of_field block.fields) behind.1.1 in
      all_joined (IsKnownOf ds) (named_as ds block.var (of_nodes nodes)) (fields_give schema graph ds vars block.fields nodes)
      (named_kind block.var listed (of_nodes nodes) own.0 (nodes_kind (kind_in (content_of schema listed)) nodes)) (each_kind block.fields kept.fields is.fields fields.1 nodes)
