-- What fields and blocks make known depends on the variables that they use alone.
use Rattle.std.proofs.Common.{◌≡◌, ℕ, true, List, [], ◌∷◌, ◌++◌, map, flat_map, refl, sym, ap, ◌∙◌, subst}
use Rattle.std.specs.Prelude.{Option, Some, None, slice_get}
use Rattle.std.specs.Ordering.{nat_cmp}
use Rattle.dg_values.specs.Ascending.{ascending}
use Rattle.dg_schema.specs.declared.definition.PredDef.{PredDef}
use Rattle.dg_schema.specs.Definitions.{definition_of}
use Rattle.dg_graph.specs.declared.change.Triple.{Triple}
use Rattle.dg_parse.specs.declared.query.QBlock.{QBlock}
use Rattle.dg_parse.specs.declared.query.QEdge.{QEdge}
use Rattle.dg_parse.specs.declared.query.QField.{QField, QField-F, roll-QField, fold-roll-QField, map-QField}
use Rattle.dg_parse.specs.declared.query.QItem.{QItem, QItem-F, roll-QItem, fold-QItem, fold-roll-QItem}
use Rattle.dg_parse.specs.declared.query.QItem.TheFolds.{map-QItem, ind-QField}
use Rattle.dg_check.specs.declared.vars.Variable.{Variable}
use Rattle.dg_check.specs.Blocks.{names_of_block}
use Rattle.dg_check.specs.Names.{is_name_in}
use Rattle.dg_check.specs.Places as places
use Rattle.dg_check.specs.Places.{Place, arguments, listed, Walked, places_of_dir, walked_item, places_of_field, place_of_var, place_of_root, places_of_block}
use Rattle.dg_check.specs.Plans.{place_of}
use Rattle.dg_check.specs.Variables.{Definition, uses_in}
use Rattle.dg_shape.specs.Orders.{ordered, page}
use Rattle.dg_level.specs.Lists.{least_value, keys_for, passed_all}
use Rattle.dg_level.specs.Shown.{sort_of}
use Rattle.dg_level.specs.Blocks.{nodes_of_block}
use Rattle.dg_level.specs.Given.{of_nodes, edge_has, nodes_in_braces, GivenItem, GivenField, all_given, step_of_item, named_as, step_of_field, given_field, block_gives}
use Rattle.dg_level.proofs.Locality.{AreLocal, local_front, local_back, are_local, alike_named, root_local, listed_local, children_local}

-- an edge by the lists of nodes, and by what stands in its braces
abbrev edge_given : List PredDef → List Triple → QEdge → List GivenField → (ℕ → List ℕ) → GivenItem
edge_given schema graph e fields list = record {
  has = λ nodes. edge_has (sort_of (definition_of schema e.pred) e.back) (least_value graph e.pred) list nodes;
  inside = λ nodes. all_given fields (nodes_in_braces (sort_of (definition_of schema e.pred) e.back) list nodes);
}

-- a field by its item
abbrev pub field_of : List Definition → Option (List ℕ) → GivenItem → GivenField
field_of ds var item nodes = named_as ds var (item.has nodes) ++ item.inside nodes

module _ (schema : List PredDef) (graph : List Triple) (ds : List Definition) where
  -- an item of the text
  abbrev pub given_item : List Variable → QItem → GivenItem
  given_item vars = fold-QItem GivenItem GivenField (step_of_item schema graph ds vars) (step_of_field ds)

  -- an item, by its layer
  pub item_is : (vars : List Variable) (layer : QItem-F QItem QField)
      → given_item vars (roll-QItem layer) ≡ step_of_item schema graph ds vars (map-QItem QItem QField GivenItem GivenField (given_item vars) (given_field schema graph ds vars) layer)
  item_is vars layer = fold-roll-QItem GivenItem GivenField (step_of_item schema graph ds vars) (step_of_field ds) layer

  -- a field, by its layer
  pub field_is : (vars : List Variable) (layer : QField-F QItem QField) → given_field schema graph ds vars (roll-QField layer) ≡ field_of ds layer.var (given_item vars layer.item)
  field_is vars layer = fold-roll-QField GivenItem GivenField (step_of_item schema graph ds vars) (step_of_field ds) layer

-- the places of an item, by its layer
pub walked_is : (layer : QItem-F QItem QField) → (walked_item (roll-QItem layer)).places ≡ (places.step_of_item (map-QItem QItem QField Walked (List Place) walked_item places_of_field layer)).places
walked_is layer = ap (λ (w : Walked). w.places) (fold-roll-QItem Walked (List Place) places.step_of_item places.step_of_field layer)

-- the places of a field, by its layer
pub field_places : (layer : QField-F QItem QField) → places_of_field (roll-QField layer) ≡ place_of_var layer.var (walked_item layer.item).source ++ (walked_item layer.item).places
field_places layer = fold-roll-QField Walked (List Place) places.step_of_item places.step_of_field layer

module _ (schema : List PredDef) (graph : List Triple) (ds : List Definition) (vars others : List Variable) where
  -- an item is alike
  abbrev IsLocalItem : QItem → Type 0
  IsLocalItem q = AreLocal ds vars others (walked_item q).places → given_item schema graph ds vars q ≡ given_item schema graph ds others q

  -- a field is alike
  abbrev IsLocalField : QField → Type 0
  IsLocalField q = AreLocal ds vars others (places_of_field q) → given_field schema graph ds vars q ≡ given_field schema graph ds others q

  abbrev fields_of : List ((q : QField) × IsLocalField q) → List QField
  fields_of qs = map (λ e. e.0) qs

  inner_local : (qs : List ((q : QField) × IsLocalField q)) → AreLocal ds vars others (flat_map (λ places. places) (map places_of_field (fields_of qs)))
      → map (given_field schema graph ds vars) (fields_of qs) ≡ map (given_field schema graph ds others) (fields_of qs)
  inner_local [] a = refl
  inner_local (e ∷ qs) a =
      let own = places_of_field e.0 in
      let more = flat_map (λ (places : List Place). places) (map places_of_field (fields_of qs)) in
      let here = e.1 (local_front ds vars others own more a) in
      let rest = inner_local qs (local_back ds vars others own more a) in
      λ i. here i ∷ rest i

  -- one layer of an item, each with what holds of it
  abbrev Layer : Type 0
  Layer = QItem-F ((q : QItem) × IsLocalItem q) ((q : QField) × IsLocalField q)

  abbrev plain : Layer → QItem-F QItem QField
  plain y = map-QItem ((q : QItem) × IsLocalItem q) ((q : QField) × IsLocalField q) QItem QField (λ e. e.0) (λ e. e.0) y

  same_layer : (layer : QItem-F QItem QField)
      → step_of_item schema graph ds vars (map-QItem QItem QField GivenItem GivenField (given_item schema graph ds vars) (given_field schema graph ds vars) layer)
      ≡ step_of_item schema graph ds others (map-QItem QItem QField GivenItem GivenField (given_item schema graph ds others) (given_field schema graph ds others) layer)
      → given_item schema graph ds vars (roll-QItem layer) ≡ given_item schema graph ds others (roll-QItem layer)
  same_layer layer e = item_is schema graph ds vars layer ∙ (e ∙ sym (item_is schema graph ds others layer))

  item_local : (y : Layer) → IsLocalItem (roll-QItem (plain y))
  item_local QItem-F.Uid a = same_layer QItem-F.Uid refl
  item_local QItem-F.CountUid a = same_layer QItem-F.CountUid refl
  item_local (QItem-F.Count e) a = same_layer (QItem-F.Count e) refl
  item_local (QItem-F.Val x) a = same_layer (QItem-F.Val x) refl
  item_local (QItem-F.Agg op x) a = same_layer (QItem-F.Agg op x) refl
  item_local (QItem-F.Edge e args list None) a =
      let b = (subst (AreLocal ds vars others) (walked_is (QItem-F.Edge e args list None)) a).1 in
      let nodes = children_local ds vars others graph e args list b.0 (local_front ds vars others (flat_map places_of_dir list) [] b.1) in
      same_layer (QItem-F.Edge e args list None) (ap (edge_given schema graph e []) nodes)
  item_local (QItem-F.Edge e args list (Some qs)) a =
      let b = (subst (AreLocal ds vars others) (walked_is (QItem-F.Edge e args list (Some (fields_of qs)))) a).1 in
      let more = flat_map (λ (places : List Place). places) (map places_of_field (fields_of qs)) in
      let nodes = children_local ds vars others graph e args list b.0 (local_front ds vars others (flat_map places_of_dir list) more b.1) in
      let inner = inner_local qs (local_back ds vars others (flat_map places_of_dir list) more b.1) in
      same_layer (QItem-F.Edge e args list (Some (fields_of qs))) (λ i. edge_given schema graph e (inner i) (nodes i))

  field_step : (y : QField-F ((q : QItem) × IsLocalItem q) ((q : QField) × IsLocalField q)) → IsLocalField (roll-QField (map-QField ((q : QItem) × IsLocalItem q) ((q : QField) × IsLocalField q) QItem QField (λ e. e.0) (λ e. e.0) y))
  field_step y a =
      let layer = map-QField ((q : QItem) × IsLocalItem q) ((q : QField) × IsLocalField q) QItem QField (λ e. e.0) (λ e. e.0) y in
      let b = subst (AreLocal ds vars others) (field_places layer) a in
      let here = y.item.1 (local_back ds vars others (place_of_var y.var (walked_item y.item.0).source) (walked_item y.item.0).places b) in
      field_is schema graph ds vars layer ∙ (ap (field_of ds y.var) here ∙ sym (field_is schema graph ds others layer))

  field_local : (q : QField) → IsLocalField q
  field_local = ind-QField IsLocalItem IsLocalField (λ x y is. subst (λ l. IsLocalItem (roll-QItem l)) is (item_local y)) (λ x y is. subst (λ l. IsLocalField (roll-QField l)) is (field_step y))

  fields_local : (qs : List QField) → AreLocal ds vars others (flat_map places_of_field qs) → map (given_field schema graph ds vars) qs ≡ map (given_field schema graph ds others) qs
  fields_local [] a = refl
  fields_local (q ∷ qs) a =
      let here = field_local q (local_front ds vars others (places_of_field q) (flat_map places_of_field qs) a) in
      let rest = fields_local qs (local_back ds vars others (places_of_field q) (flat_map places_of_field qs) a) in
      λ i. here i ∷ rest i

  -- a block makes the same known where the variables that it uses stand for the same
  pub block_local : (block : QBlock) → ((x : List ℕ) → is_name_in (names_of_block (places_of_block block)).used x ≡ true → slice_get vars (place_of ds x) ≡ slice_get others (place_of ds x))
      → block_gives schema graph ds vars block ≡ block_gives schema graph ds others block
  block_local block h =
      let inner = flat_map places_of_dir block.dirs ++ flat_map places_of_field block.fields in
      let all = are_local ds vars others (places_of_block block) (alike_named ds vars others (uses_in (places_of_block block)) h) in
      let behind = local_back ds vars others (place_of_var block.var listed) (place_of_root block.func ++ arguments block.args ∷ inner) all in
      let root = root_local ds vars others graph block.func (local_front ds vars others (place_of_root block.func) (arguments block.args ∷ inner) behind) in
      let rest = local_back ds vars others (place_of_root block.func) (arguments block.args ∷ inner) behind in
      let dirs = local_front ds vars others (flat_map places_of_dir block.dirs) (flat_map places_of_field block.fields) rest.1 in
      let fields = fields_local block.fields (local_back ds vars others (flat_map places_of_dir block.dirs) (flat_map places_of_field block.fields) rest.1) in
      let nodes : nodes_of_block graph ds vars block ≡ nodes_of_block graph ds others block =
      ap (λ ns. page block.args (ordered (keys_for graph ds vars block.args) (passed_all graph ds vars block.dirs ns))) root ∙ listed_local ds vars others graph block.args block.dirs rest.0 dirs _ in
      λ i. named_as ds block.var (of_nodes (ascending nat_cmp (nodes i))) ++ all_given (fields i) (ascending nat_cmp (nodes i))
