-- A block makes known what stands at the places of the variables that it defines, in their order.
use Rattle.std.proofs.Common.{◌≡◌, ℕ, List, [], ◌∷◌, ◌++◌, map, flat_map, refl, sym, ap, ◌∙◌, subst}
use Rattle.std.specs.Prelude.{Option, Some, None}
use Rattle.std.proofs.lemmas.List.{map-append}
use Rattle.std.proofs.lemmas.List.Concat.{flat_map-append}
use Rattle.std.specs.Ordering.{nat_cmp}
use Rattle.dg_values.specs.Ascending.{ascending}
use Rattle.dg_schema.specs.declared.definition.PredDef.{PredDef}
use Rattle.dg_schema.specs.Definitions.{definition_of}
use Rattle.dg_graph.specs.declared.change.Triple.{Triple}
use Rattle.dg_parse.specs.declared.query.QArg.{QArg}
use Rattle.dg_parse.specs.declared.query.QBlock.{QBlock}
use Rattle.dg_parse.specs.declared.query.QDir.{QDir}
use Rattle.dg_parse.specs.declared.query.QDir.TheVariants as dirs
use Rattle.dg_parse.specs.declared.query.QField.{QField, QField-F, roll-QField, map-QField}
use Rattle.dg_parse.specs.declared.query.QFilter.{QFilter, roll-QFilter, fold-roll-QFilter, map-QFilter}
use Rattle.dg_parse.specs.declared.query.QFunc.{QFunc}
use Rattle.dg_parse.specs.declared.query.QItem.{QItem, QItem-F, roll-QItem}
use Rattle.dg_parse.specs.declared.query.QItem.TheFolds.{map-QItem, ind-QField}
use Rattle.dg_parse.specs.declared.query.QPart.{QPart, QPart-F, roll-QPart, fold-roll-QPart}
use Rattle.dg_parse.specs.declared.query.QPart.TheFolds.{map-QPart, ind-QFilter}
use Rattle.dg_check.specs.declared.vars.Variable.{Variable}
use Rattle.dg_check.specs.Blocks.{names_of_block}
use Rattle.dg_check.specs.Places as places
use Rattle.dg_check.specs.Places.{Place, Source, arguments, listed, Walked, places_of_part, places_of_filter, places_of_dir, walked_item, places_of_field, place_of_var, place_of_root, places_of_block}
use Rattle.dg_check.specs.Plans.{place_of}
use Rattle.dg_check.specs.Variables.{Definition, definition_at, definitions_in}
use Rattle.dg_level.specs.Shown.{sort_of}
use Rattle.dg_level.specs.Lists.{children}
use Rattle.dg_level.specs.Blocks.{nodes_of_block}
use Rattle.dg_level.specs.Given.{of_nodes, nodes_in_braces, Known, GivenItem, GivenField, all_given, step_of_item, named_as, given_field, fields_give, block_gives}
use Rattle.dg_level.proofs.LocalFields.{given_item, item_is, field_is, walked_is, field_places}

-- the names that are defined at places
abbrev pub named_in : List Place → List (List ℕ)
named_in ps = map (λ d. d.name) (definitions_in [] ps)

pub named_both : (ps qs : List Place) → named_in (ps ++ qs) ≡ named_in ps ++ named_in qs
named_both ps qs = ap (map (λ (d : Definition). d.name)) (flat_map-append (definition_at []) ps qs) ∙ map-append (λ (d : Definition). d.name) (definitions_in [] ps) (definitions_in [] qs)

-- ---- filters define nothing

abbrev IsNoPart : QPart → Type 0
IsNoPart p = named_in (places_of_part p) ≡ []

abbrev IsNoFilter : QFilter → Type 0
IsNoFilter f = named_in (places_of_filter f) ≡ []

no_filters : (fs : List ((f : QFilter) × IsNoFilter f)) → named_in (flat_map (λ (ps : List Place). ps) (map places_of_filter (map (λ e. e.0) fs))) ≡ []
no_filters [] = refl
no_filters (e ∷ fs) = named_both (places_of_filter e.0) (flat_map (λ (ps : List Place). ps) (map places_of_filter (map (λ e. e.0) fs))) ∙ λ i. e.1 i ++ no_filters fs i

part_places : (layer : QPart-F QPart QFilter) → places_of_part (roll-QPart layer) ≡ places.step_of_part (map-QPart QPart QFilter (List Place) (List Place) places_of_part places_of_filter layer)
part_places layer = fold-roll-QPart (List Place) (List Place) places.step_of_part places.step_of_filter layer

no_part : (y : QPart-F ((p : QPart) × IsNoPart p) ((f : QFilter) × IsNoFilter f)) → IsNoPart (roll-QPart (map-QPart ((p : QPart) × IsNoPart p) ((f : QFilter) × IsNoFilter f) QPart QFilter (λ e. e.0) (λ e. e.0) y))
no_part (QPart-F.Or fs) = ap named_in (part_places (QPart-F.Or (map (λ e. e.0) fs))) ∙ no_filters fs
no_part (QPart-F.And fs) = ap named_in (part_places (QPart-F.And (map (λ e. e.0) fs))) ∙ no_filters fs
no_part (QPart-F.Func f) = ap named_in (part_places (QPart-F.Func f))

no_filter : (f : QFilter) → IsNoFilter f
no_filter =
    ind-QFilter IsNoPart IsNoFilter (λ x y is. subst (λ l. IsNoPart (roll-QPart l)) is (no_part y)) (λ x y is. subst (λ l. IsNoFilter (roll-QFilter l)) is
    (ap named_in (fold-roll-QFilter (List Place) (List Place) places.step_of_part places.step_of_filter (map-QFilter ((p : QPart) × IsNoPart p) ((f : QFilter) × IsNoFilter f) QPart QFilter (λ e. e.0) (λ e. e.0) y)) ∙ y.part.1))

-- nor do directives
no_dirs : (list : List QDir) → named_in (flat_map places_of_dir list) ≡ []
no_dirs [] = refl
no_dirs (dirs.Filter f ∷ list) = named_both (places_of_filter f) (flat_map places_of_dir list) ∙ λ i. no_filter f i ++ no_dirs list i
no_dirs (dirs.Cascade ∷ list) = no_dirs list
no_dirs (dirs.Normalize ∷ list) = no_dirs list
no_dirs (dirs.Recurse options ∷ list) = no_dirs list

-- the places of what is known
abbrev pub places_in : List Known → List ℕ
places_in known = map (λ k. k.0) known

known_both : (ks ms : List Known) → places_in (ks ++ ms) ≡ places_in ks ++ places_in ms
known_both ks ms = map-append (λ (k : Known). k.0) ks ms

module _ (ds : List Definition) where
  -- the places of the names that are defined at places
  abbrev set_in : List Place → List ℕ
  set_in ps = map (place_of ds) (named_in ps)

  set_both : (ps qs : List Place) → set_in (ps ++ qs) ≡ set_in ps ++ set_in qs
  set_both ps qs = ap (map (place_of ds)) (named_both ps qs) ∙ map-append (place_of ds) (named_in ps) (named_in qs)

  -- where directives stand in front
  behind_dirs : (list : List QDir) (ps : List Place) → set_in (flat_map places_of_dir list ++ ps) ≡ set_in ps
  behind_dirs list ps = set_both (flat_map places_of_dir list) ps ∙ λ i. map (place_of ds) (no_dirs list i) ++ set_in ps

  var_sets : (var : Option (List ℕ)) (source : Source) (variable : Variable) → places_in (named_as ds var variable) ≡ set_in (place_of_var var source)
  var_sets None source variable = refl
  var_sets (Some x) source variable = refl

  module _ (schema : List PredDef) (graph : List Triple) (vars : List Variable) where
    abbrev IsSetItem : QItem → Type 0
    IsSetItem q = (nodes : List ℕ) → places_in ((given_item schema graph ds vars q).inside nodes) ≡ set_in (walked_item q).places

    abbrev IsSetField : QField → Type 0
    IsSetField q = (nodes : List ℕ) → places_in (given_field schema graph ds vars q nodes) ≡ set_in (places_of_field q)

    abbrev Layer : Type 0
    Layer = QItem-F ((q : QItem) × IsSetItem q) ((q : QField) × IsSetField q)

    abbrev plain : Layer → QItem-F QItem QField
    plain y = map-QItem ((q : QItem) × IsSetItem q) ((q : QField) × IsSetField q) QItem QField (λ e. e.0) (λ e. e.0) y

    inner_set : (qs : List ((q : QField) × IsSetField q)) (nodes : List ℕ)
        → places_in (all_given (map (given_field schema graph ds vars) (map (λ e. e.0) qs)) nodes) ≡ set_in (flat_map (λ (ps : List Place). ps) (map places_of_field (map (λ e. e.0) qs)))
    inner_set [] nodes = refl
    inner_set (e ∷ qs) nodes =
        known_both (given_field schema graph ds vars e.0 nodes) (all_given (map (given_field schema graph ds vars) (map (λ e. e.0) qs)) nodes)
        ∙ ((λ i. e.1 nodes i ++ inner_set qs nodes i) ∙ sym (set_both (places_of_field e.0) (flat_map (λ (ps : List Place). ps) (map places_of_field (map (λ e. e.0) qs)))))

    -- what an item knows, and the places of its text, by its layer
    item_set : (layer : QItem-F QItem QField) (nodes : List ℕ)
        → places_in ((step_of_item schema graph ds vars (map-QItem QItem QField GivenItem GivenField (given_item schema graph ds vars) (given_field schema graph ds vars) layer)).inside nodes)
        ≡ set_in (places.step_of_item (map-QItem QItem QField Walked (List Place) walked_item places_of_field layer)).places
        → places_in ((given_item schema graph ds vars (roll-QItem layer)).inside nodes) ≡ set_in (walked_item (roll-QItem layer)).places
    item_set layer nodes e = ap (λ (item : GivenItem). places_in (item.inside nodes)) (item_is schema graph ds vars layer) ∙ (e ∙ sym (ap set_in (walked_is layer)))

    item_step : (y : Layer) → IsSetItem (roll-QItem (plain y))
    item_step QItem-F.Uid nodes = item_set QItem-F.Uid nodes refl
    item_step QItem-F.CountUid nodes = item_set QItem-F.CountUid nodes refl
    item_step (QItem-F.Count e) nodes = item_set (QItem-F.Count e) nodes refl
    item_step (QItem-F.Val x) nodes = item_set (QItem-F.Val x) nodes refl
    item_step (QItem-F.Agg op x) nodes = item_set (QItem-F.Agg op x) nodes refl
    item_step (QItem-F.Edge e args list None) nodes = item_set (QItem-F.Edge e args list None) nodes (sym (behind_dirs list []))
    item_step (QItem-F.Edge e args list (Some qs)) nodes =
        let more = flat_map (λ (ps : List Place). ps) (map places_of_field (map (λ e. e.0) qs)) in
        let inner = inner_set qs (nodes_in_braces (sort_of (definition_of schema e.pred) e.back) (children graph ds vars e args list) nodes) in
        item_set (QItem-F.Edge e args list (Some (map (λ e. e.0) qs))) nodes (inner ∙ sym (behind_dirs list more))

    field_step : (y : QField-F ((q : QItem) × IsSetItem q) ((q : QField) × IsSetField q)) → IsSetField (roll-QField (map-QField ((q : QItem) × IsSetItem q) ((q : QField) × IsSetField q) QItem QField (λ e. e.0) (λ e. e.0) y))
    field_step y nodes =
        let layer = map-QField ((q : QItem) × IsSetItem q) ((q : QField) × IsSetField q) QItem QField (λ e. e.0) (λ e. e.0) y in
        let item = given_item schema graph ds vars y.item.0 in
        let own = var_sets y.var (walked_item y.item.0).source (item.has nodes) in
        let inner = y.item.1 nodes in
        ap (λ (f : GivenField). places_in (f nodes)) (field_is schema graph ds vars layer)
        ∙ known_both (named_as ds y.var (item.has nodes)) (item.inside nodes)
        ∙ (λ i. own i ++ inner i)
        ∙ sym (set_both (place_of_var y.var (walked_item y.item.0).source) (walked_item y.item.0).places)
        ∙ sym (ap set_in (field_places layer))

    field_sets : (q : QField) → IsSetField q
    field_sets = ind-QField IsSetItem IsSetField (λ x y is. subst (λ l. IsSetItem (roll-QItem l)) is (item_step y)) (λ x y is. subst (λ l. IsSetField (roll-QField l)) is (field_step y))

    fields_set : (qs : List QField) (nodes : List ℕ) → places_in (fields_give schema graph ds vars qs nodes) ≡ set_in (flat_map places_of_field qs)
    fields_set [] nodes = refl
    fields_set (q ∷ qs) nodes =
        known_both (given_field schema graph ds vars q nodes) (fields_give schema graph ds vars qs nodes)
        ∙ ((λ i. field_sets q nodes i ++ fields_set qs nodes i) ∙ sym (set_both (places_of_field q) (flat_map places_of_field qs)))

    -- where a root and arguments stand in front
    behind_root : (f : Option QFunc) (args : List QArg) (ps : List Place) → set_in (place_of_root f ++ arguments args ∷ ps) ≡ set_in ps
    behind_root None args ps = refl
    behind_root (Some f) args ps = refl

    -- a block sets the places of the variables that it defines
    pub block_sets : (block : QBlock) → places_in (block_gives schema graph ds vars block) ≡ map (place_of ds) (names_of_block (places_of_block block)).defined
    block_sets block =
        let nodes = ascending nat_cmp (nodes_of_block graph ds vars block) in
        let inner = flat_map places_of_field block.fields in
        let behind = flat_map places_of_dir block.dirs ++ inner in
        let own = var_sets block.var listed (of_nodes nodes) in
        known_both (named_as ds block.var (of_nodes nodes)) (fields_give schema graph ds vars block.fields nodes)
        ∙ (λ i. own i ++ fields_set block.fields nodes i)
        ∙ ap (λ l. set_in (place_of_var block.var listed) ++ l) (sym (behind_root block.func block.args behind ∙ behind_dirs block.dirs inner))
        ∙ sym (set_both (place_of_var block.var listed) (place_of_root block.func ++ arguments block.args ∷ behind))
