-- What fields make known by the plan is what they make known by their text.
use Rattle.std.proofs.Common.{◌≡◌, ℕ, List, ◌++◌, refl, sym, ap, ◌∙◌}
use Rattle.std.specs.Prelude.{Option, Some, None}
use Rattle.std.specs.Ordering.{nat_cmp}
use Rattle.dg_values.specs.Ascending.{ascending}
use Rattle.dg_schema.specs.declared.definition.PredDef.{PredDef}
use Rattle.dg_schema.specs.Definitions.{definition_of}
use Rattle.dg_graph.specs.declared.change.Triple.{Triple}
use Rattle.dg_graph.specs.Graphs.{IsLawful}
use Rattle.dg_parse.specs.declared.query.QBlock.{QBlock}
use Rattle.dg_parse.specs.declared.query.QField.{QField}
use Rattle.dg_parse.specs.declared.query.QItem.{QItem}
use Rattle.dg_check.specs.declared.parts.Field.{Field as Kept}
use Rattle.dg_check.specs.declared.parts.Item.{Item}
use Rattle.dg_check.specs.declared.parts.Item.TheVariants as kept
use Rattle.dg_check.specs.declared.parts.Parts.{Parts}
use Rattle.dg_check.specs.declared.vars.Variable.{Variable}
use Rattle.dg_check.specs.Parts.{IsVarOf, in_braces, IsItemOf, uid, count_uid, count, val, agg, edge, AreFieldsOf, no_field, more_fields, IsBlockOf}
use Rattle.dg_check.specs.Variables.{Definition}
use Rattle.dg_funcs.specs.Laws.{AreOfKind, FiltersMeanTheirTexts, RootsMeanTheirTexts}
use Rattle.dg_level.specs.Lists.{least_value}
use Rattle.dg_level.specs.Shown.{sort_of}
use Rattle.dg_level.specs.Given.{of_nodes, edge_has, nodes_in_braces, GivenItem, named_as, fields_give, nodes_give, block_gives}
use Rattle.dg_level.specs.PlannedGiven.{PlannedHas, at_place, planned_fields, planned_over, planned_gives}
use Rattle.dg_level.proofs.MeaningLaws.{cut_alike}
use Rattle.dg_level.proofs.BlockMeanings.{nodes_are}
use Rattle.dg_level.proofs.KindSteps.{given_item, given_uid, given_count_uid, given_count, given_val, given_agg, edge_given, braces_given, field_gives, planned_item, planned_uid, planned_count_uid, planned_count, planned_val, planned_agg, edge_planned, braces_planned, field_planned}

module _ (schema : List PredDef) (ds : List Definition) (graph : List Triple) (vars : List Variable) (lawful : IsLawful schema graph) (of_kind : AreOfKind ds vars) (filters_mean : FiltersMeanTheirTexts) where
  -- the variable that a plan keeps is that of the name
  var_alike : (var : Option (List ℕ)) (place : Option ℕ) → IsVarOf ds var place → (v : Variable) → at_place place v ≡ named_as ds var v
  var_alike None None is v = refl
  var_alike None (Some place) is v = absurd is
  var_alike (Some x) None is v = absurd is
  var_alike (Some x) (Some place) is v = ap (λ (at : ℕ). at_place (Some at) v) is.0

  -- what an item has
  has_alike : (q : QItem) (k : Item) → IsItemOf schema ds q k → (nodes : List ℕ) → (planned_item schema graph vars q).has k nodes ≡ (given_item schema graph ds vars q).has nodes
  has_alike q k uid nodes = ap (λ (p : PlannedHas). p.has kept.Plain nodes) (planned_uid schema graph vars) ∙ sym (ap (λ (p : GivenItem). p.has nodes) (given_uid schema graph ds vars))
  has_alike q k count_uid nodes = ap (λ (p : PlannedHas). p.has kept.Plain nodes) (planned_count_uid schema graph vars) ∙ sym (ap (λ (p : GivenItem). p.has nodes) (given_count_uid schema graph ds vars))
  has_alike q k (count e) nodes = ap (λ (p : PlannedHas). p.has kept.Plain nodes) (planned_count schema graph vars e) ∙ sym (ap (λ (p : GivenItem). p.has nodes) (given_count schema graph ds vars e))
  has_alike q k (val x place h) nodes = ap (λ (p : PlannedHas). p.has (kept.Val place) nodes) (planned_val schema graph vars x) ∙ sym (ap (λ (p : GivenItem). p.has nodes) (given_val schema graph ds vars x))
  has_alike q k (agg op x place h) nodes = ap (λ (p : PlannedHas). p.has (kept.Val place) nodes) (planned_agg schema graph vars op x) ∙ sym (ap (λ (p : GivenItem). p.has nodes) (given_agg schema graph ds vars op x))
  has_alike q k (edge e args dirs braces orders filters inner keys_are filters_are are) nodes =
      edge_planned schema graph vars e args dirs orders filters inner nodes braces
      ∙ (λ i. edge_has (sort_of (definition_of schema e.pred) e.back) (least_value graph e.pred) (λ n. cut_alike schema ds graph vars lawful of_kind filters_mean e args dirs orders filters keys_are.0 filters_are n i) nodes)
      ∙ sym (edge_given schema graph ds vars e args dirs nodes braces)

  mutual
    inside_alike : (q : QItem) (k : Item) → IsItemOf schema ds q k → (nodes : List ℕ) → (planned_item schema graph vars q).inside k nodes ≡ (given_item schema graph ds vars q).inside nodes
    inside_alike q k uid nodes = ap (λ (p : PlannedHas). p.inside kept.Plain nodes) (planned_uid schema graph vars) ∙ sym (ap (λ (p : GivenItem). p.inside nodes) (given_uid schema graph ds vars))
    inside_alike q k count_uid nodes = ap (λ (p : PlannedHas). p.inside kept.Plain nodes) (planned_count_uid schema graph vars) ∙ sym (ap (λ (p : GivenItem). p.inside nodes) (given_count_uid schema graph ds vars))
    inside_alike q k (count e) nodes = ap (λ (p : PlannedHas). p.inside kept.Plain nodes) (planned_count schema graph vars e) ∙ sym (ap (λ (p : GivenItem). p.inside nodes) (given_count schema graph ds vars e))
    inside_alike q k (val x place h) nodes = ap (λ (p : PlannedHas). p.inside (kept.Val place) nodes) (planned_val schema graph vars x) ∙ sym (ap (λ (p : GivenItem). p.inside nodes) (given_val schema graph ds vars x))
    inside_alike q k (agg op x place h) nodes = ap (λ (p : PlannedHas). p.inside (kept.Val place) nodes) (planned_agg schema graph vars op x) ∙ sym (ap (λ (p : GivenItem). p.inside nodes) (given_agg schema graph ds vars op x))
    inside_alike q k (edge e args dirs braces orders filters inner keys_are filters_are are) nodes =
        braces_planned schema graph vars e args dirs orders filters inner nodes braces
        ∙ (λ i. planned_fields schema graph vars (in_braces braces) inner
        (nodes_in_braces (sort_of (definition_of schema e.pred) e.back) (λ n. cut_alike schema ds graph vars lawful of_kind filters_mean e args dirs orders filters keys_are.0 filters_are n i) nodes))
        ∙ each_alike (in_braces braces) inner are _
        ∙ sym (braces_given schema graph ds vars e args dirs nodes braces)

    each_alike : (qs : List QField) (ks : List Kept) → AreFieldsOf schema ds qs ks → (nodes : List ℕ) → planned_fields schema graph vars qs ks nodes ≡ fields_give schema graph ds vars qs nodes
    each_alike qs ks no_field nodes = refl
    each_alike qs ks (more_fields q k qs' ks' var is are) nodes =
        let own = var_alike q.var k.var var ((planned_item schema graph vars q.item).has k.item nodes) ∙ ap (named_as ds q.var) (has_alike q.item k.item is nodes) in
        let inside = inside_alike q.item k.item is nodes in
        let joined : at_place k.var ((planned_item schema graph vars q.item).has k.item nodes) ++ (planned_item schema graph vars q.item).inside k.item nodes
        ≡ named_as ds q.var ((given_item schema graph ds vars q.item).has nodes) ++ (given_item schema graph ds vars q.item).inside nodes = λ i. own i ++ inside i in
        let here = field_planned schema graph vars q k nodes ∙ (joined ∙ sym (field_gives schema graph ds vars q nodes)) in
        let rest = each_alike qs' ks' are nodes in
        λ i. here i ++ rest i

  over_alike : (block : QBlock) (kept : Parts) → IsBlockOf schema ds block kept → (nodes : List ℕ) → planned_over schema graph vars block kept nodes ≡ nodes_give schema graph ds vars block nodes
  over_alike block kept is nodes =
      let own = var_alike block.var kept.var is.var (of_nodes nodes) in
      let fields = each_alike block.fields kept.fields is.fields nodes in
      λ i. own i ++ fields i

  -- what a block makes known by the plan is what it makes known by its text
  pub block_alike : RootsMeanTheirTexts → (block : QBlock) (kept : Parts) → IsBlockOf schema ds block kept → planned_gives schema graph vars block kept ≡ block_gives schema graph ds vars block
  block_alike roots_mean block kept is =
      ap (λ nodes. planned_over schema graph vars block kept (ascending nat_cmp nodes)) (nodes_are schema ds graph vars lawful of_kind filters_mean roots_mean block kept is) ∙ over_alike block kept is _
