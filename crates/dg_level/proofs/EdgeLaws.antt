-- What an edge shows: values, or nodes of the level below.
use Rattle.std.proofs.Common.{◌≡◌, ℕ, Bool, true, false, List, [], ◌∷◌, flat_map, refl, sym, ap, ◌∙◌, true≢false}
use Rattle.dg_schema.specs.declared.definition.PredDef.{PredDef}
use Rattle.dg_schema.specs.Definitions.{definition_of}
use Rattle.dg_graph.specs.declared.change.Triple.{Triple}
use Rattle.dg_graph.specs.Graphs.{objects}
use Rattle.dg_parse.specs.declared.query.QArg.{QArg}
use Rattle.dg_parse.specs.declared.query.QEdge.{QEdge}
use Rattle.dg_parse.specs.declared.query.QField.{QField}
use Rattle.dg_check.specs.declared.parts.Field.{Field as Kept}
use Rattle.dg_check.specs.declared.parts.Filter.{Filter}
use Rattle.dg_check.specs.declared.parts.Item.{Item, Item-F}
use Rattle.dg_check.specs.declared.parts.Item.TheVariants as kept
use Rattle.dg_check.specs.declared.parts.Item.TheViews.{out-Item}
use Rattle.dg_check.specs.declared.parts.OrderKey.{OrderKey}
use Rattle.dg_check.specs.declared.vars.Variable.{Variable}
use Rattle.dg_tree.specs.declared.tree.Tree.{Tree}
use Rattle.dg_level.specs.declared.sorts.Sort.{Sort}
use Rattle.dg_level.specs.declared.sorts.Sort.TheVariants as sorts
use Rattle.dg_level.specs.Answers.{shown}
use Rattle.dg_level.specs.Shown.{sort_of, as_array, first_tree, edge_shown}
use Rattle.dg_level.specs.Planned.{is_single, planned_at}
use Rattle.dg_level.specs.Keys.{all_count_keys}
use Rattle.dg_level.specs.Columns.{FieldsOf, sort_below}
use Rattle.dg_level.specs.Levels.{left_of, below_trees, leads_to_nodes, own_shown, bare_trees, kept_trees}
use Rattle.dg_level.proofs.PlannedLaws.{all_counts}

abbrev none_at : ℕ → List Tree
none_at n = []

none_shown : (list : List ℕ) → flat_map none_at list ≡ []
none_shown [] = refl
none_shown (n ∷ list) = none_shown list

bare_shown : (sort : Sort) (values : List Tree) (list : List ℕ) → edge_shown sort values [] (λ n. []) list ≡ own_shown sort values
bare_shown sorts.Nothing values list = refl
bare_shown sorts.Values values list = refl
bare_shown sorts.Node values list = ap first_tree (none_shown list)
bare_shown sorts.Nodes values list = ap as_array (none_shown list)

pub own_is : (sort : Sort) (values : List Tree) (counts : List (List ℕ)) (at : FieldsOf) (list : List ℕ) → leads_to_nodes sort ≡ false → edge_shown sort values counts at list ≡ own_shown sort values
own_is sorts.Nothing values counts at list e = refl
own_is sorts.Values values counts at list e = refl
own_is sorts.Node values counts at list e = absurd (true≢false e)
own_is sorts.Nodes values counts at list e = absurd (true≢false e)

nodes_are : (sort : Sort) (values : List Tree) (counts : List (List ℕ)) (at : FieldsOf) (list : List ℕ) → leads_to_nodes sort ≡ true → edge_shown sort values counts at list ≡ edge_shown (sort_below (is_single sort)) [] counts at list
nodes_are sorts.Nothing values counts at list e = absurd (true≢false (sym e))
nodes_are sorts.Values values counts at list e = absurd (true≢false (sym e))
nodes_are sorts.Node values counts at list e = refl
nodes_are sorts.Nodes values counts at list e = refl

module _ (schema : List PredDef) (graph : List Triple) (vars : List Variable) (e : QEdge) (args : List QArg) (cascade : Bool) where
  -- without braces only values are shown
  pub bare_is : (k : Item-F Item Kept) (n : ℕ) → kept_trees schema graph vars e args [] cascade k n ≡ bare_trees schema graph e k n
  bare_is Item-F.Plain n = refl
  bare_is (Item-F.Val place) n = refl
  bare_is (Item-F.Edge orders filters inner) n =
      bare_shown (sort_of (definition_of schema e.pred) e.back) (shown (definition_of schema e.pred) (objects graph e.pred n)) (left_of schema graph vars e args orders filters [] inner (is_single (sort_of (definition_of schema e.pred) e.back)) cascade n)

  module _ (braces : List QField) (k : Item) (orders : List OrderKey) (filters : List Filter) (inner : List Kept) (is : k ≡ kept.Edge orders filters inner) where
    abbrev left_here : ℕ → List ℕ
    left_here = left_of schema graph vars e args orders filters braces inner (is_single (sort_of (definition_of schema e.pred) e.back)) cascade

    layer : out-Item k ≡ Item-F.Edge orders filters inner
    layer = ap out-Item is ∙ kept.outs-Edge orders filters inner

    -- the keys under which numbers are asked for stand in the text
    counted : (n : ℕ) → kept_trees schema graph vars e args braces cascade (out-Item k) n
        ≡ edge_shown (sort_of (definition_of schema e.pred) e.back) (shown (definition_of schema e.pred) (objects graph e.pred n)) (all_count_keys braces) (planned_at schema graph vars cascade braces inner) (left_here n)
    counted n =
        (λ i. kept_trees schema graph vars e args braces cascade (layer i) n)
        ∙ ap (λ counts. edge_shown (sort_of (definition_of schema e.pred) e.back) (shown (definition_of schema e.pred) (objects graph e.pred n)) counts (planned_at schema graph vars cascade braces inner) (left_here n)) (all_counts schema graph vars braces)

    -- an edge to values
    pub own_trees : (n : ℕ) → leads_to_nodes (sort_of (definition_of schema e.pred) e.back) ≡ false
        → kept_trees schema graph vars e args braces cascade (out-Item k) n ≡ own_shown (sort_of (definition_of schema e.pred) e.back) (shown (definition_of schema e.pred) (objects graph e.pred n))
    own_trees n none =
        counted n
        ∙ own_is (sort_of (definition_of schema e.pred) e.back) (shown (definition_of schema e.pred) (objects graph e.pred n)) (all_count_keys braces) (planned_at schema graph vars cascade braces inner) (left_here n) none

    -- an edge to nodes
    pub nodes_trees : (n : ℕ) → leads_to_nodes (sort_of (definition_of schema e.pred) e.back) ≡ true
        → kept_trees schema graph vars e args braces cascade (out-Item k) n ≡ below_trees schema graph vars e args orders filters braces inner (is_single (sort_of (definition_of schema e.pred) e.back)) cascade n
    nodes_trees n some =
        counted n
        ∙ nodes_are (sort_of (definition_of schema e.pred) e.back) (shown (definition_of schema e.pred) (objects graph e.pred n)) (all_count_keys braces) (planned_at schema graph vars cascade braces inner) (left_here n) some
