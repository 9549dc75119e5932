-- What the variables that a block defines stand for, by the text together with what a plan keeps of it.
use Rattle.std.specs.Prelude.{ℕ, pos, List, [], ◌∷◌, ◌++◌, Option, Some, None, map, fold, replicate, slice_get}
use Rattle.std.specs.Ordering.{nat_cmp}
use Rattle.dg_values.specs.Ascending.{ascending}
use Rattle.dg_values.specs.declared.value.Value.TheVariants as values
use Rattle.dg_schema.specs.declared.definition.PredDef.{PredDef}
use Rattle.dg_schema.specs.Definitions.{definition_of}
use Rattle.dg_graph.specs.declared.change.Triple.{Triple}
use Rattle.dg_parse.specs.declared.query.QArg.{QArg}
use Rattle.dg_parse.specs.declared.query.QBlock.{QBlock}
use Rattle.dg_parse.specs.declared.query.QEdge.{QEdge}
use Rattle.dg_parse.specs.declared.query.QField.{QField}
use Rattle.dg_parse.specs.declared.query.QItem.TheOpen.{QItem-F, QField-F}
use Rattle.dg_parse.specs.declared.query.QItem.TheFolds.{fold-QField}
use Rattle.dg_check.specs.declared.parts.Field.{Field as Kept}
use Rattle.dg_check.specs.declared.parts.Item.{Item}
use Rattle.dg_check.specs.declared.parts.Item.TheOpen.{Item-F}
use Rattle.dg_check.specs.declared.parts.Item.TheViews.{out-Item}
use Rattle.dg_check.specs.declared.parts.Parts.{Parts}
use Rattle.dg_check.specs.declared.vars.Variable.{Variable}
use Rattle.dg_funcs.specs.Truth.{count_along}
use Rattle.dg_level.specs.declared.sorts.Sort.{Sort}
use Rattle.dg_level.specs.Lists.{least_value}
use Rattle.dg_level.specs.Shown.{sort_of, in_braces}
use Rattle.dg_level.specs.Planned.{list_by}
use Rattle.dg_level.specs.PlannedBlocks.{planned_nodes}
use Rattle.dg_level.specs.Given.{of_nodes, unknown, of_values, edge_has, nodes_in_braces, Known, with_known}

-- what an item has over the nodes of a list, and what the fields in its braces make known, by what is kept of it
pub record PlannedHas : Type 0 where
  pub has : Item → List ℕ → Variable
  pub inside : Item → List ℕ → List Known

-- the same of a field
abbrev pub PlannedGives : Type 0
PlannedGives = Kept → List ℕ → List Known

-- what fields make known, each by what is kept of it
abbrev pub given_by : List PlannedGives → List Kept → List ℕ → List Known
given_by [] kept nodes = []
given_by (f ∷ fields) [] nodes = []
given_by (f ∷ fields) (k ∷ kept) nodes = f k nodes ++ given_by fields kept nodes

-- what an edge has
abbrev pub edge_kept_has : {A : Type 0} → List Triple → List Variable → QEdge → List QArg → Sort → Item-F A Kept → List ℕ → Variable
edge_kept_has graph vars e args sort Item-F.Plain nodes = unknown
edge_kept_has graph vars e args sort (Item-F.Val place) nodes = unknown
edge_kept_has graph vars e args sort (Item-F.Edge orders filters inner) nodes = edge_has sort (least_value graph e.pred) (list_by graph vars e args sort orders filters) nodes

-- what the fields in its braces make known
abbrev pub edge_kept_inside : {A : Type 0} → List Triple → List Variable → QEdge → List QArg → List PlannedGives → Sort → Item-F A Kept → List ℕ → List Known
edge_kept_inside graph vars e args braces sort Item-F.Plain nodes = []
edge_kept_inside graph vars e args braces sort (Item-F.Val place) nodes = []
edge_kept_inside graph vars e args braces sort (Item-F.Edge orders filters inner) nodes = given_by braces inner (nodes_in_braces sort (list_by graph vars e args sort orders filters) nodes)

-- what an item has
abbrev pub planned_has : List PredDef → List Triple → List Variable → QItem-F PlannedHas PlannedGives → Item → List ℕ → Variable
planned_has schema graph vars QItem-F.Uid kept nodes = of_nodes nodes
planned_has schema graph vars QItem-F.CountUid kept nodes = unknown
planned_has schema graph vars (QItem-F.Count e) kept nodes = of_values (λ n. Some (values.Int (pos (count_along graph e n)))) nodes
planned_has schema graph vars (QItem-F.Val x) kept nodes = unknown
planned_has schema graph vars (QItem-F.Agg op x) kept nodes = unknown
planned_has schema graph vars (QItem-F.Edge e args dirs braces) kept nodes = edge_kept_has graph vars e args (sort_of (definition_of schema e.pred) e.back) (out-Item kept) nodes

-- what the fields in its braces make known
abbrev pub planned_inside : List PredDef → List Triple → List Variable → QItem-F PlannedHas PlannedGives → Item → List ℕ → List Known
planned_inside schema graph vars QItem-F.Uid kept nodes = []
planned_inside schema graph vars QItem-F.CountUid kept nodes = []
planned_inside schema graph vars (QItem-F.Count e) kept nodes = []
planned_inside schema graph vars (QItem-F.Val x) kept nodes = []
planned_inside schema graph vars (QItem-F.Agg op x) kept nodes = []
planned_inside schema graph vars (QItem-F.Edge e args dirs braces) kept nodes = edge_kept_inside graph vars e args (in_braces braces) (sort_of (definition_of schema e.pred) e.back) (out-Item kept) nodes

-- an item, by what stands in its braces
abbrev pub step_of_item : List PredDef → List Triple → List Variable → QItem-F PlannedHas PlannedGives → PlannedHas
step_of_item schema graph vars item = record { has = planned_has schema graph vars item; inside = planned_inside schema graph vars item }

-- the variable at this place, if there is one, stands for this
abbrev pub at_place : Option ℕ → Variable → List Known
at_place None variable = []
at_place (Some place) variable = (place, variable) ∷ []

-- a field, by its item
abbrev pub step_of_field : QField-F PlannedHas PlannedGives → PlannedGives
step_of_field f kept nodes = at_place kept.var (f.item.has kept.item nodes) ++ f.item.inside kept.item nodes

-- a field of the text
abbrev pub planned_given : List PredDef → List Triple → List Variable → QField → PlannedGives
planned_given schema graph vars = fold-QField PlannedHas PlannedGives (step_of_item schema graph vars) step_of_field

-- what fields make known over the nodes of a list
abbrev pub planned_fields : List PredDef → List Triple → List Variable → List QField → List Kept → List ℕ → List Known
planned_fields schema graph vars fields kept nodes = given_by (map (planned_given schema graph vars) fields) kept nodes

-- what a block makes known over the nodes of its list, which ascend
abbrev pub planned_over : List PredDef → List Triple → List Variable → QBlock → Parts → List ℕ → List Known
planned_over schema graph vars block kept nodes = at_place kept.var (of_nodes nodes) ++ planned_fields schema graph vars block.fields kept.fields nodes

-- what a block makes known
abbrev pub planned_gives : List PredDef → List Triple → List Variable → QBlock → Parts → List Known
planned_gives schema graph vars block kept = planned_over schema graph vars block kept (ascending nat_cmp (planned_nodes graph vars block.args kept))

-- the variables once a block has run, if there is one
abbrev pub run_planned : List PredDef → List Triple → List Variable → Option QBlock → Option Parts → List Variable
run_planned schema graph vars None kept = vars
run_planned schema graph vars (Some block) None = vars
run_planned schema graph vars (Some block) (Some kept) = fold with_known vars (planned_gives schema graph vars block kept)

-- the variables once the block at a place has run
abbrev pub planned_at_place : List PredDef → List Triple → List QBlock → List Parts → List Variable → ℕ → List Variable
planned_at_place schema graph blocks kept vars at = run_planned schema graph vars (slice_get blocks at) (slice_get kept at)

-- so many variables, once blocks have run in this order
abbrev pub planned_in_order : List PredDef → List Triple → ℕ → List QBlock → List Parts → List ℕ → List Variable
planned_in_order schema graph count blocks kept order = fold (planned_at_place schema graph blocks kept) (replicate count unknown) order
