-- What the variables that a block defines stand for, by its text.
use Rattle.std.specs.Prelude.{ℕ, pos, List, [], ◌∷◌, ◌++◌, Option, Some, None, is_some, map, flat_map, filter, filter_map, fold, slice_get, slice_set}
use Rattle.std.specs.Ordering.{nat_cmp}
use Rattle.dg_values.specs.Ascending.{ascending}
use Rattle.dg_values.specs.declared.value.Value.{Value}
use Rattle.dg_values.specs.declared.value.Value.TheVariants as values
use Rattle.dg_schema.specs.declared.definition.PredDef.{PredDef}
use Rattle.dg_schema.specs.Definitions.{definition_of}
use Rattle.dg_graph.specs.declared.change.Triple.{Triple}
use Rattle.dg_parse.specs.declared.query.QBlock.{QBlock}
use Rattle.dg_parse.specs.declared.query.QField.{QField}
use Rattle.dg_parse.specs.declared.query.QItem.TheOpen.{QItem-F, QField-F}
use Rattle.dg_parse.specs.declared.query.QItem.TheFolds.{fold-QField}
use Rattle.dg_check.specs.declared.vars.Variable.{Variable}
use Rattle.dg_check.specs.Plans.{place_of}
use Rattle.dg_check.specs.Variables.{Definition}
use Rattle.dg_funcs.specs.Truth.{count_along}
use Rattle.dg_level.specs.declared.sorts.Sort.{Sort}
use Rattle.dg_level.specs.declared.sorts.Sort.TheVariants as sorts
use Rattle.dg_level.specs.Lists.{least_value, children}
use Rattle.dg_level.specs.Shown.{sort_of, in_braces}
use Rattle.dg_level.specs.Blocks.{nodes_of_block}

-- ---- what a variable stands for

-- nodes, without values
abbrev pub of_nodes : List ℕ → Variable
of_nodes nodes = record { nodes = nodes; values = [] }

-- nothing is known of it yet
abbrev pub unknown : Variable
unknown = of_nodes []

-- those of some nodes that have a value, and their values
abbrev pub of_values : (ℕ → Option Value) → List ℕ → Variable
of_values value nodes = record { nodes = filter (λ n. is_some (value n)) nodes; values = filter_map value nodes }

-- all nodes of the lists of some nodes
abbrev pub level_below : (ℕ → List ℕ) → List ℕ → List ℕ
level_below list nodes = ascending nat_cmp (flat_map list nodes)

-- what an edge has over nodes, by what it leads to: the least value of each, or the nodes of all lists
abbrev pub edge_has : Sort → (ℕ → Option Value) → (ℕ → List ℕ) → List ℕ → Variable
edge_has sorts.Nothing value list nodes = unknown
edge_has sorts.Values value list nodes = of_values value nodes
edge_has sorts.Node value list nodes = of_nodes (level_below list nodes)
edge_has sorts.Nodes value list nodes = of_nodes (level_below list nodes)

-- the nodes over which the fields in the braces of an edge are taken: none where it leads to no nodes
abbrev pub nodes_in_braces : Sort → (ℕ → List ℕ) → List ℕ → List ℕ
nodes_in_braces sorts.Nothing list nodes = []
nodes_in_braces sorts.Values list nodes = []
nodes_in_braces sorts.Node list nodes = level_below list nodes
nodes_in_braces sorts.Nodes list nodes = level_below list nodes

-- ---- by the text

-- a variable that is known, at its place
abbrev pub Known : Type 0
Known = ℕ × Variable

-- what an item has over the nodes of a list, and what the fields in its braces make known
pub record GivenItem : Type 0 where
  pub has : List ℕ → Variable
  pub inside : List ℕ → List Known

-- what a field makes known over the nodes of a list
abbrev pub GivenField : Type 0
GivenField = List ℕ → List Known

-- what an item has: `uid` the nodes themselves, a count the number of each, an edge what it leads to. It is taken over all nodes of the
-- list, before a cascade drops any.
abbrev pub has_over : List PredDef → List Triple → List Definition → List Variable → QItem-F GivenItem GivenField → List ℕ → Variable
has_over schema graph ds vars QItem-F.Uid nodes = of_nodes nodes
has_over schema graph ds vars QItem-F.CountUid nodes = unknown
has_over schema graph ds vars (QItem-F.Count e) nodes = of_values (λ n. Some (values.Int (pos (count_along graph e n)))) nodes
has_over schema graph ds vars (QItem-F.Val x) nodes = unknown
has_over schema graph ds vars (QItem-F.Agg op x) nodes = unknown
has_over schema graph ds vars (QItem-F.Edge e args dirs braces) nodes = edge_has (sort_of (definition_of schema e.pred) e.back) (least_value graph e.pred) (children graph ds vars e args dirs) nodes

-- what fields make known, in their order
abbrev pub all_given : List GivenField → GivenField
all_given fields nodes = flat_map (λ f. f nodes) fields

-- what the fields in the braces of an item make known
abbrev pub inside_over : List PredDef → List Triple → List Definition → List Variable → QItem-F GivenItem GivenField → List ℕ → List Known
inside_over schema graph ds vars QItem-F.Uid nodes = []
inside_over schema graph ds vars QItem-F.CountUid nodes = []
inside_over schema graph ds vars (QItem-F.Count e) nodes = []
inside_over schema graph ds vars (QItem-F.Val x) nodes = []
inside_over schema graph ds vars (QItem-F.Agg op x) nodes = []
inside_over schema graph ds vars (QItem-F.Edge e args dirs braces) nodes = all_given (in_braces braces) (nodes_in_braces (sort_of (definition_of schema e.pred) e.back) (children graph ds vars e args dirs) nodes)

-- an item, by what stands in its braces
abbrev pub step_of_item : List PredDef → List Triple → List Definition → List Variable → QItem-F GivenItem GivenField → GivenItem
step_of_item schema graph ds vars item = record { has = has_over schema graph ds vars item; inside = inside_over schema graph ds vars item }

-- the variable of this name, if there is one, stands for this
abbrev pub named_as : List Definition → Option (List ℕ) → Variable → List Known
named_as ds None variable = []
named_as ds (Some x) variable = (place_of ds x, variable) ∷ []

-- a field, by its item: its own variable stands before those in its braces
abbrev pub step_of_field : List Definition → QField-F GivenItem GivenField → GivenField
step_of_field ds f nodes = named_as ds f.var (f.item.has nodes) ++ f.item.inside nodes

-- a field of the text
abbrev pub given_field : List PredDef → List Triple → List Definition → List Variable → QField → GivenField
given_field schema graph ds vars = fold-QField GivenItem GivenField (step_of_item schema graph ds vars) (step_of_field ds)

-- what fields make known over the nodes of a list
abbrev pub fields_give : List PredDef → List Triple → List Definition → List Variable → List QField → List ℕ → List Known
fields_give schema graph ds vars fields nodes = all_given (map (given_field schema graph ds vars) fields) nodes

-- what a block makes known, given the nodes of its list, which ascend
abbrev pub nodes_give : List PredDef → List Triple → List Definition → List Variable → QBlock → List ℕ → List Known
nodes_give schema graph ds vars block nodes = named_as ds block.var (of_nodes nodes) ++ fields_give schema graph ds vars block.fields nodes

-- what a block makes known: its own variable stands for the nodes of its list, whatever order they have there
abbrev pub block_gives : List PredDef → List Triple → List Definition → List Variable → QBlock → List Known
block_gives schema graph ds vars block = nodes_give schema graph ds vars block (ascending nat_cmp (nodes_of_block graph ds vars block))

-- ---- block by block

-- variables, of which one more is known
abbrev pub with_known : List Variable → Known → List Variable
with_known vars known = slice_set vars known.0 known.1

-- the variables once the block at a place has run
abbrev pub run_at : List PredDef → List Triple → List Definition → List QBlock → List Variable → ℕ → List Variable
run_at schema graph ds blocks vars at = elim (slice_get blocks at) [ None ↦ vars | Some block ↦ fold with_known vars (block_gives schema graph ds vars block) ]

-- none is known yet
abbrev pub none_known : List Definition → List Variable
none_known ds = map (λ d. unknown) ds

-- the variables once blocks have run in this order, each with what those before it made known
abbrev pub run_in_order : List PredDef → List Triple → List Definition → List QBlock → List ℕ → List Variable
run_in_order schema graph ds blocks order = fold (run_at schema graph ds blocks) (none_known ds) order
