-- What the nodes of a level become as flat objects, by the text together with what a plan keeps of it.
use Rattle.std.specs.Prelude.{ℕ, zero, suc, pos, Bool, List, [], ◌∷◌, Option, Some, None, map, flat_map, sum_by}
use Rattle.dg_text.specs.Spelling.{uid_text}
use Rattle.dg_schema.specs.declared.definition.PredDef.{PredDef}
use Rattle.dg_schema.specs.Definitions.{definition_of}
use Rattle.dg_graph.specs.declared.change.Triple.{Triple}
use Rattle.dg_parse.specs.declared.query.QArg.{QArg}
use Rattle.dg_parse.specs.declared.query.QEdge.{QEdge}
use Rattle.dg_parse.specs.declared.query.QField.{QField}
use Rattle.dg_parse.specs.declared.query.QItem.{QItem}
use Rattle.dg_parse.specs.declared.query.QItem.TheOpen.{QItem-F}
use Rattle.dg_check.specs.declared.parts.Field.{Field as Kept}
use Rattle.dg_check.specs.declared.parts.Filter.{Filter}
use Rattle.dg_check.specs.declared.parts.Item.{Item}
use Rattle.dg_check.specs.declared.parts.Item.TheOpen.{Item-F}
use Rattle.dg_check.specs.declared.parts.OrderKey.{OrderKey}
use Rattle.dg_check.specs.declared.vars.Variable.{Variable}
use Rattle.dg_funcs.specs.Truth.{count_along}
use Rattle.dg_shape.specs.Normalize.{joined, times}
use Rattle.dg_tree.specs.declared.tree.Tree.{Tree}
use Rattle.dg_tree.specs.declared.tree.Tree.TheVariants as trees
use Rattle.dg_tree.specs.declared.tree.Field.{Field}
use Rattle.dg_level.specs.declared.sorts.Sort.{Sort}
use Rattle.dg_level.specs.declared.sorts.Sort.TheVariants as sorts
use Rattle.dg_level.specs.Shown.{sort_of, under, cascades}
use Rattle.dg_level.specs.Planned.{value_kept, planned_field, after_by, planned_flats}
use Rattle.dg_level.specs.Columns.{TreesOf}
use Rattle.dg_level.specs.Levels.{left_of, bare_trees}
use Rattle.dg_level.specs.Flats.{weight_in}

-- the flat objects of each node
abbrev pub FlatsOf : Type 0
FlatsOf = ℕ → List (List Field)

-- how many bytes those of nodes take at least
abbrev pub weight_of : FlatsOf → List ℕ → ℕ
weight_of flats nodes = sum_by (λ n. weight_in (flats n)) nodes

-- what nodes have, of which the first so many are changed already, and the others not yet
abbrev pub changed : {X : Type 0} → (ℕ → X) → (ℕ → X) → ℕ → List ℕ → List X
changed after before zero nodes = map before nodes
changed after before (suc i) [] = []
changed after before (suc i) (node ∷ nodes) = after node ∷ changed after before i nodes

-- what an item shows by itself: of an edge only values, where it is kept as one
abbrev pub own_trees : List PredDef → List Triple → List Variable → QItem-F QItem QField → Item-F Item Kept → TreesOf
own_trees schema graph vars QItem-F.Uid kept node = trees.Text (uid_text node) ∷ []
own_trees schema graph vars QItem-F.CountUid kept node = []
own_trees schema graph vars (QItem-F.Count e) kept node = trees.Int (pos (count_along graph e node)) ∷ []
own_trees schema graph vars (QItem-F.Val x) kept node = value_kept vars node kept
own_trees schema graph vars (QItem-F.Agg op x) kept node = []
own_trees schema graph vars (QItem-F.Edge e args dirs braces) kept node = bare_trees schema graph e kept node

-- objects, each with trees under a key
abbrev pub with_trees : List ℕ → List Tree → List (List Field) → List (List Field)
with_trees key shown objects = map (λ object. joined object (map (under key) shown)) objects

-- so under an alias; under none they aren't shown
abbrev pub with_own : Option (List ℕ) → List Tree → List (List Field) → List (List Field)
with_own None shown objects = objects
with_own (Some key) shown objects = with_trees key shown objects

-- what an item with braces leads to
abbrev pub sort_in : List PredDef → QItem-F QItem QField → Sort
sort_in schema QItem-F.Uid = sorts.Nothing
sort_in schema QItem-F.CountUid = sorts.Nothing
sort_in schema (QItem-F.Count e) = sorts.Nothing
sort_in schema (QItem-F.Val x) = sorts.Nothing
sort_in schema (QItem-F.Agg op x) = sorts.Nothing
sort_in schema (QItem-F.Edge e args dirs None) = sorts.Nothing
sort_in schema (QItem-F.Edge e args dirs (Some braces)) = sort_of (definition_of schema e.pred) e.back

-- the flat objects of the nodes of a node's list under an edge
abbrev pub list_flats : List PredDef → List Triple → List Variable → QEdge → List QArg → List OrderKey → List Filter → List QField → List Kept → Bool → Bool → FlatsOf
list_flats schema graph vars e args orders filters braces inner single cascade node =
    flat_map (planned_flats schema graph vars cascade braces inner) (left_of schema graph vars e args orders filters braces inner single cascade node)

-- objects behind an edge to nodes, where it is kept as one
abbrev pub behind_edge : List PredDef → List Triple → List Variable → QEdge → List QArg → List QField → Bool → Bool → Item-F Item Kept → ℕ → List (List Field) → List (List Field)
behind_edge schema graph vars e args braces single cascade Item-F.Plain node objects = objects
behind_edge schema graph vars e args braces single cascade (Item-F.Val place) node objects = objects
behind_edge schema graph vars e args braces single cascade (Item-F.Edge orders filters inner) node objects =
    times objects (list_flats schema graph vars e args orders filters braces inner single cascade node)

-- objects behind an item that leads to nodes
abbrev pub behind_item : List PredDef → List Triple → List Variable → Bool → Bool → QItem-F QItem QField → Item-F Item Kept → ℕ → List (List Field) → List (List Field)
behind_item schema graph vars single cascade QItem-F.Uid kept node objects = objects
behind_item schema graph vars single cascade QItem-F.CountUid kept node objects = objects
behind_item schema graph vars single cascade (QItem-F.Count e) kept node objects = objects
behind_item schema graph vars single cascade (QItem-F.Val x) kept node objects = objects
behind_item schema graph vars single cascade (QItem-F.Agg op x) kept node objects = objects
behind_item schema graph vars single cascade (QItem-F.Edge e args dirs None) kept node objects = objects
behind_item schema graph vars single cascade (QItem-F.Edge e args dirs (Some braces)) kept node objects = behind_edge schema graph vars e args braces single (cascades cascade dirs) kept node objects

-- objects behind a field
abbrev pub behind_field : List PredDef → List Triple → List Variable → Bool → QField → Kept → ℕ → List (List Field) → List (List Field)
behind_field schema graph vars cascade q k node objects = (planned_field schema graph vars q).after cascade k node objects

-- the objects of a node behind fields, at first one without a field
abbrev pub behind_fields : List PredDef → List Triple → List Variable → Bool → List QField → List Kept → FlatsOf
behind_fields schema graph vars cascade fields kept node = after_by (map (planned_field schema graph vars) fields) cascade kept node ([] ∷ [])
