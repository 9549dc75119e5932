-- What the nodes of a level show under each field, by the text together with what a plan keeps of it.
use Rattle.std.specs.Prelude.{ℕ, Bool, true, false, List, [], ◌∷◌, map, sum_by}
use Rattle.dg_schema.specs.declared.definition.PredDef.{PredDef}
use Rattle.dg_schema.specs.Definitions.{definition_of}
use Rattle.dg_graph.specs.declared.change.Triple.{Triple}
use Rattle.dg_graph.specs.Graphs.{objects}
use Rattle.dg_parse.specs.declared.query.QArg.{QArg}
use Rattle.dg_parse.specs.declared.query.QEdge.{QEdge}
use Rattle.dg_parse.specs.declared.query.QField.{QField}
use Rattle.dg_parse.specs.declared.query.QItem.{QItem}
use Rattle.dg_parse.specs.declared.query.QItem.TheFolds.{fold-QItem}
use Rattle.dg_check.specs.declared.parts.Field.{Field as Kept}
use Rattle.dg_check.specs.declared.parts.Filter.{Filter}
use Rattle.dg_check.specs.declared.parts.Item.{Item}
use Rattle.dg_check.specs.declared.parts.Item.TheOpen.{Item-F}
use Rattle.dg_check.specs.declared.parts.OrderKey.{OrderKey}
use Rattle.dg_check.specs.declared.vars.Variable.{Variable}
use Rattle.dg_tree.specs.declared.tree.Tree.{Tree}
use Rattle.dg_level.specs.declared.sorts.Sort.{Sort}
use Rattle.dg_level.specs.declared.sorts.Sort.TheVariants as sorts
use Rattle.dg_level.specs.Answers.{shown}
use Rattle.dg_level.specs.Shown.{sort_of, edge_shown, remaining}
use Rattle.dg_level.specs.Planned.{cut_to, planned_list, edge_kept, edge_kept_there, PlannedItem, PlannedField, step_of_item, step_of_field, planned_field, planned_there, planned_at}
use Rattle.dg_level.specs.Keys.{all_count_keys}
use Rattle.dg_level.specs.Columns.{FieldsOf, TreesOf, sort_below, bytes_of}

-- an item of the text
abbrev pub planned_item : List PredDef → List Triple → List Variable → QItem → PlannedItem
planned_item schema graph vars = fold-QItem PlannedItem PlannedField (step_of_item schema graph vars) step_of_field

-- the trees that an item shows, where a cascade goes on from above or doesn't
abbrev pub trees_of : List PredDef → List Triple → List Variable → Bool → QItem → Item → TreesOf
trees_of schema graph vars cascade q k = (planned_item schema graph vars q).at cascade k

-- those of fields, each with what is kept of it
abbrev pub all_trees : List PredDef → List Triple → List Variable → Bool → List QField → List Kept → List TreesOf
all_trees schema graph vars cascade [] kept = []
all_trees schema graph vars cascade (q ∷ fields) [] = []
all_trees schema graph vars cascade (q ∷ fields) (k ∷ kept) = trees_of schema graph vars cascade q.item k.item ∷ all_trees schema graph vars cascade fields kept

-- what fields show, each with what is kept of it
abbrev pub all_fields : List PredDef → List Triple → List Variable → Bool → List QField → List Kept → List FieldsOf
all_fields schema graph vars cascade [] kept = []
all_fields schema graph vars cascade (q ∷ fields) [] = []
all_fields schema graph vars cascade (q ∷ fields) (k ∷ kept) = (planned_field schema graph vars q).at cascade k ∷ all_fields schema graph vars cascade fields kept

-- the list of each node under an edge, of a single edge one node at most
abbrev pub list_of : List Triple → List Variable → QEdge → List QArg → List OrderKey → List Filter → Bool → ℕ → List ℕ
list_of graph vars e args orders filters single node = cut_to single (planned_list graph vars e args orders filters node)

-- the nodes of it that remain
abbrev pub left_of : List PredDef → List Triple → List Variable → QEdge → List QArg → List OrderKey → List Filter → List QField → List Kept → Bool → Bool → ℕ → List ℕ
left_of schema graph vars e args orders filters braces inner single cascade node =
    remaining cascade (planned_there schema graph vars braces inner) (list_of graph vars e args orders filters single node)

-- the trees that an edge to nodes shows
abbrev pub below_trees : List PredDef → List Triple → List Variable → QEdge → List QArg → List OrderKey → List Filter → List QField → List Kept → Bool → Bool → TreesOf
below_trees schema graph vars e args orders filters braces inner single cascade node =
    edge_shown (sort_below single) [] (all_count_keys braces) (planned_at schema graph vars cascade braces inner) (left_of schema graph vars e args orders filters braces inner single cascade node)

-- whether an edge leads to nodes
abbrev pub leads_to_nodes : Sort → Bool
leads_to_nodes sorts.Nothing = false
leads_to_nodes sorts.Values = false
leads_to_nodes sorts.Node = true
leads_to_nodes sorts.Nodes = true

-- values, where an edge leads to values
abbrev pub own_shown : Sort → List Tree → List Tree
own_shown sorts.Nothing values = []
own_shown sorts.Values values = values
own_shown sorts.Node values = []
own_shown sorts.Nodes values = []

-- the trees that an edge without braces shows, where it is kept as one
abbrev pub bare_trees : {A : Type 0} → List PredDef → List Triple → QEdge → Item-F A Kept → TreesOf
bare_trees schema graph e Item-F.Plain node = []
bare_trees schema graph e (Item-F.Val place) node = []
bare_trees schema graph e (Item-F.Edge orders filters inner) node = own_shown (sort_of (definition_of schema e.pred) e.back) (shown (definition_of schema e.pred) (objects graph e.pred node))

-- the trees that an edge shows, by what is kept of it
abbrev pub kept_trees : List PredDef → List Triple → List Variable → QEdge → List QArg → List QField → Bool → Item-F Item Kept → TreesOf
kept_trees schema graph vars e args braces cascade kept node = edge_kept schema graph vars e args (map (planned_field schema graph vars) braces) cascade node (sort_of (definition_of schema e.pred) e.back) kept

-- whether an edge isn't missing at a node, by what is kept of it
abbrev pub kept_there : List PredDef → List Triple → List Variable → QEdge → List QArg → List QField → Item-F Item Kept → ℕ → Bool
kept_there schema graph vars e args braces kept node = edge_kept_there schema graph vars e args (map (planned_field schema graph vars) braces) node (sort_of (definition_of schema e.pred) e.back) kept

-- how many bytes all these trees have that nodes show
abbrev pub all_bytes : List TreesOf → List ℕ → ℕ
all_bytes all nodes = sum_by (λ shown. bytes_of shown nodes) all
