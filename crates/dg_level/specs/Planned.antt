-- What fields show at a node, by the text together with what a plan keeps of them.
use Rattle.std.specs.Prelude.{ℕ, pos, Bool, true, false, ◌&&◌, if◌then◌else◌, List, [], ◌∷◌, ◌++◌, Option, None, is_some, option_to_list, map, flat_map, filter, take, unwrap_or}
use Rattle.std.specs.List.{list_all}
use Rattle.std.specs.Ordering.{nat_cmp}
use Rattle.dg_values.specs.declared.value.Value.{Value}
use Rattle.dg_values.specs.Ascending.{ascending}
use Rattle.dg_text.specs.Spelling.{uid_text}
use Rattle.dg_schema.specs.declared.definition.PredDef.{PredDef}
use Rattle.dg_schema.specs.Definitions.{definition_of}
use Rattle.dg_graph.specs.declared.change.Triple.{Triple}
use Rattle.dg_graph.specs.Graphs.{objects}
use Rattle.dg_parse.specs.declared.query.QArg.{QArg}
use Rattle.dg_parse.specs.declared.query.QEdge.{QEdge}
use Rattle.dg_parse.specs.declared.query.QField.{QField}
use Rattle.dg_parse.specs.declared.query.QItem.TheOpen.{QItem-F, QField-F}
use Rattle.dg_parse.specs.declared.query.QItem.TheFolds.{fold-QField}
use Rattle.dg_parse.specs.Keys.{shown_key}
use Rattle.dg_check.specs.declared.parts.By.{By}
use Rattle.dg_check.specs.declared.parts.By.TheVariants as by
use Rattle.dg_check.specs.declared.parts.Field.{Field as Kept}
use Rattle.dg_check.specs.declared.parts.Filter.{Filter}
use Rattle.dg_check.specs.declared.parts.Item.{Item}
use Rattle.dg_check.specs.declared.parts.Item.TheOpen.{Item-F}
use Rattle.dg_check.specs.declared.parts.Item.TheViews.{out-Item}
use Rattle.dg_check.specs.declared.parts.OrderKey.{OrderKey}
use Rattle.dg_check.specs.declared.parts.OrderKey.TheVariants as keys
use Rattle.dg_check.specs.declared.vars.Variable.{Variable}
use Rattle.dg_check.specs.Vars.{value_at}
use Rattle.dg_funcs.specs.Truth.{nodes_along, count_along, passes}
use Rattle.dg_shape.specs.Normalize.{has_pair}
use Rattle.dg_shape.specs.Orders.{ordered, page}
use Rattle.dg_tree.specs.declared.tree.Tree.{Tree}
use Rattle.dg_tree.specs.declared.tree.Tree.TheVariants as trees
use Rattle.dg_tree.specs.declared.tree.Field.{Field}
use Rattle.dg_level.specs.declared.sorts.Sort.{Sort}
use Rattle.dg_level.specs.declared.sorts.Sort.TheVariants as sorts
use Rattle.dg_level.specs.Answers.{value_tree, shown}
use Rattle.dg_level.specs.Lists.{least_value}
use Rattle.dg_level.specs.Shown.{sort_of, under, edge_shown, cascades, remaining, edge_there, edge_flats, behind, in_braces, is_count}

-- ---- lists

-- the value by which a key puts a node in its place
abbrev pub value_by : List Triple → List Variable → By → ℕ → Option Value
value_by graph vars (by.Pred p) node = least_value graph p node
value_by graph vars (by.Val place) node = value_at vars place node

-- a key: whether the greatest value comes first, and the values
abbrev pub planned_key : List Triple → List Variable → OrderKey → Bool × (ℕ → Option Value)
planned_key graph vars (keys.Asc key) = (false, value_by graph vars key)
planned_key graph vars (keys.Desc key) = (true, value_by graph vars key)

-- keys, in their order
abbrev pub planned_keys : List Triple → List Variable → List OrderKey → List (Bool × (ℕ → Option Value))
planned_keys graph vars orders = map (planned_key graph vars) orders

-- the nodes of these at which each filter passes
abbrev pub passed_each : List Triple → List Variable → List Filter → List ℕ → List ℕ
passed_each graph vars filters nodes = filter (λ n. list_all (passes graph vars n) filters) nodes

-- the list of a node under an edge
abbrev pub planned_list : List Triple → List Variable → QEdge → List QArg → List OrderKey → List Filter → ℕ → List ℕ
planned_list graph vars edge args orders filters node =
    page args (ordered (planned_keys graph vars orders) (passed_each graph vars filters (ascending nat_cmp (nodes_along graph edge node))))

-- whether it is one node at most
abbrev pub is_single : Sort → Bool
is_single sorts.Nothing = false
is_single sorts.Values = false
is_single sorts.Node = true
is_single sorts.Nodes = false

-- a list, of which a single edge leads to one node at most
abbrev pub cut_to : Bool → List ℕ → List ℕ
cut_to single nodes = if single then take 1 nodes else nodes

-- ---- fields

-- what an item is: its own key; whether it is `count(uid)`; and, by what is kept of it, whether it isn't missing at a node, what
-- it shows there, and the flat objects of its nodes
pub record PlannedItem : Type 0 where
  pub key : List ℕ
  pub counts : Bool
  pub there : Item → ℕ → Bool
  pub at : Bool → Item → ℕ → List Tree
  pub flats : Bool → Item → ℕ → Option (List (List Field))

-- what a field is: the keys under which it asks for the number of nodes of its list, and the same of it
pub record PlannedField : Type 0 where
  pub counts : List (List ℕ)
  pub there : Kept → ℕ → Bool
  pub at : Bool → Kept → ℕ → List Field
  pub after : Bool → Kept → ℕ → List (List Field) → List (List Field)

-- the keys under which fields ask for the number of nodes
abbrev pub planned_counts : List PlannedField → List (List ℕ)
planned_counts fields = flat_map (λ f. f.counts) fields

-- none of the fields is missing at a node, each by what is kept of it
abbrev pub there_by : List PlannedField → List Kept → ℕ → Bool
there_by [] kept node = true
there_by (f ∷ fields) [] node = true
there_by (f ∷ fields) (k ∷ kept) node = f.there k node && there_by fields kept node

-- what they show at a node
abbrev pub all_by : List PlannedField → Bool → List Kept → ℕ → List Field
all_by [] cascade kept node = []
all_by (f ∷ fields) cascade [] node = []
all_by (f ∷ fields) cascade (k ∷ kept) node = f.at cascade k node ++ all_by fields cascade kept node

-- the flat objects behind them
abbrev pub after_by : List PlannedField → Bool → List Kept → ℕ → List (List Field) → List (List Field)
after_by [] cascade kept node objects = objects
after_by (f ∷ fields) cascade [] node objects = objects
after_by (f ∷ fields) cascade (k ∷ kept) node objects = after_by fields cascade kept node (f.after cascade k node objects)

-- the flat objects of a node
abbrev pub flats_by : List PlannedField → Bool → List Kept → ℕ → List (List Field)
flats_by fields cascade kept node = filter has_pair (after_by fields cascade kept node ([] ∷ []))

-- a value that is kept by its variable's place
abbrev pub value_kept : {A B : Type 0} → List Variable → ℕ → Item-F A B → List Tree
value_kept vars node Item-F.Plain = []
value_kept vars node (Item-F.Val place) = map value_tree (option_to_list (value_at vars place node))
value_kept vars node (Item-F.Edge orders filters inner) = []

-- whether a node has it
abbrev pub value_there : {A B : Type 0} → List Variable → ℕ → Item-F A B → Bool
value_there vars node Item-F.Plain = false
value_there vars node (Item-F.Val place) = is_some (value_at vars place node)
value_there vars node (Item-F.Edge orders filters inner) = false

-- the list of a node under an edge, of a single edge one node at most
abbrev pub list_by : List Triple → List Variable → QEdge → List QArg → Sort → List OrderKey → List Filter → ℕ → List ℕ
list_by graph vars e args sort orders filters node = cut_to (is_single sort) (planned_list graph vars e args orders filters node)

-- an edge isn't missing at a node, by what stands in its braces and what is kept of it
abbrev pub edge_kept_there : {A : Type 0} → List PredDef → List Triple → List Variable → QEdge → List QArg → List PlannedField → ℕ → Sort → Item-F A Kept → Bool
edge_kept_there schema graph vars e args inside node sort Item-F.Plain = false
edge_kept_there schema graph vars e args inside node sort (Item-F.Val place) = false
edge_kept_there schema graph vars e args inside node sort (Item-F.Edge orders filters inner) =
    edge_there sort (shown (definition_of schema e.pred) (objects graph e.pred node)) (there_by inside inner) (list_by graph vars e args sort orders filters node)

-- what an edge shows at a node, where a cascade drops nodes of its list or doesn't
abbrev pub edge_kept : {A : Type 0} → List PredDef → List Triple → List Variable → QEdge → List QArg → List PlannedField → Bool → ℕ → Sort → Item-F A Kept → List Tree
edge_kept schema graph vars e args inside cascade node sort Item-F.Plain = []
edge_kept schema graph vars e args inside cascade node sort (Item-F.Val place) = []
edge_kept schema graph vars e args inside cascade node sort (Item-F.Edge orders filters inner) =
    edge_shown sort (shown (definition_of schema e.pred) (objects graph e.pred node)) (planned_counts inside) (all_by inside cascade inner) (remaining cascade (there_by inside inner) (list_by graph vars e args sort orders filters node))

-- the flat objects of its nodes
abbrev pub edge_kept_flats : {A : Type 0} → List Triple → List Variable → QEdge → List QArg → List PlannedField → Bool → ℕ → Sort → Item-F A Kept → Option (List (List Field))
edge_kept_flats graph vars e args inside cascade node sort Item-F.Plain = None
edge_kept_flats graph vars e args inside cascade node sort (Item-F.Val place) = None
edge_kept_flats graph vars e args inside cascade node sort (Item-F.Edge orders filters inner) =
    edge_flats sort (flats_by inside cascade inner) (remaining cascade (there_by inside inner) (list_by graph vars e args sort orders filters node))

-- an item isn't missing at a node
abbrev pub item_there : List PredDef → List Triple → List Variable → QItem-F PlannedItem PlannedField → Item → ℕ → Bool
item_there schema graph vars QItem-F.Uid kept node = true
item_there schema graph vars QItem-F.CountUid kept node = true
item_there schema graph vars (QItem-F.Count e) kept node = true
item_there schema graph vars (QItem-F.Val x) kept node = value_there vars node (out-Item kept)
item_there schema graph vars (QItem-F.Agg op x) kept node = true
item_there schema graph vars (QItem-F.Edge e args dirs braces) kept node = edge_kept_there schema graph vars e args (in_braces braces) node (sort_of (definition_of schema e.pred) e.back) (out-Item kept)

-- what it shows there
abbrev pub trees_by : List PredDef → List Triple → List Variable → QItem-F PlannedItem PlannedField → Bool → Item → ℕ → List Tree
trees_by schema graph vars QItem-F.Uid cascade kept node = trees.Text (uid_text node) ∷ []
trees_by schema graph vars QItem-F.CountUid cascade kept node = []
trees_by schema graph vars (QItem-F.Count e) cascade kept node = trees.Int (pos (count_along graph e node)) ∷ []
trees_by schema graph vars (QItem-F.Val x) cascade kept node = value_kept vars node (out-Item kept)
trees_by schema graph vars (QItem-F.Agg op x) cascade kept node = []
trees_by schema graph vars (QItem-F.Edge e args dirs braces) cascade kept node =
    edge_kept schema graph vars e args (in_braces braces) (cascades cascade dirs) node (sort_of (definition_of schema e.pred) e.back) (out-Item kept)

-- the flat objects of its nodes
abbrev pub item_flats : List PredDef → List Triple → List Variable → QItem-F PlannedItem PlannedField → Bool → Item → ℕ → Option (List (List Field))
item_flats schema graph vars QItem-F.Uid cascade kept node = None
item_flats schema graph vars QItem-F.CountUid cascade kept node = None
item_flats schema graph vars (QItem-F.Count e) cascade kept node = None
item_flats schema graph vars (QItem-F.Val x) cascade kept node = None
item_flats schema graph vars (QItem-F.Agg op x) cascade kept node = None
item_flats schema graph vars (QItem-F.Edge e args dirs braces) cascade kept node =
    edge_kept_flats graph vars e args (in_braces braces) (cascades cascade dirs) node (sort_of (definition_of schema e.pred) e.back) (out-Item kept)

-- an item, by what stands in its braces
abbrev pub step_of_item : List PredDef → List Triple → List Variable → QItem-F PlannedItem PlannedField → PlannedItem
step_of_item schema graph vars item = record {
  key = shown_key item;
  counts = is_count item;
  there = item_there schema graph vars item;
  at = trees_by schema graph vars item;
  flats = item_flats schema graph vars item;
}

-- a field, by its item
abbrev pub step_of_field : QField-F PlannedItem PlannedField → PlannedField
step_of_field f = record {
  counts = if f.item.counts then unwrap_or f.alias f.item.key ∷ [] else [];
  there = λ kept node. f.item.there kept.item node;
  at = λ cascade kept node. map (under (unwrap_or f.alias f.item.key)) (f.item.at cascade kept.item node);
  after = λ cascade kept node objects. behind (is_some f.alias) (map (under (unwrap_or f.alias f.item.key)) (f.item.at cascade kept.item node)) (f.item.flats cascade kept.item node) objects;
}

-- a field of the text
abbrev pub planned_field : List PredDef → List Triple → List Variable → QField → PlannedField
planned_field schema graph vars = fold-QField PlannedItem PlannedField (step_of_item schema graph vars) step_of_field

-- none of the fields is missing at a node
abbrev pub planned_there : List PredDef → List Triple → List Variable → List QField → List Kept → ℕ → Bool
planned_there schema graph vars fields kept node = there_by (map (planned_field schema graph vars) fields) kept node

-- what fields show at a node
abbrev pub planned_at : List PredDef → List Triple → List Variable → Bool → List QField → List Kept → ℕ → List Field
planned_at schema graph vars cascade fields kept node = all_by (map (planned_field schema graph vars) fields) cascade kept node

-- the flat objects of a node
abbrev pub planned_flats : List PredDef → List Triple → List Variable → Bool → List QField → List Kept → ℕ → List (List Field)
planned_flats schema graph vars cascade fields kept node = flats_by (map (planned_field schema graph vars) fields) cascade kept node
