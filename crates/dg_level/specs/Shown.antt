-- What fields show at a node, by their text.
use Rattle.std.specs.Prelude.{ℕ, pos, Bool, true, false, ◌||◌, if◌then◌else◌, List, [], ◌∷◌, ◌++◌, Option, Some, None, is_some, option_to_list, length, map, filter, flat_map, unwrap_or}
use Rattle.std.specs.List.{list_all, list_any}
use Rattle.dg_values.specs.declared.kind.Kind.{Kind}
use Rattle.dg_values.specs.declared.kind.Kind.TheVariants as kinds
use Rattle.dg_text.specs.Spelling.{uid_text}
use Rattle.dg_schema.specs.declared.definition.PredDef.{PredDef}
use Rattle.dg_schema.specs.Definitions.{definition_of}
use Rattle.dg_graph.specs.declared.change.Triple.{Triple}
use Rattle.dg_graph.specs.Graphs.{objects}
use Rattle.dg_parse.specs.declared.query.QArg.{QArg}
use Rattle.dg_parse.specs.declared.query.QDir.{QDir}
use Rattle.dg_parse.specs.declared.query.QDir.TheVariants as dirs
use Rattle.dg_parse.specs.declared.query.QEdge.{QEdge}
use Rattle.dg_parse.specs.declared.query.QField.{QField}
use Rattle.dg_parse.specs.declared.query.QItem.TheOpen.{QItem-F, QField-F}
use Rattle.dg_parse.specs.declared.query.QItem.TheFolds.{fold-QField}
use Rattle.dg_parse.specs.Keys.{shown_key}
use Rattle.dg_check.specs.declared.vars.Variable.{Variable}
use Rattle.dg_check.specs.Plans.{place_of}
use Rattle.dg_check.specs.Variables.{Definition}
use Rattle.dg_check.specs.Vars.{value_at}
use Rattle.dg_funcs.specs.Truth.{count_along}
use Rattle.dg_shape.specs.Normalize.{joined, times, has_pair}
use Rattle.dg_tree.specs.declared.tree.Tree.{Tree}
use Rattle.dg_tree.specs.declared.tree.Tree.TheVariants as trees
use Rattle.dg_tree.specs.declared.tree.Field.{Field}
use Rattle.dg_level.specs.declared.sorts.Sort.{Sort}
use Rattle.dg_level.specs.declared.sorts.Sort.TheVariants as sorts
use Rattle.dg_level.specs.Answers.{value_tree, shown}
use Rattle.dg_level.specs.Lists.{children}

-- ---- what an edge leads to

-- by a predicate of nodes to one node or to a list of them, by any other to values
abbrev pub sort_of_kind : Kind → Bool → Sort
sort_of_kind kinds.Uid list = if list then sorts.Nodes else sorts.Node
sort_of_kind kind list = sorts.Values

-- backwards to a list of nodes; by a predicate that isn't declared to nothing
abbrev pub sort_of : Option PredDef → Bool → Sort
sort_of None back = sorts.Nothing
sort_of (Some d) true = sorts.Nodes
sort_of (Some d) false = sort_of_kind d.kind d.list

-- ---- trees

-- a tree under a key
abbrev pub under : List ℕ → Tree → Field
under key tree = record { key = key; tree = tree }

-- a node by what is shown of it; it is left out where that is nothing
abbrev pub node_of : List Field → List Tree
node_of [] = []
node_of (field ∷ fields) = trees.Node (field ∷ fields) ∷ []

-- the object of a number under a key
abbrev pub number_under : ℕ → List ℕ → Tree
number_under number key = trees.Node (under key (trees.Int (pos number)) ∷ [])

-- a list of nodes: its number under each of these keys, whether its nodes are shown or not, and then those that show something
abbrev pub list_shown : List (List ℕ) → (ℕ → List Field) → List ℕ → List Tree
list_shown counts fields nodes = map (number_under (length nodes)) counts ++ flat_map (λ n. node_of (fields n)) nodes

-- these as an array, if there are any
abbrev pub as_array : List Tree → List Tree
as_array [] = []
as_array (tree ∷ more) = trees.Array (tree ∷ more) ∷ []

-- the first of these, if there are any
abbrev pub first_tree : List Tree → List Tree
first_tree [] = []
first_tree (tree ∷ more) = tree ∷ []

-- the node of a single edge by itself, or an array where the number of nodes is asked for
abbrev pub as_single : List (List ℕ) → List Tree → List Tree
as_single [] shown = first_tree shown
as_single (key ∷ counts) shown = as_array shown

-- what an edge shows, by what it leads to: values; or a list of nodes, by the keys under which its number is asked for, and by what each node shows
abbrev pub edge_shown : Sort → List Tree → List (List ℕ) → (ℕ → List Field) → List ℕ → List Tree
edge_shown sorts.Nothing values counts fields nodes = []
edge_shown sorts.Values values counts fields nodes = values
edge_shown sorts.Node values counts fields nodes = as_single counts (list_shown counts fields nodes)
edge_shown sorts.Nodes values counts fields nodes = as_array (list_shown counts fields nodes)

-- ---- cascade

-- a directive that drops nodes
abbrev pub is_cascade : QDir → Bool
is_cascade (dirs.Filter f) = false
is_cascade dirs.Cascade = true
is_cascade dirs.Normalize = false
is_cascade (dirs.Recurse options) = false

-- nodes are dropped from a list that has these directives, or stands below one from which they are
abbrev pub cascades : Bool → List QDir → Bool
cascades above list = above || list_any is_cascade list

-- the nodes of a list, of which a cascade leaves those at which nothing is missing
abbrev pub remaining : Bool → (ℕ → Bool) → List ℕ → List ℕ
remaining cascade whole nodes = if cascade then filter whole nodes else nodes

-- there are some
abbrev pub some_trees : List Tree → Bool
some_trees [] = false
some_trees (tree ∷ more) = true

-- an edge isn't missing at a node where it has values, or where a node of its list remains, shown or not
abbrev pub edge_there : Sort → List Tree → (ℕ → Bool) → List ℕ → Bool
edge_there sorts.Nothing values whole nodes = false
edge_there sorts.Values values whole nodes = some_trees values
edge_there sorts.Node values whole nodes = list_any whole nodes
edge_there sorts.Nodes values whole nodes = list_any whole nodes

-- ---- normalize

-- the flat objects of the nodes under an edge, where it leads to nodes
abbrev pub edge_flats : Sort → (ℕ → List (List Field)) → List ℕ → Option (List (List Field))
edge_flats sorts.Nothing flats nodes = None
edge_flats sorts.Values flats nodes = None
edge_flats sorts.Node flats nodes = Some (flat_map flats nodes)
edge_flats sorts.Nodes flats nodes = Some (flat_map flats nodes)

-- the objects behind a field: each with what is shown under an alias, or followed by each of those of its nodes
abbrev pub behind : Bool → List Field → Option (List (List Field)) → List (List Field) → List (List Field)
behind alias shown None objects = if alias then map (λ object. joined object shown) objects else objects
behind alias shown (Some flats) objects = times objects flats

-- ---- by the text

-- what an item is, of which its field makes more: its own key; whether it is `count(uid)`; whether it isn't missing at a node; and,
-- where a cascade goes on from above or doesn't, what it shows there, and the flat objects of its nodes
pub record ShownItem : Type 0 where
  pub key : List ℕ
  pub counts : Bool
  pub there : ℕ → Bool
  pub at : Bool → ℕ → List Tree
  pub flats : Bool → ℕ → Option (List (List Field))

-- what a field is: the keys under which it asks for the number of nodes of its list; whether it isn't missing at a node; what it
-- shows there; and the flat objects behind it
pub record ShownField : Type 0 where
  pub counts : List (List ℕ)
  pub there : ℕ → Bool
  pub at : Bool → ℕ → List Field
  pub after : Bool → ℕ → List (List Field) → List (List Field)

-- the keys under which fields ask for the number of nodes
abbrev pub counts_of : List ShownField → List (List ℕ)
counts_of fields = flat_map (λ f. f.counts) fields

-- none of them is missing at a node
abbrev pub all_there : List ShownField → ℕ → Bool
all_there fields node = list_all (λ f. f.there node) fields

-- what they show at a node
abbrev pub all_at : List ShownField → Bool → ℕ → List Field
all_at fields cascade node = flat_map (λ f. f.at cascade node) fields

-- the flat objects behind all of them
abbrev pub after_all : List ShownField → Bool → ℕ → List (List Field) → List (List Field)
after_all [] cascade node objects = objects
after_all (f ∷ fields) cascade node objects = after_all fields cascade node (f.after cascade node objects)

-- the flat objects of a node: those that have a field, of what one empty object becomes
abbrev pub all_flats : List ShownField → Bool → ℕ → List (List Field)
all_flats fields cascade node = filter has_pair (after_all fields cascade node ([] ∷ []))

-- what stands in the braces of an edge: nothing where there are none
abbrev pub in_braces : {X : Type 0} → Option (List X) → List X
in_braces braces = unwrap_or braces []

-- whether an item isn't missing at a node, by what stands in its braces
abbrev pub there_at : List PredDef → List Triple → List Definition → List Variable → QItem-F ShownItem ShownField → ℕ → Bool
there_at schema graph ds vars QItem-F.Uid node = true
there_at schema graph ds vars QItem-F.CountUid node = true
there_at schema graph ds vars (QItem-F.Count e) node = true
there_at schema graph ds vars (QItem-F.Val x) node = is_some (value_at vars (place_of ds x) node)
there_at schema graph ds vars (QItem-F.Agg op x) node = true
there_at schema graph ds vars (QItem-F.Edge e args dirs braces) node =
    edge_there (sort_of (definition_of schema e.pred) e.back) (shown (definition_of schema e.pred) (objects graph e.pred node)) (all_there (in_braces braces)) (children graph ds vars e args dirs node)

-- the nodes of an edge that remain
abbrev pub left_at : List Triple → List Definition → List Variable → QEdge → List QArg → List QDir → List ShownField → Bool → ℕ → List ℕ
left_at graph ds vars e args dirs inside cascade node = remaining (cascades cascade dirs) (all_there inside) (children graph ds vars e args dirs node)

-- what an item shows at a node
abbrev pub trees_at : List PredDef → List Triple → List Definition → List Variable → QItem-F ShownItem ShownField → Bool → ℕ → List Tree
trees_at schema graph ds vars QItem-F.Uid cascade node = trees.Text (uid_text node) ∷ []
trees_at schema graph ds vars QItem-F.CountUid cascade node = []
trees_at schema graph ds vars (QItem-F.Count e) cascade node = trees.Int (pos (count_along graph e node)) ∷ []
trees_at schema graph ds vars (QItem-F.Val x) cascade node = map value_tree (option_to_list (value_at vars (place_of ds x) node))
trees_at schema graph ds vars (QItem-F.Agg op x) cascade node = []
trees_at schema graph ds vars (QItem-F.Edge e args dirs braces) cascade node =
    edge_shown (sort_of (definition_of schema e.pred) e.back) (shown (definition_of schema e.pred) (objects graph e.pred node)) (counts_of (in_braces braces)) (all_at (in_braces braces) (cascades cascade dirs)) (left_at graph ds vars e args dirs (in_braces braces) cascade node)

-- the flat objects of its nodes
abbrev pub flats_at : List PredDef → List Triple → List Definition → List Variable → QItem-F ShownItem ShownField → Bool → ℕ → Option (List (List Field))
flats_at schema graph ds vars QItem-F.Uid cascade node = None
flats_at schema graph ds vars QItem-F.CountUid cascade node = None
flats_at schema graph ds vars (QItem-F.Count e) cascade node = None
flats_at schema graph ds vars (QItem-F.Val x) cascade node = None
flats_at schema graph ds vars (QItem-F.Agg op x) cascade node = None
flats_at schema graph ds vars (QItem-F.Edge e args dirs braces) cascade node =
    edge_flats (sort_of (definition_of schema e.pred) e.back) (all_flats (in_braces braces) (cascades cascade dirs)) (left_at graph ds vars e args dirs (in_braces braces) cascade node)

-- it asks for the number of nodes of its list
abbrev pub is_count : {A B : Type 0} → QItem-F A B → Bool
is_count QItem-F.Uid = false
is_count QItem-F.CountUid = true
is_count (QItem-F.Count e) = false
is_count (QItem-F.Val x) = false
is_count (QItem-F.Agg op x) = false
is_count (QItem-F.Edge e args dirs braces) = false

-- an item, by what stands in its braces
abbrev pub step_of_item : List PredDef → List Triple → List Definition → List Variable → QItem-F ShownItem ShownField → ShownItem
step_of_item schema graph ds vars item = record {
  key = shown_key item;
  counts = is_count item;
  there = there_at schema graph ds vars item;
  at = trees_at schema graph ds vars item;
  flats = flats_at schema graph ds vars item;
}

-- a field, by its item: all that it shows stands under its alias, or else under the key of its item
abbrev pub step_of_field : QField-F ShownItem ShownField → ShownField
step_of_field f = record {
  counts = if f.item.counts then unwrap_or f.alias f.item.key ∷ [] else [];
  there = f.item.there;
  at = λ cascade node. map (under (unwrap_or f.alias f.item.key)) (f.item.at cascade node);
  after = λ cascade node objects. behind (is_some f.alias) (map (under (unwrap_or f.alias f.item.key)) (f.item.at cascade node)) (f.item.flats cascade node) objects;
}

-- a field of the text
abbrev pub shown_field : List PredDef → List Triple → List Definition → List Variable → QField → ShownField
shown_field schema graph ds vars = fold-QField ShownItem ShownField (step_of_item schema graph ds vars) step_of_field

-- what fields show at a node, in their order
abbrev pub fields_at : List PredDef → List Triple → List Definition → List Variable → Bool → List QField → ℕ → List Field
fields_at schema graph ds vars cascade fields node = all_at (map (shown_field schema graph ds vars) fields) cascade node

-- none of them is missing there
abbrev pub whole_at : List PredDef → List Triple → List Definition → List Variable → List QField → ℕ → Bool
whole_at schema graph ds vars fields node = all_there (map (shown_field schema graph ds vars) fields) node

-- the flat objects of a node
abbrev pub objects_at : List PredDef → List Triple → List Definition → List Variable → Bool → List QField → ℕ → List (List Field)
objects_at schema graph ds vars cascade fields node = all_flats (map (shown_field schema graph ds vars) fields) cascade node

-- the keys under which fields ask for the number of nodes of their list
abbrev pub counts_in : List PredDef → List Triple → List Definition → List Variable → List QField → List (List ℕ)
counts_in schema graph ds vars fields = counts_of (map (shown_field schema graph ds vars) fields)
