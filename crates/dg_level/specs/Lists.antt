-- The list of nodes under an edge of a node: filter, order, after, offset, first.
use Rattle.std.specs.Prelude.{ℕ, List, [], ◌∷◌, Bool, true, false, Option, Some, None, filter, filter_map}
use Rattle.std.specs.List.{list_all}
use Rattle.dg_values.specs.declared.value.Value.{Value}
use Rattle.dg_graph.specs.declared.change.Triple.{Triple}
use Rattle.dg_parse.specs.declared.query.QArg.{QArg}
use Rattle.dg_parse.specs.declared.query.QArg.TheVariants as arguments
use Rattle.dg_parse.specs.declared.query.QDir.{QDir}
use Rattle.dg_parse.specs.declared.query.QEdge.{QEdge}
use Rattle.dg_parse.specs.declared.query.QOrder.{QOrder}
use Rattle.dg_parse.specs.declared.query.QOrder.TheVariants as orders
use Rattle.dg_check.specs.declared.vars.Variable.{Variable}
use Rattle.dg_check.specs.Parts.{filters_in}
use Rattle.dg_check.specs.Plans.{place_of}
use Rattle.dg_check.specs.Variables.{Definition, names_for}
use Rattle.dg_check.specs.Vars.{value_at}
use Rattle.dg_funcs.specs.Truth.{values_at, nodes_along}
use Rattle.dg_funcs.specs.Meaning.{text_passes}
use Rattle.dg_shape.specs.Orders.{ordered, page}

-- ---- order keys

-- the first of these values, if there is any
abbrev pub first_value : List Value → Option Value
first_value [] = None
first_value (value ∷ values) = Some value

-- the least value that a node has by a predicate, if it has any; its values ascend. A predicate of nodes has no values.
abbrev pub least_value : List Triple → List ℕ → ℕ → Option Value
least_value graph p node = first_value (values_at graph p node)

-- the value by which an order key puts a node in its place
abbrev pub value_for : List Triple → List Definition → List Variable → QOrder → ℕ → Option Value
value_for graph ds vars (orders.Pred p) node = least_value graph p node
value_for graph ds vars (orders.Val x) node = value_at vars (place_of ds x) node

-- the order key that an argument is, if it is one: whether the greatest value comes first, and the values
abbrev pub key_for : List Triple → List Definition → List Variable → QArg → Option (Bool × (ℕ → Option Value))
key_for graph ds vars (arguments.First n) = None
key_for graph ds vars (arguments.Offset n) = None
key_for graph ds vars (arguments.After n) = None
key_for graph ds vars (arguments.Asc order) = Some (false, value_for graph ds vars order)
key_for graph ds vars (arguments.Desc order) = Some (true, value_for graph ds vars order)

-- the order keys among arguments, in their order
abbrev pub keys_for : List Triple → List Definition → List Variable → List QArg → List (Bool × (ℕ → Option Value))
keys_for graph ds vars args = filter_map (key_for graph ds vars) args

-- ---- lists

-- the nodes of these at which each filter of the directives passes
abbrev pub passed_all : List Triple → List Definition → List Variable → List QDir → List ℕ → List ℕ
passed_all graph ds vars dirs nodes = filter (λ n. list_all (text_passes graph (names_for false ds) vars n) (filters_in dirs)) nodes

-- the list of a node under an edge
abbrev pub children : List Triple → List Definition → List Variable → QEdge → List QArg → List QDir → ℕ → List ℕ
children graph ds vars edge args dirs node = page args (ordered (keys_for graph ds vars args) (passed_all graph ds vars dirs (nodes_along graph edge node)))
