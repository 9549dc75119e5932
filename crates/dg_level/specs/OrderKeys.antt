-- The values by which the nodes of a level are put in order, looked up once for each node.
use Rattle.std.specs.Prelude.{ℕ, List, [], ◌∷◌, Bool, true, false, Option, is_some, filter, filter_map, flat_map}
use Rattle.std.specs.Ordering.{nat_cmp}
use Rattle.dg_values.specs.Ascending.{ascending}
use Rattle.dg_values.specs.declared.value.Value.{Value}
use Rattle.dg_graph.specs.declared.change.Triple.{Triple}
use Rattle.dg_check.specs.declared.parts.By.{By}
use Rattle.dg_check.specs.declared.parts.OrderKey.{OrderKey}
use Rattle.dg_check.specs.declared.parts.OrderKey.TheVariants as keys
use Rattle.dg_check.specs.declared.vars.Variable.{Variable}
use Rattle.dg_check.specs.Vars.{value_beside}
use Rattle.dg_level.specs.Planned.{value_by}

-- whether the greatest value comes first
abbrev pub is_down : OrderKey → Bool
is_down (keys.Asc key) = false
is_down (keys.Desc key) = true

-- what it is that is compared
abbrev pub compared_by : OrderKey → By
compared_by (keys.Asc key) = key
compared_by (keys.Desc key) = key

-- the values of these nodes that have one
abbrev pub values_among : List Triple → List Variable → List ℕ → By → Variable
values_among graph vars nodes key = record { nodes = filter (λ n. is_some (value_by graph vars key n)) nodes; values = filter_map (value_by graph vars key) nodes }

-- keys, each with the values beside it
abbrev pub keyed : List OrderKey → List Variable → List (Bool × (ℕ → Option Value))
keyed [] values = []
keyed (key ∷ orders) [] = []
keyed (key ∷ orders) (v ∷ values) = (is_down key, value_beside v.nodes v.values) ∷ keyed orders values

-- the nodes of which keys have to know the values: all of these lists, where there is a key
abbrev pub known_nodes : List OrderKey → List (List ℕ) → List ℕ
known_nodes [] lists = []
known_nodes (key ∷ orders) lists = ascending nat_cmp (flat_map (λ list. list) lists)
