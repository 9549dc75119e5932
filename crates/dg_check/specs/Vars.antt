-- What variables stand for, by their places among those of the plan.
use Rattle.std.specs.Prelude.{ℕ, List, [], ◌∷◌, ◌==◌, if◌then◌else◌, Option, Some, None, slice_get, flat_map}
use Rattle.dg_values.specs.declared.value.Value.{Value}
use Rattle.dg_check.specs.declared.parts.Node.{Node}
use Rattle.dg_check.specs.declared.parts.Node.TheVariants.{Uid, Var}
use Rattle.dg_check.specs.declared.vars.Variable.{Variable}

-- the nodes of a variable, where there is one
abbrev pub nodes_by : Option Variable → List ℕ
nodes_by None = []
nodes_by (Some v) = v.nodes

-- the nodes of the variable at a place
abbrev pub nodes_of : List Variable → ℕ → List ℕ
nodes_of vars place = nodes_by (slice_get vars place)

-- the value that stands beside a node
abbrev pub value_beside : List ℕ → List Value → ℕ → Option Value
value_beside [] values node = None
value_beside (n ∷ nodes) [] node = None
value_beside (n ∷ nodes) (v ∷ values) node = if n == node then Some v else value_beside nodes values node

-- the value of a variable at a node, where there is one
abbrev pub value_by : Option Variable → ℕ → Option Value
value_by None node = None
value_by (Some v) node = value_beside v.nodes v.values node

-- the value of the variable at a place, at a node
abbrev pub value_at : List Variable → ℕ → ℕ → Option Value
value_at vars place node = value_by (slice_get vars place) node

-- the nodes for which a name stands: one by its number, or those of a variable
abbrev pub nodes_named : List Variable → Node → List ℕ
nodes_named vars (Uid n) = n ∷ []
nodes_named vars (Var place) = nodes_of vars place

-- the nodes for which names stand
abbrev pub named_nodes : List Variable → List Node → List ℕ
named_nodes vars named = flat_map (nodes_named vars) named
