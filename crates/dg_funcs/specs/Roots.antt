-- The nodes that a function gives at the root of a block.
use Rattle.std.specs.Prelude.{ℕ, List, filter}
use Rattle.std.specs.Ordering.{nat_cmp}
use Rattle.dg_values.specs.Ascending.{ascending}
use Rattle.dg_graph.specs.declared.change.Triple.{Triple}
use Rattle.dg_graph.specs.Lookups.{holders, counted}
use Rattle.dg_parse.specs.declared.query.QEdge.{QEdge}
use Rattle.dg_check.specs.declared.parts.Of.{Of}
use Rattle.dg_check.specs.declared.parts.Of.TheVariants as part
use Rattle.dg_check.specs.declared.parts.Func.{Func}
use Rattle.dg_check.specs.declared.parts.Func.TheVariants as funcs
use Rattle.dg_check.specs.declared.vars.Variable.{Variable}
use Rattle.dg_check.specs.Vars.{named_nodes, nodes_of}
use Rattle.dg_funcs.specs.Truth.{holds_at}

-- the nodes that have an object by an edge, or to which a subject points where it is followed backwards
abbrev pub nodes_with : List Triple → QEdge → List ℕ
nodes_with graph edge = counted graph edge.pred edge.back

-- the nodes of which a comparison is asked
abbrev pub nodes_of_part : List Triple → List Variable → Of → List ℕ
nodes_of_part graph vars (part.Pred p) = holders graph p
nodes_of_part graph vars (part.Count edge) = nodes_with graph edge
nodes_of_part graph vars (part.Val place) = nodes_of vars place

-- the nodes of which a function is asked where it stands at the root
abbrev pub candidates : List Triple → List Variable → Func → List ℕ
candidates graph vars (funcs.Uid named) = ascending nat_cmp (named_nodes vars named)
candidates graph vars (funcs.Cmp op of kind values) = nodes_of_part graph vars of
candidates graph vars (funcs.Between of kind values) = nodes_of_part graph vars of
candidates graph vars (funcs.Has edge) = nodes_with graph edge
candidates graph vars (funcs.Terms all p text) = holders graph p
candidates graph vars (funcs.Regexp p pattern) = holders graph p
candidates graph vars (funcs.UidIn edge named) = nodes_with graph edge

-- those of them at which it holds: all of those that are named by `uid`
abbrev pub root_nodes : List Triple → List Variable → Func → List ℕ
root_nodes graph vars f = filter (λ n. holds_at graph vars n f) (candidates graph vars f)
