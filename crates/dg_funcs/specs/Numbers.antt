-- Nodes by their numbers of objects, or of subjects.
use Rattle.std.specs.Prelude.{ℕ, ℤ, pos, List, Bool, filter}
use Rattle.std.specs.Ordering.{int_cmp, is_eq}
use Rattle.dg_values.specs.declared.value.Value.{Value}
use Rattle.dg_values.specs.declared.value.Value.TheVariants.{Int}
use Rattle.dg_values.specs.Order.{value_cmp}
use Rattle.dg_graph.specs.declared.change.Triple.{Triple}
use Rattle.dg_parse.specs.declared.query.QEdge.{QEdge}
use Rattle.dg_parse.specs.declared.query.CmpOp.{CmpOp}
use Rattle.dg_funcs.specs.Truth.{count_along, stands}
use Rattle.dg_funcs.specs.Roots.{nodes_with}

-- the nodes with an edge whose number passes a test
abbrev pub numbered : List Triple → QEdge → (ℤ → Bool) → List ℕ
numbered graph edge test = filter (λ n. test (pos (count_along graph edge n))) (nodes_with graph edge)

-- those whose number stands so to this one
abbrev pub standing : List Triple → QEdge → CmpOp → ℤ → List ℕ
standing graph edge op n = numbered graph edge (λ k. stands op (int_cmp k n))

-- those whose number is this value
abbrev pub numbered_as : List Triple → QEdge → Value → List ℕ
numbered_as graph edge v = numbered graph edge (λ k. is_eq (value_cmp (Int k) v))
