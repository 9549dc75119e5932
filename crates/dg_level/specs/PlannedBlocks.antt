-- The list of a block, by what a plan keeps of it.
use Rattle.std.specs.Prelude.{ℕ, List, [], Option, Some, None}
use Rattle.dg_graph.specs.declared.change.Triple.{Triple}
use Rattle.dg_parse.specs.declared.query.QArg.{QArg}
use Rattle.dg_check.specs.declared.parts.Func.{Func}
use Rattle.dg_check.specs.declared.parts.Parts.{Parts}
use Rattle.dg_check.specs.declared.vars.Variable.{Variable}
use Rattle.dg_funcs.specs.Roots.{root_nodes}
use Rattle.dg_shape.specs.Orders.{ordered, page}
use Rattle.dg_level.specs.Planned.{planned_keys, passed_each}

-- the nodes of a root, where there is one
abbrev pub planned_root : List Triple → List Variable → Option Func → List ℕ
planned_root graph vars None = []
planned_root graph vars (Some f) = root_nodes graph vars f

-- those of them that pass each filter, in order, and cut
abbrev pub planned_nodes : List Triple → List Variable → List QArg → Parts → List ℕ
planned_nodes graph vars args kept = page args (ordered (planned_keys graph vars kept.orders) (passed_each graph vars kept.filters (planned_root graph vars kept.root)))
