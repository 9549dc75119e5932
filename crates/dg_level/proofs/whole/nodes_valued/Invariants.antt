use Rattle.std.proofs.Common.{◌≡◌, take}
use Rattle.std.specs.Prelude.{filter, is_some}
use Rattle.dg_check.specs.Vars.{value_at}
use Rattle.dg_level.proofs.whole.nodes_valued.Given as goal

-- those so far
abbrev pub invariant-loop-node : goal.invariant-loop-node
invariant-loop-node l = l.found.items ≡ filter (λ n. is_some (value_at l.vars.variables l.place n)) (take l.node-index l.node-items)
