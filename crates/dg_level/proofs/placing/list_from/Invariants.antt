use Rattle.std.proofs.Common.{◌≡◌, false, take}
use Rattle.dg_level.specs.Reaching.{is_near}
use Rattle.dg_level.proofs.placing.list_from.Given as goal

-- no step so far has the node
abbrev pub invariant-loop-step : goal.invariant-loop-step
invariant-loop-step l = is_near (take l.step-index l.steps) l.node ≡ false
