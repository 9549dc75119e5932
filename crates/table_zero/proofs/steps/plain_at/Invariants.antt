use Rattle.std.proofs.Common.{◌≡◌, fold, take}
use Rattle.dg_zero.specs.Worlds.{empty_world}
use Rattle.table_zero.specs.Steps.{world_in, world_by}
use Rattle.table_zero.proofs.steps.plain_at.Given as goal

abbrev pub invariant-loop-step : goal.invariant-loop-step
invariant-loop-step l = world_in l.plain ≡ fold (world_by l.at) empty_world (take l.step-index l.steps)
