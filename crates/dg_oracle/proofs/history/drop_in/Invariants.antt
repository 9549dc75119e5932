use Rattle.std.proofs.Common.{◌≡◌, ◌++◌, map, take, drop}
use Rattle.dg_oracle.specs.Histories.{cut_above}
use Rattle.dg_oracle.proofs.history.drop_in.Given as goal

abbrev pub invariant-loop-run : goal.invariant-loop-run
invariant-loop-run g l = l.run-items ≡ map (cut_above l.line) (take l.run-index l.initial.run-items) ++ drop l.run-index l.initial.run-items
