use Rattle.std.proofs.Common.{◌≡◌, ◌≤◌, take}
use Rattle.std.specs.Prelude.{sum_by}
use Rattle.dg_edges.specs.Filing.{taken_by}
use Rattle.dg_edges.proofs.numbers.taken.Given as goal

abbrev pub invariant-loop-op : goal.invariant-loop-op
invariant-loop-op l = record { sum : l.sum ≡ sum_by taken_by (take l.op-index l.ops); bound : l.sum ≤ l.op-index }
