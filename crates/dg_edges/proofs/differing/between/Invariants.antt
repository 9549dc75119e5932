use Rattle.std.proofs.Common.{◌+◌, ◌-◌, length}
use Rattle.dg_edges.proofs.BetweenLaws.{IsPassing}
use Rattle.dg_edges.proofs.differing.between.Given as goal

abbrev pub invariant-loop-lost : goal.invariant-loop-lost
invariant-loop-lost l = IsPassing l.old l.new l.found.items l.lost l.gained

abbrev pub decreases-loop-lost : goal.decreases-loop-lost
decreases-loop-lost l = (length l.old - l.lost) + (length l.new - l.gained)
