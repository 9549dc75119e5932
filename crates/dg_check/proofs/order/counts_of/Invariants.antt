use Rattle.std.proofs.Common.{◌≡◌, map, length, take}
use Rattle.dg_check.proofs.order.counts_of.Given as goal

abbrev pub invariant-loop-needs : goal.invariant-loop-needs
invariant-loop-needs l = l.counts.items ≡ map length (take l.needs-index l.deps)
