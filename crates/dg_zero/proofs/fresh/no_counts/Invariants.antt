use Rattle.std.proofs.Common.{◌≡◌, []}
use Rattle.dg_zero.specs.Places.{tally}
use Rattle.dg_zero.proofs.fresh.no_counts.Given as goal

abbrev pub invariant-loop-group : goal.invariant-loop-group
invariant-loop-group l = l.counts.items ≡ tally l._group []
