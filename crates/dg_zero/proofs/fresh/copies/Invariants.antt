use Rattle.std.proofs.Common.{◌≡◌, take}
use Rattle.dg_zero.proofs.fresh.copies.Given as goal

abbrev pub invariant-loop-tablet : goal.invariant-loop-tablet
invariant-loop-tablet l = l.copies.items ≡ take l.tablet-index l.tablets
