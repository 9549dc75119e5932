use Rattle.std.proofs.Common.{◌≡◌, ◌≤◌, ◌*◌, flat_map, take}
use Rattle.std.specs.Prelude.{unsigned_abs}
use Rattle.dg_level.specs.Aggregates.{number_in, sum_of}
use Rattle.dg_level.proofs.folds.sum_of.Given as goal

-- the sum so far, and how far from 0 it can be
abbrev pub invariant-loop-value : goal.invariant-loop-value
invariant-loop-value l = (l.sum ≡ sum_of (flat_map number_in (take l.value-index l.values))) × (unsigned_abs l.sum ≤ 9223372036854775808 * l.value-index)
