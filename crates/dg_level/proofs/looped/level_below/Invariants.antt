use Rattle.std.proofs.Common.{◌≡◌, take}
use Rattle.dg_level.specs.Looping.{nodes_fetched}
use Rattle.dg_level.proofs.looped.level_below.Given as goal

abbrev pub invariant-loop-fetched : goal.invariant-loop-fetched
invariant-loop-fetched l = l.found.items ≡ nodes_fetched (take l.fetched-index l.all)
