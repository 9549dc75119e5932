use Rattle.std.proofs.Common.{◌+◌, ◌<◌}
use Rattle.std.specs.List.{AllByRecursion}
use Rattle.dg_list.specs.Lists.{newest_ts}
use Rattle.table_lists.proofs.bench.stores.grown.Given as goal

abbrev pub invariant-loop-turn : goal.invariant-loop-turn
invariant-loop-turn l = AllByRecursion (λ e. newest_ts e.1 < 1 + l.turn) l.store
