use Rattle.std.proofs.Common.{◌≡◌, map, take}
use Rattle.dg_edges.specs.Deltas.{data_key}
use Rattle.dg_edges.proofs.lists.keys_of.Given as goal

abbrev pub invariant-loop-change : goal.invariant-loop-change
invariant-loop-change l = l.keys.items ≡ map data_key (take l.change-index l.changes)
