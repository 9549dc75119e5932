use Rattle.std.proofs.Common.{◌≡◌, flat_map, take}
use Rattle.dg_edges.specs.Replaced.{read_key}
use Rattle.dg_edges.proofs.replaced.read_keys.Given as goal

abbrev pub invariant-loop-change : goal.invariant-loop-change
invariant-loop-change l = l.keys.items ≡ flat_map (read_key l.schema) (take l.change-index l.changes)
