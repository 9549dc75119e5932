use Rattle.std.proofs.Common.{◌≡◌, take, flat_map}
use Rattle.dg_funcs.specs.Numbers.{numbered_as}
use Rattle.dg_funcs.proofs.numbers.equal_to_each.Given as goal

-- those of the values so far
abbrev pub invariant-loop-value : goal.invariant-loop-value
invariant-loop-value g l = l.found.items ≡ flat_map (numbered_as (g.S.Snapshot.graph l.snap) l.edge) (take l.value-index l.values)
