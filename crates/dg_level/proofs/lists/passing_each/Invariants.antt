use Rattle.std.proofs.Common.{◌≡◌, take}
use Rattle.std.specs.Prelude.{filter}
use Rattle.std.specs.List.{list_all}
use Rattle.dg_funcs.specs.Truth.{passes}
use Rattle.dg_level.proofs.lists.passing_each.Given as goal

-- those that pass each filter so far
abbrev pub invariant-loop-filter : goal.invariant-loop-filter
invariant-loop-filter g l = l.left ≡ filter (λ n. list_all (passes (g.S.Snapshot.graph l.snap) l.vars.variables n) (take l.filter-index l.filters)) l.fn.nodes
