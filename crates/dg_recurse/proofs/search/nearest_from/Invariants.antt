use Rattle.std.proofs.Common.{◌≡◌, ◌≤◌, true, take}
use Rattle.dg_recurse.specs.Ways.{are_far_from}
use Rattle.dg_recurse.proofs.search.nearest_from.Given as goal

-- none of the columns so far leads to a nearer one
abbrev pub invariant-loop-column : goal.invariant-loop-column
invariant-loop-column l = l.enough ≤ l.best.edges → are_far_from (take l.column-index l.columns) l.reach.edges l.way.path.items l.way.raised.items l.best.edges l.place ≡ true
