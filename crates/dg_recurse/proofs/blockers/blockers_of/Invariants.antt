use Rattle.std.proofs.Common.{◌≡◌, true, take}
use Rattle.dg_recurse.specs.Ways.{are_far_from}
use Rattle.dg_recurse.proofs.blockers.blockers_of.Given as goal

-- the blockers of those to which the columns so far lead are there
abbrev pub invariant-loop-column : goal.invariant-loop-column
invariant-loop-column l = are_far_from (take l.column-index l.columns) l.reach.edges l.blockers l.way.raised.items l.edges l.place ≡ true
