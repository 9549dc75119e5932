use Rattle.std.proofs.Common.{◌≡◌, true, take}
use Rattle.dg_recurse.specs.Ways.{Covers, are_far}
use Rattle.dg_recurse.proofs.blockers.add_for_all.Given as goal

-- the blockers of those so far are there
abbrev pub invariant-loop-node : goal.invariant-loop-node
invariant-loop-node l = Covers l.initial.blockers l.blockers × (are_far l.reach.edges l.blockers l.way.raised.items l.edges (take l.node-index l.nodes) ≡ true)
