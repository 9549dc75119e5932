use Rattle.std.proofs.Common.{◌≡◌, true, take}
use Rattle.dg_recurse.specs.Ways.{Covers, are_on}
use Rattle.dg_recurse.proofs.blockers.add_all.Given as goal

-- those so far are there
abbrev pub invariant-loop-node : goal.invariant-loop-node
invariant-loop-node l = Covers l.initial.blockers l.blockers × (are_on l.blockers (take l.node-index l.nodes) ≡ true)
