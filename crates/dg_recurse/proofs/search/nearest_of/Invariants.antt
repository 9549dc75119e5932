use Rattle.std.proofs.Common.{◌≡◌, ◌≤◌, true, take}
use Rattle.dg_recurse.specs.Ways.{are_far}
use Rattle.dg_recurse.proofs.search.nearest_of.Given as goal

-- none so far is nearer
abbrev pub invariant-loop-node : goal.invariant-loop-node
invariant-loop-node l =
    (l.best.edges ≤ l.fn.given.edges)
    × (l.enough ≤ l.best.edges → are_far l.reach.edges l.way.path.items l.way.raised.items l.best.edges (take l.node-index l.nodes) ≡ true)
