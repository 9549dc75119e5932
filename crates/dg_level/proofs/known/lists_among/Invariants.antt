use Rattle.std.proofs.Common.{◌≡◌, ℕ, List, map, take}
use Rattle.dg_level.proofs.known.lists_among.Given as goal

-- those so far
abbrev pub invariant-loop-node : goal.invariant-loop-node
invariant-loop-node l = (list : ℕ → List ℕ) → l.lists ≡ map list l.of → l.made.items ≡ map list (take l.node-index l.nodes)
