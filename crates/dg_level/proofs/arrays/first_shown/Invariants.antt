use Rattle.std.proofs.Common.{◌≡◌, ℕ, List, false, map, take}
use Rattle.dg_level.specs.Parts.{has_parts}
use Rattle.dg_level.specs.Rows.{objects_of, AreOfLevel}
use Rattle.dg_level.proofs.arrays.first_shown.Given as goal

-- none so far shows something
abbrev pub invariant-loop-node : goal.invariant-loop-node
invariant-loop-node l = (f : ℕ → List ℕ) → l.below.rows ≡ map f l.level → AreOfLevel l.level l.list → false ≡ has_parts false (objects_of (map f (take l.node-index l.list)))
