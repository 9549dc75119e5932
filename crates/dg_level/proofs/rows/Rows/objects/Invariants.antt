use Rattle.std.proofs.Common.{◌≡◌, ℕ, List, ◌++◌, map, take}
use Rattle.dg_level.specs.Parts.{parts_text, has_parts}
use Rattle.dg_level.specs.Rows.{objects_of, AreOfLevel}
use Rattle.dg_level.proofs.rows.Rows.objects.Given as goal

-- the objects so far
abbrev pub invariant-loop-node : goal.invariant-loop-node
invariant-loop-node l =
    ((f : ℕ → List ℕ) → l.below.rows ≡ map f l.level → AreOfLevel l.level l.list
    → (l.self.begun ≡ l.fn.self.begun ++ parts_text l.before (objects_of (map f (take l.node-index l.list))))
    × (l.wrote ≡ has_parts l.before (objects_of (map f (take l.node-index l.list)))))
    × (l.self.rows ≡ l.fn.self.rows)
    × (l.self.limit ≡ l.fn.self.limit)
