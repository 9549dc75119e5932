use Rattle.std.proofs.Common.{◌≡◌, ℕ, List, false, ◌++◌, map, flat_map, take}
use Rattle.dg_tree.specs.declared.tree.Field.{Field}
use Rattle.dg_level.specs.Parts.{parts_text, has_parts}
use Rattle.dg_level.specs.Rows.{AreOfLevel}
use Rattle.dg_level.specs.Flats.{flat_texts}
use Rattle.dg_level.proofs.rows.Rows.flats_of.Given as goal

-- the objects so far
abbrev pub invariant-loop-node : goal.invariant-loop-node
invariant-loop-node l =
    ((f : ℕ → List (List Field)) → l.below ≡ map f l.level → AreOfLevel l.level l.list
    → (l.self.begun ≡ l.fn.self.begun ++ parts_text false (flat_texts (flat_map f (take l.node-index l.list))))
    × (l.wrote ≡ has_parts false (flat_texts (flat_map f (take l.node-index l.list)))))
    × (l.self.rows ≡ l.fn.self.rows)
    × (l.self.limit ≡ l.fn.self.limit)
