use Rattle.std.proofs.Common.{◌≡◌, ℕ, take, flat_map, Bor}
use Rattle.std.specs.Prelude.{map, List}
use Rattle.dg_tree.specs.declared.tree.Field.{Field}
use Rattle.dg_level.specs.Rows.{AreOfLevel}
use Rattle.dg_level.proofs.flat_rows.parts_of.Given as goal

abbrev pub invariant-loop-node : goal.invariant-loop-node
invariant-loop-node l = (f : ℕ → List (List Field)) → l.below ≡ map f l.level → AreOfLevel l.level l.list
    → flat_map (λ (p : Bor (List (List Field))). p.now) l.parts.items ≡ flat_map f (take l.node-index l.list)
