use Rattle.std.proofs.Common.{◌≡◌, ◌+◌, ◌++◌, take, flat_map, Bor}
use Rattle.std.specs.Prelude.{map, List}
use Rattle.dg_tree.specs.declared.tree.Field.{Field}
use Rattle.dg_shape.specs.Normalize.{joined}
use Rattle.dg_level.specs.Flats.{weight_in}
use Rattle.dg_level.proofs.flat_rows.push_parts.Given as goal

abbrev pub invariant-loop-part : goal.invariant-loop-part
invariant-loop-part l =
    (l.out.items ≡ l.initial.out.items ++ map (joined l.object) (flat_map (λ (p : Bor (List (List Field))). p.now) (take l.part-index l.parts)))
    × (l.left + weight_in (map (joined l.object) (flat_map (λ (p : Bor (List (List Field))). p.now) (take l.part-index l.parts))) ≡ l.room)
