use Rattle.std.proofs.Common.{◌≡◌, ◌+◌, take, flat_map, Bor}
use Rattle.std.specs.Prelude.{map, List}
use Rattle.dg_tree.specs.declared.tree.Field.{Field}
use Rattle.dg_shape.specs.Normalize.{joined}
use Rattle.dg_level.specs.Flats.{weight_in}
use Rattle.dg_level.proofs.flat_rows.crossed.Given as goal

abbrev pub invariant-loop-object : goal.invariant-loop-object
invariant-loop-object l =
    (l.objects.items ≡ flat_map (λ object. map (joined object) (flat_map (λ (p : Bor (List (List Field))). p.now) l.parts)) (take l.object-index l.firsts))
    × (l.left + weight_in l.objects.items ≡ l.room)
