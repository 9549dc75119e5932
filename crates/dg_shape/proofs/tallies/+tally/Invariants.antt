use Rattle.std.proofs.Common.{◌≡◌, ◌≤◌, List, [], ◌∷◌, take, drop, length, flat_map}
use Rattle.dg_tree.specs.declared.tree.Field.{Field}
use Rattle.dg_shape.specs.Normalize.{after_fields, flat_tree, to_flatten}
use Rattle.dg_shape.specs.Tallies.{IsTally}
use Rattle.dg_shape.proofs.tallies.+tally.Given as goal

abbrev pub invariant-count-loop-item : goal.invariant-count-loop-item
invariant-count-loop-item l = l.total ≤ length (flat_map (flat_tree (to_flatten l.fields)) (take l.item-index l.items))

abbrev pub invariant-count_node-loop-field : goal.invariant-count_node-loop-field
invariant-count_node-loop-field l =
    (objects : List (List Field)) × (IsTally l.so_far.tally.total l.so_far.tally.filled objects)
    × (after_fields (to_flatten (drop l.field-index l.fields)) (drop l.so_far.at l.parts) objects ≡ after_fields (to_flatten l.fields) l.parts ([] ∷ []))
