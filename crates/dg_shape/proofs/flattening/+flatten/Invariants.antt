use Rattle.std.proofs.Common.{◌≡◌, [], ◌∷◌, take, drop, flat_map}
use Rattle.dg_shape.specs.Normalize.{after_fields, flat_tree, to_flatten}
use Rattle.dg_shape.proofs.flattening.+flatten.Given as goal

abbrev pub invariant-flatten-loop-item : goal.invariant-flatten-loop-item
invariant-flatten-loop-item l = l.out.items ≡ flat_map (flat_tree (to_flatten l.fields)) (take l.item-index l.items)

abbrev pub invariant-flatten_node-loop-field : goal.invariant-flatten_node-loop-field
invariant-flatten_node-loop-field l =
    after_fields (to_flatten (drop l.field-index l.fields)) (drop l.made.at l.parts) l.made.objects.items ≡ after_fields (to_flatten l.fields) l.parts ([] ∷ [])
