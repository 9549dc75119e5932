use Rattle.std.proofs.Common.{◌≡◌, take}
use Rattle.dg_shape.proofs.copying.+copy.Given as goal

abbrev pub invariant-copy_trees-loop-item : goal.invariant-copy_trees-loop-item
invariant-copy_trees-loop-item l = l.out.items ≡ take l.item-index l.items

abbrev pub invariant-copy_fields-loop-part : goal.invariant-copy_fields-loop-part
invariant-copy_fields-loop-part l = l.out.items ≡ take l.part-index l.parts
