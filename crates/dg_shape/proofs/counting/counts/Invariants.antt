use Rattle.std.proofs.Common.{◌≡◌, take, length, flat_map}
use Rattle.dg_shape.specs.Asked.{asked_by}
use Rattle.dg_shape.specs.Strip.{count_object, shown_below}
use Rattle.dg_shape.proofs.counting.counts.Given as goal

abbrev pub invariant-loop-field : goal.invariant-loop-field
invariant-loop-field l = l.out.items ≡ flat_map (λ field. count_object (length l.items) (asked_by shown_below field)) (take l.field-index l.fields)
