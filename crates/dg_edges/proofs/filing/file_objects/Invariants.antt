use Rattle.std.proofs.Common.{◌≡◌, ◌++◌, flat_map, take}
use Rattle.dg_edges.specs.Filing.{filed_object}
use Rattle.dg_edges.proofs.filing.file_objects.Given as goal

abbrev pub invariant-loop-object : goal.invariant-loop-object
invariant-loop-object l = l.filed.items ≡ l.fn.filed.items ++ flat_map (filed_object l.def l.p l.s) (take l.object-index l.objects)
