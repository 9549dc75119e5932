use Rattle.std.proofs.Common.{◌≡◌, ◌++◌, flat_map, take}
use Rattle.dg_zero.specs.Listings.{keys_of_object}
use Rattle.dg_edges.proofs.touched.push_objects.Given as goal

abbrev pub invariant-loop-object : goal.invariant-loop-object
invariant-loop-object l = l.found.items ≡ l.fn.found.items ++ flat_map (keys_of_object l.def l.t) (take l.object-index l.objects)
