use Rattle.std.proofs.Common.{◌≡◌, ◌++◌, flat_map, take}
use Rattle.dg_zero.specs.Listings.{reverse_keys}
use Rattle.dg_edges.proofs.touched.push_nodes.Given as goal

abbrev pub invariant-loop-object : goal.invariant-loop-object
invariant-loop-object l = l.found.items ≡ l.fn.found.items ++ flat_map (reverse_keys l.t) (take l.object-index l.objects)
