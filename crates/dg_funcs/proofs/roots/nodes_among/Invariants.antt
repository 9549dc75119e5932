use Rattle.std.proofs.Common.{◌≡◌, take}
use Rattle.std.specs.Prelude.{filter_map}
use Rattle.dg_graph.specs.Lookups.{node_in}
use Rattle.dg_funcs.proofs.roots.nodes_among.Given as goal

abbrev pub invariant-loop-object : goal.invariant-loop-object
invariant-loop-object l = l.found.items ≡ filter_map node_in (take l.object-index l.objects)
