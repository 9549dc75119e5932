use Rattle.std.proofs.Common.{◌≡◌, take, flat_map}
use Rattle.std.specs.Prelude.{filter_map}
use Rattle.dg_graph.specs.Graphs.{objects}
use Rattle.dg_graph.specs.Lookups.{node_in}
use Rattle.dg_funcs.proofs.roots.pointed_to.Given as goal

abbrev pub invariant-loop-subject : goal.invariant-loop-subject
invariant-loop-subject g l = l.found.items ≡ flat_map (λ n. filter_map node_in (objects (g.S.Snapshot.graph l.snap) l.p n)) (take l.subject-index l.subject-items)
