use Rattle.std.proofs.Common.{◌≡◌, take}
use Rattle.std.specs.Prelude.{filter}
use Rattle.std.specs.List.{list_any}
use Rattle.dg_graph.specs.Graphs.{objects}
use Rattle.dg_funcs.specs.Tests.{is_node}
use Rattle.dg_funcs.proofs.following.subjects_by_search.Given as goal

abbrev pub invariant-loop-subject : goal.invariant-loop-subject
invariant-loop-subject g l = l.found.items ≡ filter (λ n. list_any (is_node l.node) (objects (g.S.Snapshot.graph l.snap) l.p n)) (take l.subject-index l.subject-items)
