use Rattle.std.proofs.Common.{◌≡◌, ◌+◌, map, take}
use Rattle.std.specs.Prelude.{sum_by}
use Rattle.dg_edges.specs.Lists.{objects_at, reads_at}
use Rattle.dg_edges.proofs.replaced.objects_of.Given as goal

abbrev pub invariant-loop-key : goal.invariant-loop-key
invariant-loop-key g l = record {
  lists : l.lists.items ≡ map (objects_at (g.S.Snapshot.graph l.snap)) (take l.key-index l.keys);
  reads : l.reads ≡ l.fn.reads + sum_by reads_at (take l.key-index l.keys);
}
