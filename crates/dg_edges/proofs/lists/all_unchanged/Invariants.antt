use Rattle.std.proofs.Common.{◌≡◌, ◌+◌, map, take}
use Rattle.std.specs.Prelude.{sum_by}
use Rattle.dg_edges.specs.Lists.{unchanged_at, reads_at}
use Rattle.dg_edges.proofs.lists.all_unchanged.Given as goal

abbrev pub invariant-loop-key : goal.invariant-loop-key
invariant-loop-key g l = record {
  lists : l.lists.items ≡ map (unchanged_at (g.S.Snapshot.graph l.snap)) (take l.key-index l.keys);
  reads : l.reads ≡ l.fn.reads + sum_by reads_at (take l.key-index l.keys);
}
