use Rattle.std.proofs.Common.{◌+◌, ◌≤◌, length, reverse}
use Rattle.std.specs.Vec.{vec_capacity}
use Rattle.dg_oracle.proofs.Merging.{IsMerging}
use Rattle.dg_oracle.proofs.run.merge.Given as goal

abbrev pub invariant-loop-mark : goal.invariant-loop-mark
invariant-loop-mark g l = record {
  merging : IsMerging g.K.Ord.cmp g.met.K.Ord.total l.initial.older.items l.initial.newer.items l.older.items l.newer.items (reverse l.marks.items);
  room : length l.older.items + length l.newer.items + length l.marks.items ≤ vec_capacity l.marks;
}

abbrev pub decreases-loop-mark : goal.decreases-loop-mark
decreases-loop-mark g l = length l.older.items + length l.newer.items
