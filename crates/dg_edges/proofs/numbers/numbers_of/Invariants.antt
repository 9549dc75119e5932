use Rattle.std.proofs.Common.{◌≡◌, ◌+◌, flat_map, take}
use Rattle.dg_edges.specs.Filing.{filed_before, filed_after, counted_parts}
use Rattle.dg_edges.proofs.numbers.numbers_of.Given as goal

abbrev pub invariant-loop-part : goal.invariant-loop-part
invariant-loop-part g l = record {
  before : l.numbers.before.items ≡ flat_map (λ part. filed_before (g.S.Snapshot.declared l.snap) (g.S.Snapshot.graph l.snap) part.key) (take l.part-index l.parts);
  after : l.numbers.after.items ≡ flat_map (λ part. filed_after (g.S.Snapshot.declared l.snap) (g.S.Snapshot.graph l.snap) part.key part.ops) (take l.part-index l.parts);
  reads : l.reads ≡ l.fn.reads + counted_parts (g.S.Snapshot.declared l.snap) (take l.part-index l.parts);
}
