use Rattle.std.proofs.Common.{◌≡◌, take}
use Rattle.dg_edges.specs.Altering.{filed_under_schema}
use Rattle.dg_edges.proofs.rereading.filings_under.Given as goal

abbrev pub invariant-loop-key : goal.invariant-loop-key
invariant-loop-key g l = record {
  before : l.found.before.items ≡ filed_under_schema (g.S.Snapshot.declared l.snap) (g.S.Snapshot.graph l.snap) (take l.key-index l.keys);
  after : l.found.after.items ≡ filed_under_schema l.later (g.S.Snapshot.graph l.snap) (take l.key-index l.keys);
}
