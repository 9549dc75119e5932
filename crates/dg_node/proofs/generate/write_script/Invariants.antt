use Rattle.std.proofs.Common.{◌≤◌, ℕ, length}
use Rattle.dg_wire.specs.Frames.{frames}
use Rattle.dg_wire.specs.Generator.{generated}
use Rattle.dg_node.proofs.Writing.{Writing}
use Rattle.dg_node.proofs.generate.write_script.Given as goal

abbrev pub invariant-requests : goal.invariant-requests
invariant-requests g l = record {
  writing : Writing (frames (generated l.fn.seed l.fn.size)) (g.K.Sink.held l.fn.sink) (g.K.Sink.held l.sink) l.script;
  later : g.K.Sink.faults l.fn.sink ≤ g.K.Sink.faults l.sink;
}

abbrev pub decreases-requests : goal.decreases-requests
decreases-requests g l = length l.script
