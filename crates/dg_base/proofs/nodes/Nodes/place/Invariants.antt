use Rattle.std.proofs.Common.{ℕ, ◌<◌, get_or, drop}
use Rattle.dg_base.specs.Cursors.{StandsBefore}
use Rattle.dg_base.proofs.nodes.Nodes.place.Given as goal

abbrev pub invariant-loop-below : goal.invariant-loop-below
invariant-loop-below l = record {
  stands : StandsBefore l.bytes l.cursor (drop l.below l.fn.self);
  low : (j : ℕ) → j < l.below → get_or l.fn.self j 0 < l.number;
}
