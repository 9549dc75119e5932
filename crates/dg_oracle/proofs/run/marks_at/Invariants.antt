use Rattle.std.proofs.Common.{◌≡◌, map}
use Rattle.std.specs.Vec.{vec_capacity}
use Rattle.dg_oracle.specs.Histories.{marked_at}
use Rattle.dg_oracle.proofs.run.marks_at.Given as goal

abbrev pub invariant-loop-key : goal.invariant-loop-key
invariant-loop-key g l = record {
  marks : l.marks.items ≡ map (marked_at l.ts) l.yielded;
  room : vec_capacity l.marks ≡ vec_capacity l.initial.marks;
}
