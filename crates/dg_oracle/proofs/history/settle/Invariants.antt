use Rattle.std.proofs.Common.{◌<◌, ◌++◌, ◌∷◌, []}
use Rattle.std.specs.Vec.{vec_len, vec_capacity}
use Rattle.dg_oracle.specs.Histories.{marks_of, IsLayered, HasSameKeys}
use Rattle.dg_oracle.proofs.history.settle.Given as goal

abbrev pub invariant-loop-older : goal.invariant-loop-older
invariant-loop-older g l = record {
  room : vec_len l.runs < vec_capacity l.runs;
  layered : IsLayered (l.runs.items ++ l.run ∷ []);
  keys : HasSameKeys (marks_of (l.runs.items ++ l.run ∷ [])) (marks_of (l.initial.runs.items ++ l.initial.run ∷ []));
}

abbrev pub decreases-loop-older : goal.decreases-loop-older
decreases-loop-older g l = vec_len l.runs
