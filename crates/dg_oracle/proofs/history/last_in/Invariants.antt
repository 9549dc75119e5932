use Rattle.std.proofs.Common.{take}
use Rattle.dg_oracle.specs.Histories.{IsLast, marks_of}
use Rattle.dg_oracle.proofs.history.last_in.Given as goal

abbrev pub invariant-loop-run : goal.invariant-loop-run
invariant-loop-run g l = IsLast g.K.Ord.cmp (marks_of (take l.run-index l.runs)) l.start l.key l.last
