use Rattle.std.proofs.Common.{arith}
use Rattle.dg_shape.proofs.TallyLaws.{times_many, times_none}
use Rattle.dg_shape.proofs.tallies.times.Goals as goal

pub returns-then-others-eq0 : goal.returns-then-others-eq0
returns-then-others-eq0 c objects more t le e = times_none c.args.tally.total c.args.tally.filled objects more t e

pub returns : goal.returns
returns c objects more t le e = times_many c.args.tally.total c.args.others c.args.tally.filled objects more t (omega arith) le e c.saturating_mul.result (omega arith)
