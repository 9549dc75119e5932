use Rattle.std.proofs.Common.{arith}
use Rattle.dg_node.proofs.words.seed_first.Goals as goal

pub returns-in_err-seed-clause-none : goal.returns-in_err-seed-clause-none
returns-in_err-seed-clause-none c = rw c.from_residual.ensures (λ seed size most least greatest both. c.in_err-seed.ensures.none seed both.0 (omega arith) (omega arith) both.1)
