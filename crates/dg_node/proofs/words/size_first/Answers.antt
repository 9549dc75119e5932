use Rattle.std.proofs.Common.{arith}
use Rattle.dg_node.proofs.words.size_first.Goals as goal

pub returns-in_err-size-clause-none : goal.returns-in_err-size-clause-none
returns-in_err-size-clause-none c = rw c.from_residual.ensures (λ seed size most least greatest both. c.in_err-size.ensures.none size both.0 least (omega arith) both.1)
