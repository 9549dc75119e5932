use Rattle.std.proofs.Common.{[]}
use Rattle.dg_node.proofs.words.last_number.Goals as goal

pub returns-in_err-number-clause-none : goal.returns-in_err-number-clause-none
returns-in_err-number-clause-none c = rw c.from_residual.ensures (λ n low high. c.in_err-number.ensures.none n [] low high)
