use Rattle.std.proofs.Common.{arith}
use Rattle.dg_node.proofs.WordLemmas.{outside}
use Rattle.dg_node.proofs.words.number_within.Goals as goal

pub returns-else-least-number-clause-none : goal.returns-else-least-number-clause-none
returns-else-least-number-clause-none c = λ n low high.
    outside c.args.digits.now c.in_ok-number.number n c.args.least c.args.most c.in_ok-number.ensures.found.0 c.in_ok-number.ensures.found.1 c.ranges.most.fits c.else-least-number.either low high
