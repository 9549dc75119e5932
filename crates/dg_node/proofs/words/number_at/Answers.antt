use Rattle.std.specs.Fmt.{decimal}
use Rattle.dg_node.proofs.WordLemmas.{sets_once}
use Rattle.dg_node.proofs.words.number_at.Goals as goal

pub returns-in_err-value-clause-none : goal.returns-in_err-value-clause-none
returns-in_err-value-clause-none c = rw c.from_residual.ensures (λ n rest low high. c.in_err-value.ensures.none (decimal n) rest)

pub returns-in_err-number-clause-none : goal.returns-in_err-number-clause-none
returns-in_err-number-clause-none c = rw c.from_residual-in_err-number.ensures (λ n rest low high sets. c.in_err-number.ensures.none n low high (sets_once c.args.option.now _ (decimal n) _ _ rest c.in_ok-value.ensures.found sets).0)
