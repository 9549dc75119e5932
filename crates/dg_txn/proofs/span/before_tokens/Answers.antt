use Rattle.dg_values.specs.declared.value.Value.TheVariants.{Time}
use Rattle.dg_txn.proofs.SpanLaws.{data_below, token_below}
use Rattle.dg_txn.proofs.span.before_tokens.Goals as goal

pub returns-in-None : goal.returns-in-None
returns-in-None c = λ p t e f. data_below c.args.pred 18446744073709551615 p t e

pub returns-in-Some : goal.returns-in-Some
returns-in-Some c = λ p t e f. token_below c.args.pred c.in-Some.before c.args.tokenizer (Time c.new.result) p t c.in-Some.ensures e f
