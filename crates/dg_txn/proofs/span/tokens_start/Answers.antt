use Rattle.std.proofs.Common.{sym, ap, ◌∙◌}
use Rattle.std.specs.Prelude.{None, Some}
use Rattle.dg_keys.specs.declared.key.Key.TheVariants.{Index}
use Rattle.dg_txn.proofs.SpanLaws.{lower_end, tokens_start, below_tokens}
use Rattle.dg_txn.proofs.span.tokens_start.Goals as goal

pub returns-in-None : goal.returns-in-None
returns-in-None c = λ high. lower_end c.args.pred c.args.tokenizer c.args.low.now None high c.before_tokens.result c.in-None.is (below_tokens c.args.pred c.args.tokenizer high c.before_tokens.result c.before_tokens.ensures)

pub returns-in_ok-copy-in-Some : goal.returns-in_ok-copy-in-Some
returns-in_ok-copy-in-Some c = λ high.
    let low = c.in_ok-copy-in-Some.field-0 in
    lower_end c.args.pred c.args.tokenizer c.args.low.now (Some low) high (Index c.args.pred (record { tokenizer = c.args.tokenizer; value = low })) (c.in-Some.is ∙ ap (λ v. Some v) (sym c.in_ok-copy-in-Some.ensures)) (tokens_start c.args.pred c.args.tokenizer low high)
