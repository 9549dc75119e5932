use Rattle.std.proofs.Common.{◌≡◌, ℕ, ◌<◌, List, ◌++◌, length, sym, ap, ◌∙◌, subst}
use Rattle.std.specs.Fmt.{signed_decimal}
use Rattle.std.proofs.lemmas.Result.{on_ok_weaker}
use Rattle.dg_level.specs.declared.folds.Found.{Found}
use Rattle.dg_level.specs.Aggregates.{aggregate}
use Rattle.dg_level.specs.PlannedAggregates.{text_where}
use Rattle.dg_level.proofs.AggregateLaws.{sum_text}
use Rattle.dg_level.proofs.aggregates.push_found.Goals as goal

pub returns-in-Sum-clause-ok : goal.returns-in-Sum-clause-ok
returns-in-Sum-clause-ok c = λ values some is.
    let text : signed_decimal c.args.found.now.sum ≡ text_where (aggregate c.args.op values) = sum_text values some _ (ap (λ (f : Found). signed_decimal f.sum) is) ∙ ap (λ op. text_where (aggregate op values)) (sym c.in-Sum.is) in
    on_ok_weaker c.push_sum.result (λ e. e ∙ ap (λ t. c.args.out.now ++ t) text) c.push_sum.ensures.ok

pub returns-in-Sum-clause-too_large : goal.returns-in-Sum-clause-too_large
returns-in-Sum-clause-too_large c = λ values some is e.
    let text : signed_decimal c.args.found.now.sum ≡ text_where (aggregate c.args.op values) = sum_text values some _ (ap (λ (f : Found). signed_decimal f.sum) is) ∙ ap (λ op. text_where (aggregate op values)) (sym c.in-Sum.is) in
    subst (λ (t : List ℕ). 16777216 < length (c.args.out.now ++ t)) text (c.push_sum.ensures.too_large e)
