use Rattle.std.proofs.Common.{◌≡◌, ℕ, List, ap, sym, subst, ◌∙◌}
use Rattle.std.specs.Prelude.{filter_map}
use Rattle.dg_values.specs.Order.{text_cmp}
use Rattle.dg_values.specs.Ascending.{Ascends, ascending}
use Rattle.dg_sets.proofs.MadeOrders.{text_order}
use Rattle.dg_graph.proofs.Passing.{ascending_ascends}
use Rattle.dg_funcs.specs.Tests.{token_text, value_terms}
use Rattle.dg_funcs.proofs.TestLaws.{term_texts}
use Rattle.dg_funcs.proofs.terms.terms_of_value.Goals as goal

pub of-requires : goal.of-requires
of-requires c =
    let e : c.in_ok-texts.texts.items ≡ ascending text_cmp (value_terms c.args.value.now) =
    c.in_ok-texts.ensures ∙ (ap (filter_map token_text) c.in_ok-tokens.ensures ∙ term_texts c.args.value.now) in
    subst (λ (xs : List (List ℕ)). Ascends text_cmp xs) (sym e) (ascending_ascends text_cmp text_order (value_terms c.args.value.now))

pub returns : goal.returns
returns c =
    c.of.ensures ∙ (c.in_ok-texts.ensures ∙ (ap (filter_map token_text) c.in_ok-tokens.ensures ∙ term_texts c.args.value.now))
