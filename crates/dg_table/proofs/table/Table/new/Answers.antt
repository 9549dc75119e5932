use Rattle.std.proofs.Common.{sym, ◌∙◌, refl}
use Rattle.std.proofs.lemmas.Bool.{true≢false, false≢true}
use Rattle.dg_table.proofs.TestLemmas.{IsOneToOne-from_test, HasDouble-from_test, not_both}
use Rattle.dg_table.proofs.table.Table.new.Goals as goal

pub invariant_of-result : goal.invariant_of-result
invariant_of-result g c = IsOneToOne-from_test _ (sym c.is_one_to_one.ensures ∙ c.if-is_one_to_one.true)

pub returns-then-is_one_to_one-clause-some : goal.returns-then-is_one_to_one-clause-some
returns-then-is_one_to_one-clause-some g c =
    ((λ _. IsOneToOne-from_test _ (sym c.is_one_to_one.ensures ∙ c.if-is_one_to_one.true)), λ _. refl)

pub returns-then-is_one_to_one-clause-none : goal.returns-then-is_one_to_one-clause-none
returns-then-is_one_to_one-clause-none g c = (
  (λ no. absurd (true≢false no)),
  λ double. absurd (not_both _ (IsOneToOne-from_test _ (sym c.is_one_to_one.ensures ∙ c.if-is_one_to_one.true)) double),
)

pub returns-else-is_one_to_one-clause-some : goal.returns-else-is_one_to_one-clause-some
returns-else-is_one_to_one-clause-some g c = (
  (λ no. absurd (false≢true no)),
  λ one. absurd (not_both _ one (HasDouble-from_test _ (sym c.is_one_to_one.ensures ∙ c.if-is_one_to_one.false))),
)

pub returns-else-is_one_to_one-clause-none : goal.returns-else-is_one_to_one-clause-none
returns-else-is_one_to_one-clause-none g c =
    ((λ _. HasDouble-from_test _ (sym c.is_one_to_one.ensures ∙ c.if-is_one_to_one.false)), λ _. refl)
