use Rattle.std.proofs.Common.{◌≡◌, ◌∙◌, sym, ap, subst}
use Rattle.dg_keys.specs.Keys.{key_cmp, AreParts}
use Rattle.dg_pages.specs.Entries.{changed_all}
use Rattle.dg_pages.specs.Paged.{joined}
use Rattle.dg_txn.specs.Gains.{parts_from, entries_from}
use Rattle.dg_txn.proofs.OwnSteps.{entries_back, parts_again}
use Rattle.dg_txn.proofs.gains.Gains.after.Goals as goal

pub returns : goal.returns
returns c =
    let entries : joined c.self.inside.lists ≡ entries_from c.args.self.now = sym (entries_back (joined c.self.inside.lists)) ∙ ap entries_from c.self.view_is in
    ap parts_from (c.in_ok-with_changes.ensures ∙ (λ i. changed_all key_cmp (entries i) (c.in_ok-changes.ensures i)))

pub invariant_of-result : goal.invariant_of-result
invariant_of-result c =
    let own : AreParts c.args.self.now = subst AreParts c.self.view_is c.self.invariant in
    subst AreParts (sym (returns c))
    (parts_again c.args.self.now c.args.step.now own c.requires.step)
