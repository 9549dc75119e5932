use Rattle.std.proofs.Common.{◌≡◌, ◌∙◌, sym, ap, subst, false}
use Rattle.std.specs.Arc.{arc_value}
use Rattle.std.specs.Option.{option_or}
use Rattle.std.specs.Ordering.{is_lt}
use Rattle.dg_pages.specs.Entries.{entry_above}
use Rattle.dg_pages.specs.Nodes.{pages_of, IsForked}
use Rattle.dg_pages.specs.Paged.{joined}
use Rattle.dg_pages.proofs.AboveLemmas.{above_both, above_high}
use Rattle.dg_pages.proofs.tree.Tree.+next_above.Goals as goal

pub returns-in-Some-clause-next : goal.returns-in-Some-clause-next
returns-in-Some-clause-next g t c =
    let is = ap pages_of (sym c.in-Fork.is) ∙ c.self.view_is in
    ap (λ p. option_or p (entry_above g.K.Ord.cmp c.args.key.now (joined (arc_value c.in-Fork.right)))) (c.in-Some.ensures.next ∙ ap (λ pages. entry_above g.K.Ord.cmp c.args.key.now (joined pages)) c.deref-then-is_lt.ensures)
    ∙ above_both g.met.K.Ord.total c.args.key.now (arc_value c.in-Fork.left) (arc_value c.in-Fork.right)
    ∙ ap (λ pages. entry_above g.K.Ord.cmp c.args.key.now (joined pages)) is

pub returns-in-None-clause-next : goal.returns-in-None-clause-next
returns-in-None-clause-next g t c =
    let is = ap pages_of (sym c.in-Fork.is) ∙ c.self.view_is in
    c.next_above-in-None.ensures.next
    ∙ ap (λ pages. entry_above g.K.Ord.cmp c.args.key.now (joined pages)) c.deref-in-None.ensures
    ∙ ap (λ p. option_or p (entry_above g.K.Ord.cmp c.args.key.now (joined (arc_value c.in-Fork.right)))) (c.in-None.ensures.next ∙ ap (λ pages. entry_above g.K.Ord.cmp c.args.key.now (joined pages)) c.deref-then-is_lt.ensures)
    ∙ above_both g.met.K.Ord.total c.args.key.now (arc_value c.in-Fork.left) (arc_value c.in-Fork.right)
    ∙ ap (λ pages. entry_above g.K.Ord.cmp c.args.key.now (joined pages)) is

pub returns-else-is_lt-clause-next : goal.returns-else-is_lt-clause-next
returns-else-is_lt-clause-next g t c =
    let is = ap pages_of (sym c.in-Fork.is) ∙ c.self.view_is in
    let forked = subst (IsForked g.K.Ord.cmp) c.in-Fork.is c.self.invariant.forked in
    let high : is_lt (g.K.Ord.cmp c.args.key.now (arc_value c.in-Fork.middle)) ≡ false = ap is_lt (sym (c.cmp.ensures ∙ ap (g.K.Ord.cmp c.args.key.now) c.deref.ensures)) ∙ sym c.is_lt.ensures ∙ c.if-is_lt.false in
    c.next_above-else-is_lt.ensures.next
    ∙ ap (λ pages. entry_above g.K.Ord.cmp c.args.key.now (joined pages)) c.deref-else-is_lt.ensures
    ∙ above_high g.met.K.Ord.total c.args.key.now (arc_value c.in-Fork.middle) (arc_value c.in-Fork.left) (arc_value c.in-Fork.right) high forked.1.1.0
    ∙ ap (λ pages. entry_above g.K.Ord.cmp c.args.key.now (joined pages)) is
