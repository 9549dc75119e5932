use Rattle.std.proofs.Common.{◌≡◌, ◌∙◌, sym, ap, subst, false}
use Rattle.std.specs.Arc.{arc_value}
use Rattle.std.specs.Ordering.{is_lt}
use Rattle.dg_pages.specs.Entries.{entries_of, entries_above, AreFirst}
use Rattle.dg_pages.specs.Nodes.{pages_of, IsForked}
use Rattle.dg_pages.specs.Paged.{joined}
use Rattle.dg_pages.proofs.RunsAbove.{first_left, first_right, first_high}
use Rattle.dg_pages.proofs.tree.Tree.+run_above.Goals as goal

pub returns-then-is_empty-clause-run : goal.returns-then-is_empty-clause-run
returns-then-is_empty-clause-run g t c =
    let is = ap pages_of (sym c.in-Fork.is) ∙ c.self.view_is in
    let left = subst (λ pages. AreFirst (entries_of c.run_above-run.result.now) (entries_above g.K.Ord.cmp c.args.key.now (joined pages))) c.deref-then-is_lt.ensures c.run_above-run.ensures.run in
    let right = subst (λ pages. AreFirst (entries_of c.run_above.result.now) (entries_above g.K.Ord.cmp c.args.key.now (joined pages))) c.deref-then-is_empty.ensures c.run_above.ensures.run in
    subst (λ pages. AreFirst (entries_of c.run_above.result.now) (entries_above g.K.Ord.cmp c.args.key.now (joined pages))) is
    (first_right g.met.K.Ord.total c.args.key.now (arc_value c.in-Fork.left) (arc_value c.in-Fork.right) c.run_above-run.result.now c.run_above.result.now (sym c.is_empty.ensures ∙ c.if-is_empty.true) left right)

pub returns-else-is_empty-clause-run : goal.returns-else-is_empty-clause-run
returns-else-is_empty-clause-run g t c =
    let is = ap pages_of (sym c.in-Fork.is) ∙ c.self.view_is in
    let left = subst (λ pages. AreFirst (entries_of c.run_above-run.result.now) (entries_above g.K.Ord.cmp c.args.key.now (joined pages))) c.deref-then-is_lt.ensures c.run_above-run.ensures.run in
    subst (λ pages. AreFirst (entries_of c.run_above-run.result.now) (entries_above g.K.Ord.cmp c.args.key.now (joined pages))) is
    (first_left g.met.K.Ord.total c.args.key.now (arc_value c.in-Fork.left) (arc_value c.in-Fork.right) c.run_above-run.result.now (sym c.is_empty.ensures ∙ c.if-is_empty.false) left)

pub returns-else-is_lt-clause-run : goal.returns-else-is_lt-clause-run
returns-else-is_lt-clause-run g t c =
    let is = ap pages_of (sym c.in-Fork.is) ∙ c.self.view_is in
    let forked = subst (IsForked g.K.Ord.cmp) c.in-Fork.is c.self.invariant.forked in
    let high : is_lt (g.K.Ord.cmp c.args.key.now (arc_value c.in-Fork.middle)) ≡ false = ap is_lt (sym (c.cmp.ensures ∙ ap (g.K.Ord.cmp c.args.key.now) c.deref.ensures)) ∙ sym c.is_lt.ensures ∙ c.if-is_lt.false in
    let right = subst (λ pages. AreFirst (entries_of c.run_above-else-is_lt.result.now) (entries_above g.K.Ord.cmp c.args.key.now (joined pages))) c.deref-else-is_lt.ensures c.run_above-else-is_lt.ensures.run in
    subst (λ pages. AreFirst (entries_of c.run_above-else-is_lt.result.now) (entries_above g.K.Ord.cmp c.args.key.now (joined pages))) is
    (first_high g.met.K.Ord.total c.args.key.now (arc_value c.in-Fork.middle) (arc_value c.in-Fork.left) (arc_value c.in-Fork.right) c.run_above-else-is_lt.result.now high forked.1.1.0 right)
