use Rattle.std.proofs.Common.{◌∙◌, rules, ap, sym}
use Rattle.std.specs.Arc.{arc_value}
use Rattle.dg_zero.specs.Pasts.{entries}
use Rattle.dg_zero.specs.States.{Zero}
use Rattle.dg_zero.proofs.Kept.{absent_keeps}
use Rattle.dg_zero.proofs.Committing.{ended}
use Rattle.dg_zero.proofs.zero.ZeroState.end.Goals as goal

pub invariant_of-self : goal.invariant_of-self
invariant_of-self c = rw (c.append.ensures, c.end.ensures.ended) (ended c.self.inside.groups c.self.inside.oracle c.self.inside.next_uid (arc_value c.self.inside.schema) c.self.inside.tablets.items (arc_value c.self.inside.owners) (entries c.self.inside.past) c.args.self.now.history (ap (λ (z : Zero). z.history) c.self.view_is) c.args.slip c.args.start c.self.invariant (sym c.end.ensures.was_active ∙ c.if-end.true) c.requires.author)

pub returns-then-end-clause-legal : goal.returns-then-end-clause-legal
returns-then-end-clause-legal c = rw c.append.ensures (ended c.self.inside.groups c.self.inside.oracle c.self.inside.next_uid (arc_value c.self.inside.schema) c.self.inside.tablets.items (arc_value c.self.inside.owners) (entries c.self.inside.past) c.args.self.now.history (ap (λ (z : Zero). z.history) c.self.view_is) c.args.slip c.args.start c.self.invariant (sym c.end.ensures.was_active ∙ c.if-end.true) c.requires.author).legal

pub invariant_of-self-else-end : goal.invariant_of-self-else-end
invariant_of-self-else-end c = rw c.append-else-end.ensures (absent_keeps c.self.inside.groups c.self.inside.oracle c.self.inside.next_uid (arc_value c.self.inside.schema) c.self.inside.tablets.items (arc_value c.self.inside.owners) (entries c.self.inside.past) c.args.slip c.self.invariant c.args.start c.end.new.self (search rules))

pub returns-else-end-clause-legal : goal.returns-else-end-clause-legal
returns-else-end-clause-legal c = rw c.append-else-end.ensures (absent_keeps c.self.inside.groups c.self.inside.oracle c.self.inside.next_uid (arc_value c.self.inside.schema) c.self.inside.tablets.items (arc_value c.self.inside.owners) (entries c.self.inside.past) c.args.slip c.self.invariant c.args.start c.end.new.self (search rules)).legal
