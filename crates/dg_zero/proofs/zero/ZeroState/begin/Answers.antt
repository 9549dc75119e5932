use Rattle.std.specs.Arc.{arc_value}
use Rattle.dg_zero.specs.Pasts.{entries}
use Rattle.dg_zero.proofs.Kept.{look_keeps, begin_keeps}
use Rattle.dg_zero.proofs.zero.ZeroState.begin.Goals as goal

pub invariant_of-self : goal.invariant_of-self
invariant_of-self c = rw c.append.ensures (look_keeps c.self.inside.groups c.self.inside.oracle c.self.inside.next_uid (arc_value c.self.inside.schema) c.self.inside.tablets.items (arc_value c.self.inside.owners) (entries c.self.inside.past) c.args.slip c.self.invariant)

pub returns-in_default-clause-legal : goal.returns-in_default-clause-legal
returns-in_default-clause-legal c = rw c.append.ensures (look_keeps c.self.inside.groups c.self.inside.oracle c.self.inside.next_uid (arc_value c.self.inside.schema) c.self.inside.tablets.items (arc_value c.self.inside.owners) (entries c.self.inside.past) c.args.slip c.self.invariant).legal

pub invariant_of-self-in-Ok-begin : goal.invariant_of-self-in-Ok-begin
invariant_of-self-in-Ok-begin c =
    rw (c.append-in-Ok-begin.ensures, c.in-Ok-begin.ensures.ok, c.in-Ok-begin.ensures.start) (begin_keeps c.self.inside.groups c.self.inside.oracle c.self.inside.next_uid (arc_value c.self.inside.schema) c.self.inside.tablets.items (arc_value c.self.inside.owners) (entries c.self.inside.past) c.args.slip c.self.invariant c.in-Ok-begin.ensures.not_spent)

pub returns-in-Ok-begin-clause-legal : goal.returns-in-Ok-begin-clause-legal
returns-in-Ok-begin-clause-legal c =
    rw (c.append-in-Ok-begin.ensures, c.in-Ok-begin.ensures.start) (begin_keeps c.self.inside.groups c.self.inside.oracle c.self.inside.next_uid (arc_value c.self.inside.schema) c.self.inside.tablets.items (arc_value c.self.inside.owners) (entries c.self.inside.past) c.args.slip c.self.invariant c.in-Ok-begin.ensures.not_spent).legal

pub invariant_of-self-in-Err-begin : goal.invariant_of-self-in-Err-begin
invariant_of-self-in-Err-begin c =
    rw (c.append-in-Err.ensures, c.in-Err.ensures.err) (look_keeps c.self.inside.groups c.self.inside.oracle c.self.inside.next_uid (arc_value c.self.inside.schema) c.self.inside.tablets.items (arc_value c.self.inside.owners) (entries c.self.inside.past) c.args.slip c.self.invariant)

pub returns-in-Err-clause-legal : goal.returns-in-Err-clause-legal
returns-in-Err-clause-legal c =
    rw c.append-in-Err.ensures (look_keeps c.self.inside.groups c.self.inside.oracle c.self.inside.next_uid (arc_value c.self.inside.schema) c.self.inside.tablets.items (arc_value c.self.inside.owners) (entries c.self.inside.past) c.args.slip c.self.invariant).legal
