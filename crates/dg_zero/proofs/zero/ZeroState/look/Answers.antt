use Rattle.std.specs.Arc.{arc_value}
use Rattle.dg_zero.specs.Pasts.{entries}
use Rattle.dg_zero.proofs.Kept.{look_keeps}
use Rattle.dg_zero.proofs.zero.ZeroState.look.Goals as goal

pub invariant_of-self : goal.invariant_of-self
invariant_of-self c = rw c.append.ensures (look_keeps c.self.inside.groups c.self.inside.oracle c.self.inside.next_uid (arc_value c.self.inside.schema) c.self.inside.tablets.items (arc_value c.self.inside.owners) (entries c.self.inside.past) c.args.slip c.self.invariant)

pub returns-clause-legal : goal.returns-clause-legal
returns-clause-legal c = rw c.append.ensures (look_keeps c.self.inside.groups c.self.inside.oracle c.self.inside.next_uid (arc_value c.self.inside.schema) c.self.inside.tablets.items (arc_value c.self.inside.owners) (entries c.self.inside.past) c.args.slip c.self.invariant).legal
