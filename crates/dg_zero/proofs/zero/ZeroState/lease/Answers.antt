use Rattle.std.proofs.Common.{sym, ◌∙◌}
use Rattle.std.specs.Arc.{arc_value}
use Rattle.dg_zero.specs.Pasts.{entries}
use Rattle.dg_zero.proofs.Kept.{look_keeps}
use Rattle.dg_zero.proofs.Leases.{leased_keeps}
use Rattle.dg_zero.proofs.zero.ZeroState.lease.Goals as goal

pub invariant_of-self : goal.invariant_of-self
invariant_of-self c =
    leased_keeps c.self.inside.groups c.self.inside.oracle c.self.inside.next_uid (arc_value c.self.inside.schema) c.self.inside.tablets.items (arc_value c.self.inside.owners) (entries c.self.inside.past) c.args.slip c.self.invariant c.args.top c.args.count c.in-Some.first _ (sym c.in-Some.is ∙ c.first_of.ensures.first) c.append.ensures

pub returns-in-Some-clause-legal : goal.returns-in-Some-clause-legal
returns-in-Some-clause-legal c =
    (leased_keeps c.self.inside.groups c.self.inside.oracle c.self.inside.next_uid (arc_value c.self.inside.schema) c.self.inside.tablets.items (arc_value c.self.inside.owners) (entries c.self.inside.past) c.args.slip c.self.invariant c.args.top c.args.count c.in-Some.first _ (sym c.in-Some.is ∙ c.first_of.ensures.first) c.append.ensures).legal

pub invariant_of-self-in-None : goal.invariant_of-self-in-None
invariant_of-self-in-None c =
    rw c.append-in-None.ensures (look_keeps c.self.inside.groups c.self.inside.oracle c.self.inside.next_uid (arc_value c.self.inside.schema) c.self.inside.tablets.items (arc_value c.self.inside.owners) (entries c.self.inside.past) c.args.slip c.self.invariant)

pub returns-in-None-clause-legal : goal.returns-in-None-clause-legal
returns-in-None-clause-legal c =
    rw c.append-in-None.ensures (look_keeps c.self.inside.groups c.self.inside.oracle c.self.inside.next_uid (arc_value c.self.inside.schema) c.self.inside.tablets.items (arc_value c.self.inside.owners) (entries c.self.inside.past) c.args.slip c.self.invariant).legal
