use Rattle.std.proofs.Common.{◌≡◌, subst}
use Rattle.std.specs.Prelude.{IfOk, OnErr}
use Rattle.dg_wire.specs.declared.reply.Reply.{Reply}
use Rattle.dg_node.specs.Alters.{alters}
use Rattle.dg_node.specs.Held.{Held}
use Rattle.dg_node.specs.Machine.{Machine}
use Rattle.dg_node.specs.State.{Leads, Stays}
use Rattle.dg_node.proofs.Slots.{held_by}
use Rattle.dg_node.proofs.Tabled.{alter_kept_by, alter_leads_by, alter_stays_by}
use Rattle.dg_node.proofs.engine.Engine.alter.Goals as goal

pub invariant_of-self : goal.invariant_of-self
invariant_of-self c = alter_kept_by c.self.inside.cluster c.alter.new.cluster c.self.inside.slots.items (λ (p : Reply) (m n : Machine). ◌≡◌ {A = Reply × Machine} (alters m c.args.body.now) (p, n)) c.alter.result c.alter.ensures.ok c.alter.ensures.err c.alter.ensures.legal c.self.invariant

pub returns-clause-ok : goal.returns-clause-ok
returns-clause-ok c =
    let z = c.self.inside.cluster in
    let slots = c.self.inside.slots.items in
    subst (λ (h : Held). IfOk c.alter.result (λ (p : Reply). Leads h (λ (m n : Machine). ◌≡◌ {A = Reply × Machine} (alters m c.args.body.now) (p, n)) (held_by c.alter.new.cluster slots))) c.self.view_is
    (alter_leads_by z c.alter.new.cluster slots (λ (p : Reply) (m n : Machine). ◌≡◌ {A = Reply × Machine} (alters m c.args.body.now) (p, n)) c.alter.result c.alter.ensures.ok c.at_rest.ensures.rest c.self.invariant)

pub returns-clause-err : goal.returns-clause-err
returns-clause-err c =
    let z = c.self.inside.cluster in
    let slots = c.self.inside.slots.items in
    subst (λ (h : Held). OnErr c.alter.result (Stays h (held_by c.alter.new.cluster slots))) c.self.view_is
    (alter_stays_by z c.alter.new.cluster slots (λ (p : Reply) (m n : Machine). ◌≡◌ {A = Reply × Machine} (alters m c.args.body.now) (p, n)) c.alter.result c.alter.ensures.err c.at_rest.ensures.rest c.self.invariant)
