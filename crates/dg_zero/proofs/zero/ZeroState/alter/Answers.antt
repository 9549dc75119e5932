use Rattle.std.proofs.Common.{◌≡◌, ◌∙◌, ◌+◌, ◌<◌, ◌^◌, ap, arith}
use Rattle.std.specs.Arc.{arc_value}
use Rattle.dg_keys.specs.declared.record.Record.{Record}
use Rattle.dg_zero.specs.Counters.{next}
use Rattle.dg_zero.specs.Pasts.{entries}
use Rattle.dg_zero.specs.States.{Zero, and_entry}
use Rattle.dg_zero.specs.declared.entry.Event.TheVariants.{Alter}
use Rattle.dg_zero.proofs.Kept.{look_keeps}
use Rattle.dg_zero.proofs.AlterKeeps.{altered_keeps, held_nowhere}
use Rattle.dg_zero.proofs.zero.ZeroState.alter.Goals as goal

pub invariant_of-self : goal.invariant_of-self
invariant_of-self c = rw c.append.ensures (look_keeps c.self.inside.groups c.self.inside.oracle c.self.inside.next_uid (arc_value c.self.inside.schema) c.self.inside.tablets.items (arc_value c.self.inside.owners) (entries c.self.inside.past) c.args.slip c.self.invariant)

pub returns-in-Err-clause-legal : goal.returns-in-Err-clause-legal
returns-in-Err-clause-legal c = rw c.append.ensures (look_keeps c.self.inside.groups c.self.inside.oracle c.self.inside.next_uid (arc_value c.self.inside.schema) c.self.inside.tablets.items (arc_value c.self.inside.owners) (entries c.self.inside.past) c.args.slip c.self.invariant).legal

pub invariant_of-self-in_default : goal.invariant_of-self-in_default
invariant_of-self-in_default c = rw (c.append-in_default.ensures, c.alter_room.ensures.same) (look_keeps c.self.inside.groups c.self.inside.oracle c.self.inside.next_uid (arc_value c.self.inside.schema) c.self.inside.tablets.items (arc_value c.self.inside.owners) (entries c.self.inside.past) c.args.slip c.self.invariant)

pub returns-in_default-clause-legal : goal.returns-in_default-clause-legal
returns-in_default-clause-legal c = rw (c.append-in_default.ensures, c.alter_room.ensures.same) (look_keeps c.self.inside.groups c.self.inside.oracle c.self.inside.next_uid (arc_value c.self.inside.schema) c.self.inside.tablets.items (arc_value c.self.inside.owners) (entries c.self.inside.past) c.args.slip c.self.invariant).legal

pub invariant_of-self-in-Ok-added : goal.invariant_of-self-in-Ok-added
invariant_of-self-in-Ok-added c =
    let at : c.self.inside.oracle.next ≡ next c.args.self.now.history = c.self.invariant.next_is ∙ ap (λ (z : Zero). next z.history) c.self.view_is in
    let below : c.self.inside.oracle.next + 1 < 2 ^ 62 = omega (arith, at, c.in-Ok.ensures.not_spent) in
    let written : Record = record { ts = c.draw-start.result.1; fresh = c.in-Ok.altered.fresh; parts = c.args.parts } in
    let past_is : entries c.append_with.new.past ≡ and_entry (entries c.self.inside.past) c.args.slip (Alter c.draw-start.result.0 c.in-Ok.altered.newer written) = c.append_with.ensures ∙ (λ i. and_entry (c.alter_room.ensures.same i) c.args.slip (c.altered_what-what.ensures.event (entries c.alter_room.new.past) written i)) in
    altered_keeps c.self.inside.groups c.self.inside.oracle c.self.inside.next_uid (arc_value c.self.inside.schema) c.self.inside.tablets.items (arc_value c.self.inside.owners) (entries c.self.inside.past) c.args.self.now (ap (λ (z : Zero). z.groups) c.self.view_is) (ap (λ (z : Zero). z.history) c.self.view_is) c.args.slip c.self.invariant c.args.newer.now c.args.parts c.in-Ok.altered c.draw-start.result.0 c.draw-start.result.1 c.draw-start.new.oracle (arc_value c.add_all-added.new.schema) c.add_all-added.new.tablets.items (arc_value c.add_all-added.new.owners) (entries c.append_with.new.past) c.in-Ok.ensures.ok c.requires.author c.in-Ok.ensures.none_active below c.requires.kinds c.requires.parts c.draw-start.ensures.start c.draw-start.ensures.ts c.draw-start.ensures.drawn c.in-Ok-added.ensures.schema c.in-Ok-added.ensures.tablets c.in-Ok-added.ensures.owners past_is

pub invariant_of-self-in-Err-added : goal.invariant_of-self-in-Err-added
invariant_of-self-in-Err-added c =
    rw (c.append-in-Err-added.ensures, c.alter_room.ensures.same, c.in-Err-added.ensures.err_schema, c.in-Err-added.ensures.err_owners, c.in-Err-added.ensures.err_tablets) (look_keeps c.self.inside.groups c.self.inside.oracle c.self.inside.next_uid (arc_value c.self.inside.schema) c.self.inside.tablets.items (arc_value c.self.inside.owners) (entries c.self.inside.past) c.args.slip c.self.invariant)

pub returns-in-Ok-added-clause-none_held : goal.returns-in-Ok-added-clause-none_held
returns-in-Ok-added-clause-none_held c = held_nowhere c.self.inside.groups c.self.inside.oracle c.self.inside.next_uid (arc_value c.self.inside.schema) c.self.inside.tablets.items (arc_value c.self.inside.owners) (entries c.self.inside.past) c.args.self.now (ap (λ (z : Zero). z.groups) c.self.view_is) (ap (λ (z : Zero). z.history) c.self.view_is) c.args.slip c.self.invariant c.args.newer.now

pub returns-in-Ok-added-clause-legal : goal.returns-in-Ok-added-clause-legal
returns-in-Ok-added-clause-legal c =
    let at : c.self.inside.oracle.next ≡ next c.args.self.now.history = c.self.invariant.next_is ∙ ap (λ (z : Zero). next z.history) c.self.view_is in
    let below : c.self.inside.oracle.next + 1 < 2 ^ 62 = omega (arith, at, c.in-Ok.ensures.not_spent) in
    let written : Record = record { ts = c.draw-start.result.1; fresh = c.in-Ok.altered.fresh; parts = c.args.parts } in
    let past_is : entries c.append_with.new.past ≡ and_entry (entries c.self.inside.past) c.args.slip (Alter c.draw-start.result.0 c.in-Ok.altered.newer written) = c.append_with.ensures ∙ (λ i. and_entry (c.alter_room.ensures.same i) c.args.slip (c.altered_what-what.ensures.event (entries c.alter_room.new.past) written i)) in
    (altered_keeps c.self.inside.groups c.self.inside.oracle c.self.inside.next_uid (arc_value c.self.inside.schema) c.self.inside.tablets.items (arc_value c.self.inside.owners) (entries c.self.inside.past) c.args.self.now (ap (λ (z : Zero). z.groups) c.self.view_is) (ap (λ (z : Zero). z.history) c.self.view_is) c.args.slip c.self.invariant c.args.newer.now c.args.parts c.in-Ok.altered c.draw-start.result.0 c.draw-start.result.1 c.draw-start.new.oracle (arc_value c.add_all-added.new.schema) c.add_all-added.new.tablets.items (arc_value c.add_all-added.new.owners) (entries c.append_with.new.past) c.in-Ok.ensures.ok c.requires.author c.in-Ok.ensures.none_active below c.requires.kinds c.requires.parts c.draw-start.ensures.start c.draw-start.ensures.ts c.draw-start.ensures.drawn c.in-Ok-added.ensures.schema c.in-Ok-added.ensures.tablets c.in-Ok-added.ensures.owners past_is).legal

pub returns-in-Err-added-clause-legal : goal.returns-in-Err-added-clause-legal
returns-in-Err-added-clause-legal c = rw (c.append-in-Err-added.ensures, c.alter_room.ensures.same) (look_keeps c.self.inside.groups c.self.inside.oracle c.self.inside.next_uid (arc_value c.self.inside.schema) c.self.inside.tablets.items (arc_value c.self.inside.owners) (entries c.self.inside.past) c.args.slip c.self.invariant).legal
