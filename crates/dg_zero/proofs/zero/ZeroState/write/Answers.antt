use Rattle.std.proofs.Common.{◌≡◌, ◌∙◌, ℕ, List, None, ap, subst}
use Rattle.std.specs.Arc.{arc_value}
use Rattle.dg_keys.proofs.Ascents.{sorted_from_ascends}
use Rattle.dg_oracle.specs.Faults as faults
use Rattle.dg_zero.specs.declared.entry.Entry.{Entry}
use Rattle.dg_zero.specs.declared.entry.Event.TheVariants.{Look}
use Rattle.dg_zero.specs.declared.offer.Offer.{Offer}
use Rattle.dg_zero.specs.Chains.{event_of, offer_of}
use Rattle.dg_zero.specs.Counters.{next}
use Rattle.dg_zero.specs.Pasts.{entries}
use Rattle.dg_zero.specs.States.{Zero, and_entry, commit_of}
use Rattle.dg_zero.specs.Verdicts.{verdict}
use Rattle.dg_zero.proofs.Kept.{look_keeps}
use Rattle.dg_zero.proofs.Committing.{oracle_active, clear, committed, drawn_refused, made_of_room}
use Rattle.dg_zero.proofs.zero.ZeroState.write.Goals as goal

pub invariant_of-self : goal.invariant_of-self
invariant_of-self c = rw (c.append.ensures, c.room_for.ensures.same) (look_keeps c.self.inside.groups c.self.inside.oracle c.self.inside.next_uid (arc_value c.self.inside.schema) c.self.inside.tablets.items (arc_value c.self.inside.owners) (entries c.self.inside.past) c.args.slip c.self.invariant)

pub returns-in-Err-clause-legal : goal.returns-in-Err-clause-legal
returns-in-Err-clause-legal c = rw (c.append.ensures, c.room_for.ensures.same) (look_keeps c.self.inside.groups c.self.inside.oracle c.self.inside.next_uid (arc_value c.self.inside.schema) c.self.inside.tablets.items (arc_value c.self.inside.owners) (entries c.self.inside.past) c.args.slip c.self.invariant).legal

pub commit-requires-clause-active : goal.commit-requires-clause-active
commit-requires-clause-active c = oracle_active c.self.inside.groups c.self.inside.oracle c.self.inside.next_uid (arc_value c.self.inside.schema) c.self.inside.tablets.items (arc_value c.self.inside.owners) (entries c.self.inside.past) c.args.self.now.history (ap (λ (z : Zero). z.history) c.self.view_is) c.args.slip c.args.offer c.self.invariant c.requires.active

pub commit-requires-clause-ascend : goal.commit-requires-clause-ascend
commit-requires-clause-ascend c = rw (ap (λ (o : Offer). o.keys) c.in-Ok.ensures.ok) (sorted_from_ascends c.args.offer.keys c.requires.sound.ascend)

pub invariant_of-self-in-Err-commit : goal.invariant_of-self-in-Err-commit
invariant_of-self-in-Err-commit c = rw (c.append-in-Err-commit.ensures, c.room_for.ensures.same, c.in-Err-commit.ensures.err) (look_keeps c.self.inside.groups c.self.inside.oracle c.self.inside.next_uid (arc_value c.self.inside.schema) c.self.inside.tablets.items (arc_value c.self.inside.owners) (entries c.self.inside.past) c.args.slip c.self.invariant)

pub returns-in-Err-commit-clause-fault : goal.returns-in-Err-commit-clause-fault
returns-in-Err-commit-clause-fault c =
    let at : c.self.inside.oracle.next ≡ next c.args.self.now.history = c.self.invariant.next_is ∙ ap (λ (z : Zero). next z.history) c.self.view_is in
    let none : verdict c.args.self.now.history c.args.offer.start c.args.offer.preds c.args.offer.keys ≡ None = clear c.self.inside.groups c.self.inside.oracle c.self.inside.next_uid (arc_value c.self.inside.schema) c.self.inside.tablets.items (arc_value c.self.inside.owners) (entries c.self.inside.past) c.args.self.now.history (ap (λ (z : Zero). z.history) c.self.view_is) c.args.slip c.args.offer c.self.invariant c.requires.active c.requires.judged in
    let back : c.offer_from-offer.result ≡ c.args.offer = c.offer_from-offer.ensures ∙ ((λ i. offer_of (c.into_inner.ensures i) (c.in-Err-commit.ensures.back i) c.in-Ok.room.2) ∙ c.in-Ok.ensures.ok) in
    let past : entries c.append-in-Err-commit.new.past ≡ and_entry c.args.self.now.history c.args.slip Look = c.append-in-Err-commit.ensures ∙ ap (λ (h : List Entry). and_entry h c.args.slip Look) (c.room_for.ensures.same ∙ ap (λ (z : Zero). z.history) c.self.view_is) in
    rw (c.refused_draw.ensures, back) (drawn_refused c.args.self.now _ c.args.slip c.args.offer c.in-Err-commit.fault none (subst (λ (n : ℕ). faults.IsFaultAt n c.in-Err-commit.fault) at c.in-Err-commit.ensures.fault) (λ i. record { groups = (c.self.view_is i).groups; history = past i }))

pub returns-in-Err-commit-clause-legal : goal.returns-in-Err-commit-clause-legal
returns-in-Err-commit-clause-legal c = rw (c.append-in-Err-commit.ensures, c.room_for.ensures.same) (look_keeps c.self.inside.groups c.self.inside.oracle c.self.inside.next_uid (arc_value c.self.inside.schema) c.self.inside.tablets.items (arc_value c.self.inside.owners) (entries c.self.inside.past) c.args.slip c.self.invariant).legal

pub invariant_of-self-in-Ok-commit : goal.invariant_of-self-in-Ok-commit
invariant_of-self-in-Ok-commit c =
    let same : entries c.room_for.new.past ≡ c.args.self.now.history = c.room_for.ensures.same ∙ ap (λ (z : Zero). z.history) c.self.view_is in
    let made = made_of_room c.args.self.now.history c.args.offer c.in-Ok.room.0.value c.in-Ok.room.1.items c.in-Ok.room.2 c.record_at-written.result c.in-Ok-commit.ts c.in-Ok.ensures.ok c.record_at-written.ensures c.requires.made_of in
    let put : event_of (entries c.room_for.new.past) c.record_at-written.result c.committed_what-what.result ≡ commit_of c.args.offer c.self.inside.oracle.next =
    ap (λ (h : List Entry). event_of h c.record_at-written.result c.committed_what-what.result) same ∙ (c.committed_what-what.ensures.event c.args.self.now.history c.record_at-written.result ∙ (made ∙ ap (commit_of c.args.offer) c.in-Ok-commit.ensures.ts)) in
    rw (c.in-Ok-commit.ensures.ok, ap (λ (o : Offer). o.keys) c.in-Ok.ensures.ok) (committed c.self.inside.groups c.self.inside.oracle c.self.inside.next_uid (arc_value c.self.inside.schema) c.self.inside.tablets.items (arc_value c.self.inside.owners) (entries c.self.inside.past) c.args.self.now.history (ap (λ (z : Zero). z.history) c.self.view_is) c.args.slip c.args.offer c.self.invariant c.requires.active (entries c.append_with.new.past) c.requires.judged c.in-Ok-commit.ensures.not_spent c.requires.sound c.requires.made_of (c.append_with.ensures ∙ (λ i. and_entry (c.room_for.ensures.same i) c.args.slip (put i))))

pub returns-clause-clear : goal.returns-clause-clear
returns-clause-clear c = clear c.self.inside.groups c.self.inside.oracle c.self.inside.next_uid (arc_value c.self.inside.schema) c.self.inside.tablets.items (arc_value c.self.inside.owners) (entries c.self.inside.past) c.args.self.now.history (ap (λ (z : Zero). z.history) c.self.view_is) c.args.slip c.args.offer c.self.invariant c.requires.active c.requires.judged

pub returns-clause-legal : goal.returns-clause-legal
returns-clause-legal c =
    let same : entries c.room_for.new.past ≡ c.args.self.now.history = c.room_for.ensures.same ∙ ap (λ (z : Zero). z.history) c.self.view_is in
    let made = made_of_room c.args.self.now.history c.args.offer c.in-Ok.room.0.value c.in-Ok.room.1.items c.in-Ok.room.2 c.record_at-written.result c.in-Ok-commit.ts c.in-Ok.ensures.ok c.record_at-written.ensures c.requires.made_of in
    let put : event_of (entries c.room_for.new.past) c.record_at-written.result c.committed_what-what.result ≡ commit_of c.args.offer c.self.inside.oracle.next =
    ap (λ (h : List Entry). event_of h c.record_at-written.result c.committed_what-what.result) same ∙ (c.committed_what-what.ensures.event c.args.self.now.history c.record_at-written.result ∙ (made ∙ ap (commit_of c.args.offer) c.in-Ok-commit.ensures.ts)) in
    (committed c.self.inside.groups c.self.inside.oracle c.self.inside.next_uid (arc_value c.self.inside.schema) c.self.inside.tablets.items (arc_value c.self.inside.owners) (entries c.self.inside.past) c.args.self.now.history (ap (λ (z : Zero). z.history) c.self.view_is) c.args.slip c.args.offer c.self.invariant c.requires.active (entries c.append_with.new.past) c.requires.judged c.in-Ok-commit.ensures.not_spent c.requires.sound c.requires.made_of (c.append_with.ensures ∙ (λ i. and_entry (c.room_for.ensures.same i) c.args.slip (put i)))).legal

pub committed_what-what-requires : goal.committed_what-what-requires
committed_what-what-requires c = rw (ap (λ (o : Offer). o.preds) c.in-Ok.ensures.ok) c.requires.sound.some
