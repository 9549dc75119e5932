use Rattle.std.proofs.Common.{◌≡◌, List, ap, sym, subst, ◌∙◌}
use Rattle.std.specs.Prelude.{IfOk, OnErr}
use Rattle.dg_wire.specs.declared.reply.Reply.{Reply}
use Rattle.dg_node.specs.declared.engine.Slot.{Slot}
use Rattle.dg_node.specs.Held.{Held}
use Rattle.dg_node.specs.Kept.{IsKept}
use Rattle.dg_node.specs.Machine.{Machine}
use Rattle.dg_node.specs.State.{machine_of, Leads, Stays}
use Rattle.dg_node.proofs.OneAmong.{it_is}
use Rattle.dg_node.proofs.Slots.{held_by}
use Rattle.dg_node.specs.Transactions.{committed, HasChanges}
use Rattle.dg_node.proofs.ReplyLemmas.{no_commit}
use Rattle.dg_node.proofs.Tabled.{none_at, some_at, missing_leads, session_there, wants_there, ended_kept_by, ended_leads_by, ended_spares_by, stays_by}
use Rattle.dg_node.proofs.engine.Engine.commit.Goals as goal

pub returns-in_default-clause-ok : goal.returns-in_default-clause-ok
returns-in_default-clause-ok c =
    let z = c.self.inside.cluster in
    let slots = c.self.inside.slots.items in
    let sid = c.args.sid in
    let none = none_at slots c.as_slice.result.now sid c.place_of.result c.as_slice.ensures.value c.place_of.ensures.place c.in_default.is in
    subst (λ (h : Held). Leads h (λ (m n : Machine). ◌≡◌ {A = Reply × Machine} (committed m sid) (c.no_session.result, n)) h) c.self.view_is
    (missing_leads z slots sid c.self.invariant none (λ (m n : Machine). ◌≡◌ {A = Reply × Machine} (committed m sid) (c.no_session.result, n))
    (λ m e. no_commit m sid e ∙ ap (λ (p : Reply). (p, m)) (sym c.no_session.ensures)))

pub commit-reply-requires-clause-session : goal.commit-reply-requires-clause-session
commit-reply-requires-clause-session c =
    let z = c.self.inside.cluster in
    let slots = c.self.inside.slots.items in
    let sid = c.args.sid in
    let a = some_at slots c.as_slice.result.now sid c.place_of.result c.in-Some.place c.as_slice.ensures.value c.place_of.ensures.place c.in-Some.is in
    let d = c.index_mut.result.now in
    let it : d ≡ a.it = it_is (λ (s : Slot). s.sid) sid slots c.in-Some.place a d c.index_mut.ensures.value in
    session_there z slots sid c.in-Some.place c.self.invariant a d it

pub invariant_of-self : goal.invariant_of-self
invariant_of-self c =
    let z = c.self.inside.cluster in
    let slots = c.self.inside.slots.items in
    let sid = c.args.sid in
    let a = some_at slots c.as_slice.result.now sid c.place_of.result c.in-Some.place c.as_slice.ensures.value c.place_of.ensures.place c.in-Some.is in
    let d = c.index_mut.result.now in
    let it : d ≡ a.it = it_is (λ (s : Slot). s.sid) sid slots c.in-Some.place a d c.index_mut.ensures.value in
    subst (IsKept c.commit-reply.new.cluster) (sym c.drop_closed.ensures)
    (ended_kept_by z slots sid c.in-Some.place c.self.invariant a d it c.commit-reply.new.cluster c.commit-reply.new.session (λ (p : Reply) (m n : Machine). ◌≡◌ {A = Reply × Machine} (committed m c.args.sid) (p, n)) (λ (m n : Machine). n ≡ m) c.commit-reply.result c.commit-reply.ensures.ok c.commit-reply.ensures.err c.commit-reply.ensures.legal c.commit-reply.ensures.session)

pub returns-clause-ok : goal.returns-clause-ok
returns-clause-ok c =
    let z = c.self.inside.cluster in
    let slots = c.self.inside.slots.items in
    let sid = c.args.sid in
    let a = some_at slots c.as_slice.result.now sid c.place_of.result c.in-Some.place c.as_slice.ensures.value c.place_of.ensures.place c.in-Some.is in
    let d = c.index_mut.result.now in
    let it : d ≡ a.it = it_is (λ (s : Slot). s.sid) sid slots c.in-Some.place a d c.index_mut.ensures.value in
    subst (λ (h : Held). IfOk c.commit-reply.result (λ (p : Reply). Leads h (λ (m n : Machine). ◌≡◌ {A = Reply × Machine} (committed m sid) (p, n)) (held_by c.commit-reply.new.cluster c.drop_closed.new.slots.items))) c.self.view_is
    (subst (λ (l : List Slot). IfOk c.commit-reply.result (λ (p : Reply). Leads (held_by z slots) (λ (m n : Machine). ◌≡◌ {A = Reply × Machine} (committed m sid) (p, n)) (held_by c.commit-reply.new.cluster l))) (sym c.drop_closed.ensures)
    (ended_leads_by z slots sid c.in-Some.place c.self.invariant a d it c.commit-reply.new.cluster c.commit-reply.new.session (λ (p : Reply) (m n : Machine). ◌≡◌ {A = Reply × Machine} (committed m c.args.sid) (p, n)) (λ (m n : Machine). n ≡ m) c.commit-reply.result c.commit-reply.ensures.ok c.at_rest.ensures.rest))

pub returns-clause-err : goal.returns-clause-err
returns-clause-err c =
    let z = c.self.inside.cluster in
    let slots = c.self.inside.slots.items in
    let sid = c.args.sid in
    let a = some_at slots c.as_slice.result.now sid c.place_of.result c.in-Some.place c.as_slice.ensures.value c.place_of.ensures.place c.in-Some.is in
    let d = c.index_mut.result.now in
    let it : d ≡ a.it = it_is (λ (s : Slot). s.sid) sid slots c.in-Some.place a d c.index_mut.ensures.value in
    subst (λ (h : Held). OnErr c.commit-reply.result (Stays h (held_by c.commit-reply.new.cluster c.drop_closed.new.slots.items))) c.self.view_is
    (subst (λ (l : List Slot). OnErr c.commit-reply.result (Stays (held_by z slots) (held_by c.commit-reply.new.cluster l))) (sym c.drop_closed.ensures)
    (stays_by c.commit-reply.result (held_by z slots) _ (ended_spares_by z slots sid c.in-Some.place c.self.invariant a d it c.commit-reply.new.cluster c.commit-reply.new.session (λ (p : Reply) (m n : Machine). ◌≡◌ {A = Reply × Machine} (committed m c.args.sid) (p, n)) (λ (m n : Machine). n ≡ m) c.commit-reply.result c.commit-reply.ensures.err c.at_rest.ensures.rest)))

pub returns-clause-wants : goal.returns-clause-wants
returns-clause-wants c =
    let z = c.self.inside.cluster in
    let slots = c.self.inside.slots.items in
    let sid = c.args.sid in
    let a = some_at slots c.as_slice.result.now sid c.place_of.result c.in-Some.place c.as_slice.ensures.value c.place_of.ensures.place c.in-Some.is in
    let d = c.index_mut.result.now in
    let it : d ≡ a.it = it_is (λ (s : Slot). s.sid) sid slots c.in-Some.place a d c.index_mut.ensures.value in
    subst (λ (h : Held). OnErr c.commit-reply.result (HasChanges (machine_of h) sid)) c.self.view_is
    (wants_there z slots sid c.in-Some.place c.self.invariant a d it c.commit-reply.result c.commit-reply.ensures.wants)
