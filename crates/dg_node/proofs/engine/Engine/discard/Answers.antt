use Rattle.std.proofs.Common.{◌≡◌, List, ap, sym, subst, ◌∙◌}
use Rattle.dg_wire.specs.declared.reply.Reply.{Reply}
use Rattle.dg_node.specs.declared.engine.Slot.{Slot}
use Rattle.dg_node.specs.Held.{Held}
use Rattle.dg_node.specs.Kept.{IsKept}
use Rattle.dg_node.specs.Machine.{Machine}
use Rattle.dg_node.specs.Sessions.{IsSession}
use Rattle.dg_node.specs.State.{Leads}
use Rattle.dg_node.proofs.OneAmong.{it_is}
use Rattle.dg_node.proofs.Slots.{held_by}
use Rattle.dg_node.specs.Transactions.{discarded}
use Rattle.dg_node.proofs.ReplyLemmas.{no_discard}
use Rattle.dg_node.proofs.Tabled.{none_at, some_at, missing_leads, session_there, ended_kept, ended_leads}
use Rattle.dg_node.proofs.engine.Engine.discard.Goals as goal

pub returns-in_default : goal.returns-in_default
returns-in_default c =
    let z = c.self.inside.cluster in
    let slots = c.self.inside.slots.items in
    let sid = c.args.sid in
    let none = none_at slots c.as_slice.result.now sid c.place_of.result c.as_slice.ensures.value c.place_of.ensures.place c.in_default.is in
    subst (λ (h : Held). Leads h (λ (m n : Machine). ◌≡◌ {A = Reply × Machine} (discarded m sid) (c.no_session.result, n)) h) c.self.view_is
    (missing_leads z slots sid c.self.invariant none (λ (m n : Machine). ◌≡◌ {A = Reply × Machine} (discarded m sid) (c.no_session.result, n))
    (λ m e. no_discard m sid e ∙ ap (λ (p : Reply). (p, m)) (sym c.no_session.ensures)))

pub discard-reply-requires-clause-session : goal.discard-reply-requires-clause-session
discard-reply-requires-clause-session c =
    let z = c.self.inside.cluster in
    let slots = c.self.inside.slots.items in
    let sid = c.args.sid in
    let a = some_at slots c.as_slice.result.now sid c.place_of.result c.in-Some.place c.as_slice.ensures.value c.place_of.ensures.place c.in-Some.is in
    let d = c.index_mut.result.now in
    let it : d ≡ a.it = it_is (λ (s : Slot). s.sid) sid slots c.in-Some.place a d c.index_mut.ensures.value in
    session_there z slots sid c.in-Some.place c.self.invariant a d it

pub invariant_of-self : goal.invariant_of-self
invariant_of-self c =
    let z = c.self.inside.cluster in
    let slots = c.self.inside.slots.items in
    let sid = c.args.sid in
    let a = some_at slots c.as_slice.result.now sid c.place_of.result c.in-Some.place c.as_slice.ensures.value c.place_of.ensures.place c.in-Some.is in
    let d = c.index_mut.result.now in
    let it : d ≡ a.it = it_is (λ (s : Slot). s.sid) sid slots c.in-Some.place a d c.index_mut.ensures.value in
    subst (IsKept c.discard-reply.new.cluster) (sym c.drop_closed.ensures)
    (ended_kept z slots sid c.in-Some.place c.self.invariant a d it c.discard-reply.new.cluster c.discard-reply.new.session (λ (m n : Machine). ◌≡◌ {A = Reply × Machine} (discarded m sid) (c.discard-reply.result, n)) c.discard-reply.ensures.ok c.discard-reply.ensures.legal (subst (IsSession c.discard-reply.new.cluster 0) (sym c.discard-reply.ensures.closed) tt))

pub returns : goal.returns
returns c =
    let z = c.self.inside.cluster in
    let slots = c.self.inside.slots.items in
    let sid = c.args.sid in
    let a = some_at slots c.as_slice.result.now sid c.place_of.result c.in-Some.place c.as_slice.ensures.value c.place_of.ensures.place c.in-Some.is in
    let d = c.index_mut.result.now in
    let it : d ≡ a.it = it_is (λ (s : Slot). s.sid) sid slots c.in-Some.place a d c.index_mut.ensures.value in
    subst (λ (h : Held). Leads h (λ (m n : Machine). ◌≡◌ {A = Reply × Machine} (discarded m sid) (c.discard-reply.result, n)) (held_by c.discard-reply.new.cluster c.drop_closed.new.slots.items)) c.self.view_is
    (subst (λ (l : List Slot). Leads (held_by z slots) (λ (m n : Machine). ◌≡◌ {A = Reply × Machine} (discarded m sid) (c.discard-reply.result, n)) (held_by c.discard-reply.new.cluster l)) (sym c.drop_closed.ensures)
    (ended_leads z slots sid c.in-Some.place c.self.invariant a d it c.discard-reply.new.cluster c.discard-reply.new.session (λ (m n : Machine). ◌≡◌ {A = Reply × Machine} (discarded m sid) (c.discard-reply.result, n)) c.discard-reply.ensures.ok c.at_rest.ensures.rest))
