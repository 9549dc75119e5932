use Rattle.std.proofs.Common.{◌≡◌, set, ap, sym, subst}
use Rattle.std.specs.Prelude.{IfOk, OnErr}
use Rattle.dg_wire.specs.declared.reply.Reply.{Reply}
use Rattle.dg_node.specs.declared.engine.Slot.{Slot}
use Rattle.dg_node.specs.Held.{Held}
use Rattle.dg_node.specs.Machine.{Machine}
use Rattle.dg_node.specs.State.{Leads}
use Rattle.dg_node.proofs.OneAmong.{it_is}
use Rattle.dg_node.proofs.Slots.{held_by, slot_of}
use Rattle.dg_wire.specs.declared.request.Request.TheVariants as requests
use Rattle.dg_node.specs.Steps.{Spares}
use Rattle.dg_node.specs.Upserts.{Upserts, UpsertsIn}
use Rattle.dg_node.proofs.Tabled.{none_at, some_at, missing_leads, session_there, stayed_kept_by, stayed_leads_by, stayed_spares_by}
use Rattle.dg_node.proofs.engine.Engine.upsert.Goals as goal

pub returns-in_default-clause-ok : goal.returns-in_default-clause-ok
returns-in_default-clause-ok g c =
    let list = g.P.Patterns.refused c.args.patterns.now in
    let z = c.self.inside.cluster in
    let slots = c.self.inside.slots.items in
    let sid = c.args.sid in
    let none = none_at slots c.as_slice.result.now sid c.place_of.result c.as_slice.ensures.value c.place_of.ensures.place c.in_default.is in
    subst (λ (h : Held). Leads h (λ (m n : Machine). Upserts list m sid c.args.body.now c.no_session.result n) h) c.self.view_is
    (missing_leads z slots sid c.self.invariant none (λ (m n : Machine). Upserts list m sid c.args.body.now c.no_session.result n)
    (λ m e. subst (λ o. UpsertsIn list m sid o c.args.body.now c.no_session.result m) (sym e) (ap (λ (p : Reply). (p, m)) (sym c.no_session.ensures))))

pub upsert-requires-clause-session : goal.upsert-requires-clause-session
upsert-requires-clause-session g c = λ κs within.
    let z = c.self.inside.cluster in
    let slots = c.self.inside.slots.items in
    let sid = c.args.sid in
    let a = some_at slots c.as_slice.result.now sid c.place_of.result c.in-Some.place c.as_slice.ensures.value c.place_of.ensures.place c.in-Some.is in
    let d = c.index_mut.result.now in
    let it : d ≡ a.it = it_is (λ (s : Slot). s.sid) sid slots c.in-Some.place a d c.index_mut.ensures.value in
    session_there z slots sid c.in-Some.place c.self.invariant a d it

pub invariant_of-self : goal.invariant_of-self
invariant_of-self g c =
    let list = g.P.Patterns.refused c.upsert.new.patterns in
    let z = c.self.inside.cluster in
    let slots = c.self.inside.slots.items in
    let sid = c.args.sid in
    let a = some_at slots c.as_slice.result.now sid c.place_of.result c.in-Some.place c.as_slice.ensures.value c.place_of.ensures.place c.in-Some.is in
    let d = c.index_mut.result.now in
    let it : d ≡ a.it = it_is (λ (s : Slot). s.sid) sid slots c.in-Some.place a d c.index_mut.ensures.value in
    stayed_kept_by z slots sid c.in-Some.place c.self.invariant a d it c.upsert.new.cluster c.upsert.new.session (λ (p : Reply) (m n : Machine). Upserts list m c.args.sid c.args.body.now p n) (λ (m n : Machine). Spares (requests.Upsert c.args.sid c.args.body.now) m n) c.upsert.ensures.stays c.upsert.result c.upsert.ensures.ok c.upsert.ensures.err c.upsert.ensures.legal c.upsert.ensures.session

pub returns-clause-ok : goal.returns-clause-ok
returns-clause-ok g c =
    let list = g.P.Patterns.refused c.upsert.new.patterns in
    let z = c.self.inside.cluster in
    let slots = c.self.inside.slots.items in
    let sid = c.args.sid in
    let a = some_at slots c.as_slice.result.now sid c.place_of.result c.in-Some.place c.as_slice.ensures.value c.place_of.ensures.place c.in-Some.is in
    let d = c.index_mut.result.now in
    let it : d ≡ a.it = it_is (λ (s : Slot). s.sid) sid slots c.in-Some.place a d c.index_mut.ensures.value in
    subst (λ (h : Held). IfOk c.upsert.result (λ (p : Reply). Leads h (λ (m n : Machine). Upserts list m sid c.args.body.now p n) (held_by c.upsert.new.cluster (set slots c.in-Some.place (slot_of d.sid c.upsert.new.session))))) c.self.view_is
    (stayed_leads_by z slots sid c.in-Some.place c.self.invariant a d it c.upsert.new.cluster c.upsert.new.session (λ (p : Reply) (m n : Machine). Upserts list m c.args.sid c.args.body.now p n) (λ (m n : Machine). Spares (requests.Upsert c.args.sid c.args.body.now) m n) c.upsert.ensures.stays c.upsert.result c.upsert.ensures.ok c.at_rest.ensures.rest)

pub returns-clause-err : goal.returns-clause-err
returns-clause-err g c =
    let list = g.P.Patterns.refused c.upsert.new.patterns in
    let z = c.self.inside.cluster in
    let slots = c.self.inside.slots.items in
    let sid = c.args.sid in
    let a = some_at slots c.as_slice.result.now sid c.place_of.result c.in-Some.place c.as_slice.ensures.value c.place_of.ensures.place c.in-Some.is in
    let d = c.index_mut.result.now in
    let it : d ≡ a.it = it_is (λ (s : Slot). s.sid) sid slots c.in-Some.place a d c.index_mut.ensures.value in
    subst (λ (h : Held). OnErr c.upsert.result (Leads h (λ (m n : Machine). Spares (requests.Upsert c.args.sid c.args.body.now) m n) (held_by c.upsert.new.cluster (set slots c.in-Some.place (slot_of d.sid c.upsert.new.session))))) c.self.view_is
    (stayed_spares_by z slots sid c.in-Some.place c.self.invariant a d it c.upsert.new.cluster c.upsert.new.session (λ (p : Reply) (m n : Machine). Upserts list m c.args.sid c.args.body.now p n) (λ (m n : Machine). Spares (requests.Upsert c.args.sid c.args.body.now) m n) c.upsert.ensures.stays c.upsert.result c.upsert.ensures.err c.at_rest.ensures.rest)
