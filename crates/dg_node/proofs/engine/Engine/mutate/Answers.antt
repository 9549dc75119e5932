use Rattle.std.proofs.Common.{◌≡◌, set, ap, sym, subst}
use Rattle.std.specs.Prelude.{IfOk, OnErr}
use Rattle.dg_wire.specs.declared.reply.Reply.{Reply}
use Rattle.dg_node.specs.declared.engine.Slot.{Slot}
use Rattle.dg_node.specs.Held.{Held}
use Rattle.dg_node.specs.Machine.{Machine}
use Rattle.dg_node.specs.State.{Leads}
use Rattle.dg_node.proofs.OneAmong.{it_is}
use Rattle.dg_node.proofs.Slots.{held_by, slot_of}
use Rattle.dg_wire.specs.declared.request.Request.TheVariants as requests
use Rattle.dg_node.specs.Mutations.{Mutates, MutatesIn}
use Rattle.dg_node.specs.Steps.{Spares}
use Rattle.dg_node.proofs.Tabled.{none_at, some_at, missing_leads, session_there, stayed_kept_by, stayed_leads_by, stayed_spares_by}
use Rattle.dg_node.proofs.engine.Engine.mutate.Goals as goal

pub returns-in_default-clause-ok : goal.returns-in_default-clause-ok
returns-in_default-clause-ok c =
    let z = c.self.inside.cluster in
    let slots = c.self.inside.slots.items in
    let sid = c.args.sid in
    let none = none_at slots c.as_slice.result.now sid c.place_of.result c.as_slice.ensures.value c.place_of.ensures.place c.in_default.is in
    subst (λ (h : Held). Leads h (λ (m n : Machine). Mutates m sid c.args.body.now c.no_session.result n) h) c.self.view_is
    (missing_leads z slots sid c.self.invariant none (λ (m n : Machine). Mutates m sid c.args.body.now c.no_session.result n)
    (λ m e. subst (λ o. MutatesIn m sid o c.args.body.now c.no_session.result m) (sym e) (ap (λ (p : Reply). (p, m)) (sym c.no_session.ensures))))

pub mutate-requires-clause-session : goal.mutate-requires-clause-session
mutate-requires-clause-session c =
    let z = c.self.inside.cluster in
    let slots = c.self.inside.slots.items in
    let sid = c.args.sid in
    let a = some_at slots c.as_slice.result.now sid c.place_of.result c.in-Some.place c.as_slice.ensures.value c.place_of.ensures.place c.in-Some.is in
    let d = c.index_mut.result.now in
    let it : d ≡ a.it = it_is (λ (s : Slot). s.sid) sid slots c.in-Some.place a d c.index_mut.ensures.value in
    session_there z slots sid c.in-Some.place c.self.invariant a d it

pub invariant_of-self : goal.invariant_of-self
invariant_of-self c =
    let z = c.self.inside.cluster in
    let slots = c.self.inside.slots.items in
    let sid = c.args.sid in
    let a = some_at slots c.as_slice.result.now sid c.place_of.result c.in-Some.place c.as_slice.ensures.value c.place_of.ensures.place c.in-Some.is in
    let d = c.index_mut.result.now in
    let it : d ≡ a.it = it_is (λ (s : Slot). s.sid) sid slots c.in-Some.place a d c.index_mut.ensures.value in
    stayed_kept_by z slots sid c.in-Some.place c.self.invariant a d it c.mutate.new.cluster c.mutate.new.session (λ (p : Reply) (m n : Machine). Mutates m c.args.sid c.args.body.now p n) (λ (m n : Machine). Spares (requests.Mutate c.args.sid c.args.body.now) m n) c.mutate.ensures.stays c.mutate.result c.mutate.ensures.ok c.mutate.ensures.err c.mutate.ensures.legal c.mutate.ensures.session

pub returns-clause-ok : goal.returns-clause-ok
returns-clause-ok c =
    let z = c.self.inside.cluster in
    let slots = c.self.inside.slots.items in
    let sid = c.args.sid in
    let a = some_at slots c.as_slice.result.now sid c.place_of.result c.in-Some.place c.as_slice.ensures.value c.place_of.ensures.place c.in-Some.is in
    let d = c.index_mut.result.now in
    let it : d ≡ a.it = it_is (λ (s : Slot). s.sid) sid slots c.in-Some.place a d c.index_mut.ensures.value in
    subst (λ (h : Held). IfOk c.mutate.result (λ (p : Reply). Leads h (λ (m n : Machine). Mutates m sid c.args.body.now p n) (held_by c.mutate.new.cluster (set slots c.in-Some.place (slot_of d.sid c.mutate.new.session))))) c.self.view_is
    (stayed_leads_by z slots sid c.in-Some.place c.self.invariant a d it c.mutate.new.cluster c.mutate.new.session (λ (p : Reply) (m n : Machine). Mutates m c.args.sid c.args.body.now p n) (λ (m n : Machine). Spares (requests.Mutate c.args.sid c.args.body.now) m n) c.mutate.ensures.stays c.mutate.result c.mutate.ensures.ok c.at_rest.ensures.rest)

pub returns-clause-err : goal.returns-clause-err
returns-clause-err c =
    let z = c.self.inside.cluster in
    let slots = c.self.inside.slots.items in
    let sid = c.args.sid in
    let a = some_at slots c.as_slice.result.now sid c.place_of.result c.in-Some.place c.as_slice.ensures.value c.place_of.ensures.place c.in-Some.is in
    let d = c.index_mut.result.now in
    let it : d ≡ a.it = it_is (λ (s : Slot). s.sid) sid slots c.in-Some.place a d c.index_mut.ensures.value in
    subst (λ (h : Held). OnErr c.mutate.result (Leads h (λ (m n : Machine). Spares (requests.Mutate c.args.sid c.args.body.now) m n) (held_by c.mutate.new.cluster (set slots c.in-Some.place (slot_of d.sid c.mutate.new.session))))) c.self.view_is
    (stayed_spares_by z slots sid c.in-Some.place c.self.invariant a d it c.mutate.new.cluster c.mutate.new.session (λ (p : Reply) (m n : Machine). Mutates m c.args.sid c.args.body.now p n) (λ (m n : Machine). Spares (requests.Mutate c.args.sid c.args.body.now) m n) c.mutate.ensures.stays c.mutate.result c.mutate.ensures.err c.at_rest.ensures.rest)
